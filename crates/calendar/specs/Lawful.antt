-- Why the calendar by rule and the calendar of a list keep what every calendar keeps.
use Rattle.std.specs.Prelude.{◌≡◌, ℕ, ◌+◌, ◌≤◌, Bool, true, false, cond, ◌&&◌, ◌||◌, ◌⊎◌, List, [], ◌∷◌, ◌==◌, nat_le, refl}
use Rattle.std.proofs.Common.{inl, inr, arith, lit<}
use Rattle.std.proofs.lemmas.Bool.{and_parts, or_cases, leb-true, eqb-true}
use Rattle.calendar.specs.declared.day.Day.{Day}
use Rattle.calendar.specs.declared.day.ListedDay.{ListedDay}
use Rattle.calendar.specs.Meaning.{Lawful, trades}
use Rattle.calendar.specs.Rule.{by_rule}
use Rattle.calendar.specs.Listed.{allowed, may_stand, rise_within, listed_day, by_list}

utc_or_hour : (b : Bool) → (◌≡◌ {A = ℕ} (cond b 3600 0) 0) ⊎ (◌≡◌ {A = ℕ} (cond b 3600 0) 3600)
utc_or_hour true = inr refl
utc_or_hour false = inl refl

pub rule_lawful : Lawful by_rule
rule_lawful = record { fits = lit< tt; hour = λ day from until. utc_or_hour _ }

-- what a list that rises says of its first day and of the rest
pub record Begins (first last : ℕ) (x : ListedDay) (xs : List ListedDay) : Type 0 where
  pub from : first ≤ x.day
  pub until : x.day ≤ last
  pub good : allowed x ≡ true
  pub rest : rise_within (x.day + 1) last xs ≡ true

pub begins : (first last : ℕ) (x : ListedDay) (xs : List ListedDay) → rise_within first last (x ∷ xs) ≡ true → Begins first last x xs
begins first last x xs h =
    let all = and_parts (may_stand first last x) (rise_within (x.day + 1) last xs) h in
    let stands = and_parts (nat_le first x.day && nat_le x.day last) (allowed x) all.0 in
    let ends = and_parts (nat_le first x.day) (nat_le x.day last) stands.0 in
    record { from = leb-true first x.day ends.0; until = leb-true x.day last ends.1; good = stands.1; rest = all.1 }

either : (n : ℕ) → (n == 0 || n == 3600) ≡ true → (n ≡ 0) ⊎ (n ≡ 3600)
either n h = elim (or_cases (n == 0) (n == 3600) h) [ inl e ↦ inl (eqb-true n 0 e) | inr e ↦ inr (eqb-true n 3600 e) ]

cond_case : (t : Bool) (x y : Day) → (x.offset ≡ 0) ⊎ (x.offset ≡ 3600) → (y.offset ≡ 0) ⊎ (y.offset ≡ 3600)
    → ((cond t x y).offset ≡ 0) ⊎ ((cond t x y).offset ≡ 3600)
cond_case true x y p q = p
cond_case false x y p q = q

-- the offsets of a list are those allowed
offset_allowed : (first last day : ℕ) (xs : List ListedDay) → rise_within first last xs ≡ true → ((listed_day xs day).offset ≡ 0) ⊎ ((listed_day xs day).offset ≡ 3600)
offset_allowed first last day [] h = inl refl
offset_allowed first last day (x ∷ xs) h =
    let b = begins first last x xs h in
    let here : (x.offset ≡ 0) ⊎ (x.offset ≡ 3600) = either x.offset (and_parts (trades x.kind) _ b.good).1 in
    cond_case (x.day == day) (record { kind = x.kind; offset = x.offset }) (listed_day xs day) here (offset_allowed (x.day + 1) last day xs b.rest)

pub list_lawful : (first last : ℕ) (xs : List ListedDay) → last ≤ 84005 → rise_within first last xs ≡ true → Lawful (by_list first last xs)
list_lawful first last xs short rises = record { fits = omega arith; hour = λ day from until. offset_allowed first last day xs rises }
