-- The calendar by rule with three days written out: what asks about these alone computes.
use Rattle.std.proofs.Common.{◌≡◌, ℕ, Bool, true, false, cond, eqb, sym, refl, ap, ◌∙◌, lit≤}
use Rattle.std.proofs.lemmas.Bool.{eqb-true}
use Rattle.civil.specs.Weekdays.{last_sunday}
use Rattle.civil.specs.declared.month.Month.TheVariants.{May}
use Rattle.calendar.proofs.Dated.{on_date}
use Rattle.calendar.specs.declared.day.Kind.TheVariants.{Full}
use Rattle.calendar.specs.Easter.{easter_sunday}
use Rattle.calendar.specs.Meaning.{Meaning}
use Rattle.calendar.specs.Rule.{by_rule, kind_on, offset_on}

-- a function with its value at one place written out
abbrev pub written_at : {X : Type 0} → ℕ → X → (ℕ → X) → ℕ → X
written_at place x f n = cond (eqb n place) x (f n)

same_at : {X : Type 0} (place : ℕ) (x : X) (f : ℕ → X) (n : ℕ) (b : Bool) → eqb n place ≡ b → f place ≡ x → cond b x (f n) ≡ f n
same_at place x f n true t e = sym e ∙ ap f (sym (eqb-true n place t))
same_at place x f n false t e = refl

-- is the same function
written_same : {X : Type 0} (place : ℕ) (x : X) (f : ℕ → X) → f place ≡ x → written_at place x f ≡ f
written_same place x f e = λ i n. same_at place x f n (eqb n place) refl e i

-- 7, 8 and 9 May 2018 written out
abbrev pub week : {X : Type 0} → X → (ℕ → X) → ℕ → X
week x f = written_at 17658 x (written_at 17659 x (written_at 17660 x f))

week_same : {X : Type 0} (x : X) (f : ℕ → X) → f 17658 ≡ x → f 17659 ≡ x → f 17660 ≡ x → week x f ≡ f
week_same x f a b c =
    ap (λ g. written_at 17658 x (written_at 17659 x g)) (written_same 17660 x f c)
    ∙ ap (written_at 17658 x) (written_same 17659 x f b) ∙ written_same 17658 x f a

-- these are full days of summer time
kinds : week Full by_rule.kind ≡ by_rule.kind
unfolding easter_sunday last_sunday
kinds =
    week_same Full by_rule.kind (on_date kind_on 2018 7 May Full (lit≤ tt) (lit≤ tt) (lit≤ tt) refl)
    (on_date kind_on 2018 8 May Full (lit≤ tt) (lit≤ tt) (lit≤ tt) refl) (on_date kind_on 2018 9 May Full (lit≤ tt) (lit≤ tt) (lit≤ tt) refl)

offsets : week 3600 by_rule.offset ≡ by_rule.offset
unfolding last_sunday
offsets =
    week_same 3600 by_rule.offset (on_date offset_on 2018 7 May 3600 (lit≤ tt) (lit≤ tt) (lit≤ tt) refl)
    (on_date offset_on 2018 8 May 3600 (lit≤ tt) (lit≤ tt) (lit≤ tt) refl) (on_date offset_on 2018 9 May 3600 (lit≤ tt) (lit≤ tt) (lit≤ tt) refl)

abbrev pub by_rule_in_may : Meaning
by_rule_in_may =
    record { first = by_rule.first; last = by_rule.last; kind = week Full by_rule.kind; offset = week 3600 by_rule.offset }

-- so the calendar is the same
pub in_may : by_rule_in_may ≡ by_rule
in_may = λ i. record { first = by_rule.first; last = by_rule.last; kind = kinds i; offset = offsets i }
