-- What holds of every notebook that a lawful history leaves: of its days, and of its trades whatever their state.
use Rattle.std.proofs.Common.{◌≡◌, ℕ, zero, suc, ◌<◌, ◌≤◌, Bool, true, eqb, List, [], ◌∷◌, take, Some, sym, refl, subst, arith, inl, inr, Option}
use Rattle.std.specs.List.{find, AllByRecursion as All}
use Rattle.std.proofs.ByRecursion.{All-weaker, All-take}
use Rattle.std.proofs.lemmas.Bool.{eqb-true, or_cases, cond_both}
use Rattle.std.proofs.lemmas.Option.{same_Some}
use Rattle.calendar.specs.Meaning.{Meaning, Lawful as Kept, trading}
use Rattle.calendar.specs.Trading.{close, next_trading_day}
use Rattle.deferral.specs.declared.deadlines.Deadlines.{Deadlines}
use Rattle.deferral.specs.declared.opened.Opened.{Opened}
use Rattle.deferral.specs.Deadlines.{day_of, deadlines}
use Rattle.deferral.specs.Publication.{Timely}
use Rattle.deferral.proofs.Opening.{next_found}
use Rattle.deferral.proofs.Timely.{timely}
use Rattle.rulebook.specs.declared.record.Record.{Record}
use Rattle.rulebook.specs.Notebook.{Rules, Notebook, among, latest}
use Rattle.rulebook.proofs.Days.{Noted}

-- deadlines of an execution day that is not after a day
pub record Dates (m : Meaning) (execution_day : ℕ) (d : Deadlines) (day : ℕ) : Type 0 where
  pub next : ℕ
  pub trades : trading m execution_day ≡ true
  pub next_is : next_trading_day m execution_day ≡ Some next
  pub is : d ≡ deadlines m execution_day next
  pub before : execution_day ≤ day

-- a trade taken on a day, whose moment is at most the close of the trading day after it
pub record Sound (m : Meaning) (execution : ℕ) (d : Deadlines) (day moment : ℕ) : Type 0 where
  pub dates : Dates m (day_of execution) d day
  pub last : ℕ
  pub last_is : next_trading_day m day ≡ Some last
  pub in_time : moment ≤ close m last

abbrev pub SoundTrade : Meaning → Record → Type 0
SoundTrade m t = Sound m t.report.execution t.deadlines t.code.day t.moment

-- of two days held, the later one is not before the trading day after the earlier one
abbrev pub Spaced : List Opened → Type 0
Spaced [] = Unit {0}
Spaced (o ∷ os) = All (λ p. (p.next ≤ o.day) × (p.day < o.day)) os × Spaced os

pub record Held (rules : Rules) (nb : Notebook) : Type 0 where
  pub days : All (Noted rules.calendar) nb.days
  pub spaced : Spaced nb.days
  pub trades : All (SoundTrade rules.calendar) nb.records
  pub placed : All (λ t. among nb.days t.code.day ≡ true) nb.records

-- such deadlines are timely
pub dates_timely : (m : Meaning) (execution : ℕ) (d : Deadlines) (day : ℕ) → Kept m → Dates m (day_of execution) d day → Timely d execution
dates_timely m execution d day law x =
    let after = next_found m (day_of execution) x.next x.next_is in
    subst (λ (y : Deadlines). Timely y execution) (sym x.is)
    (timely m (day_of execution) x.next execution law x.trades after.trades after.after refl)

pub spaced_take : (n : ℕ) (ds : List Opened) → Spaced ds → Spaced (take n ds)
spaced_take zero ds s = tt
spaced_take (suc n) [] s = tt
spaced_take (suc n) (o ∷ os) s = (All-take _ n os s.0, spaced_take n os s.1)

-- what holds of all holds of the first that passes
pub first_has : {X : Type 0} (P : X → Type 0) (p : X → Bool) (x : X) (xs : List X) → All P xs → find p xs ≡ Some x → P x
first_has P p x [] all e = absurd cc
first_has {X} P p x (y ∷ ys) all e =
    cond_both (p y) (Some y) (find p ys) (λ (o : Option X). o ≡ Some x → P x) (λ t f. subst P (same_Some y x f) all.0) (λ t f. first_has P p x ys all.1 f) e

-- a day among days that have a property has it
pub among_has : (P : ℕ → Type 0) (day : ℕ) (ds : List Opened) → All (λ o. P o.day) ds → among ds day ≡ true → P day
among_has P day [] all e = absurd cc
among_has P day (o ∷ os) all e =
    elim (or_cases (eqb o.day day) (among os day) e) [
      | inl f ↦ subst P (eqb-true _ _ f) all.0
      | inr f ↦ among_has P day os all.1 f
    ]

-- no day held is after the latest
pub upto_latest : (day : ℕ) (o : Opened) (ds : List Opened) → Spaced ds → latest ds ≡ Some o → among ds day ≡ true → day ≤ o.day
upto_latest day o [] s e a = absurd cc
upto_latest day o (p ∷ ps) s e a =
    let same : p ≡ o = cc in
    subst (λ (x : Opened). day ≤ x.day) same
    (among_has (λ x. x ≤ p.day) day (p ∷ ps) (omega arith, All-weaker _ (λ q. q.day ≤ p.day) (λ q h. omega arith) ps s.0) a)
