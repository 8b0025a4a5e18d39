-- A day that falls out has no waiting trade, after every lawful history.
use Rattle.std.proofs.Common.{◌≡◌, ◌||◌, ℕ, ◌<◌, ◌≤◌, Bool, true, false, eqb, leb, List, [], ◌∷◌, take, Some, Ok, Err, Result, sym, refl, ◌∙◌, subst, inl, inr, arith}
use Rattle.std.specs.List.{AllByRecursion as All}
use Rattle.std.proofs.ByRecursion.{All-weaker}
use Rattle.std.proofs.lemmas.Bool.{and_cases, le-leb, both_ways, eqb-true, or_cases, or_parts}
use Rattle.std.proofs.lemmas.Option.{same_Some}
use Rattle.std.proofs.lemmas.Bool.Decides.{nat_tests}
use Rattle.refusal.specs.declared.Refusal.{Refusal}
use Rattle.calendar.specs.Meaning.{Meaning}
use Rattle.calendar.specs.Trading.{close, next_trading_day}
use Rattle.deferral.specs.declared.opened.Opened.{Opened}
use Rattle.deferral.specs.Deadlines.{day_of, opened}
use Rattle.deferral.proofs.Timely.{closes}
use Rattle.rulebook.specs.declared.call.Call.TheVariants.{Open}
use Rattle.rulebook.specs.declared.record.Record.{Record}
use Rattle.rulebook.specs.Notebook.{Rules, Notebook, among, waits, is_due}
use Rattle.rulebook.specs.Taken.{day_opened, noted}
use Rattle.rulebook.specs.Desk.{new_desk}
use Rattle.rulebook.specs.FallsOut.{NoneWaits, NothingDue}
use Rattle.rulebook.specs.Grounds.{grounds, too_early}
use Rattle.rulebook.specs.Histories.{History, Lawful, desk_after, notebook_after}
use Rattle.rulebook.proofs.Always.{always}
use Rattle.rulebook.proofs.Days.{Noted, noted_day}
use Rattle.rulebook.proofs.Grounds.{none_there}
use Rattle.rulebook.proofs.Held.{SoundTrade, Spaced, Held}
use Rattle.rulebook.proofs.Keeps.{held_after, spaced_opened}
use Rattle.rulebook.proofs.Settled.{none_due_settled}
use Rattle.rulebook.proofs.Sieves.{all_three}
use Rattle.rulebook.proofs.Settling.{undue_none}

pub none_due_after : (rules : Rules) (h : History) → Lawful rules h
    → All (λ t. is_due (notebook_after rules h).clock t ≡ false) (notebook_after rules h).records
none_due_after rules h lawful =
    always rules (λ d. All (λ t. is_due d.notebook.clock t ≡ false) d.notebook.records)
    (λ d call none all. none_due_settled (noted rules d.notebook call)) new_desk h lawful tt

-- a moment that is at most the close of a day before the clock's is reached
past : (m : Meaning) (last moment clock : ℕ) → moment ≤ close m last → last < day_of clock → moment ≤ clock
past m last moment clock h before = let p = closes (m.kind last) in omega arith

-- the trading day after a day is before an opened day
pub record Out (m : Meaning) (day : ℕ) (o : Opened) : Type 0 where
  pub next : ℕ
  pub next_is : next_trading_day m day ≡ Some next
  pub before : next < o.day

among_out : (m : Meaning) (day : ℕ) (o p : Opened) (ds : List Opened) → p.day < o.day → All (Noted m) ds
    → All (λ q. (q.next ≤ p.day) × (q.day < p.day)) ds → among ds day ≡ true → Out m day o
among_out m day o p [] h all near e = absurd cc
among_out m day o p (q ∷ qs) h all near e =
    elim (or_cases (eqb q.day day) (among qs day) e) [
      | inl f ↦ record {
        next = q.next;
        next_is = subst (λ (x : ℕ). next_trading_day m x ≡ Some q.next) (eqb-true _ _ f) all.0.next_is;
        before = omega (arith, near.0);
      }
      | inr f ↦ among_out m day o p qs h all.1 near.1 f
    ]

pub first_out : (a b c : Bool) → (a || (b || c)) ≡ true → (a || (b || false)) ≡ false → c ≡ true
first_out a b c e f = grind (arith, nat_tests, e, f)

-- a day held that is held no longer once another is opened
falls_out : (m : Meaning) (day : ℕ) (o : Opened) (ds : List Opened) → All (Noted m) ds → Spaced (o ∷ ds) → among ds day ≡ true
    → among (take 3 (o ∷ ds)) day ≡ false → Out m day o
falls_out m day o [] all s a b = absurd cc
falls_out m day o (p ∷ []) all s a b = absurd (both_ways _ (or_parts (eqb o.day day) _ b).1 a)
falls_out m day o (p ∷ q ∷ qs) all s a b =
    let c = (or_parts (eqb o.day day) _ b).1 in
    let e = first_out (eqb p.day day) (eqb q.day day) (among qs day) a c in
    among_out m day o q qs s.0.1.0.1 all.1.1 s.1.1.0 e

-- a trade that is not due and whose moment has come waits no longer
pub waits_not : (clock : ℕ) (t : Record) → t.moment ≤ clock → is_due clock t ≡ false → waits t.state ≡ false
waits_not clock t reached undue =
    elim (and_cases (waits t.state) (leb t.moment clock) undue) [
      | inl e ↦ e
      | inr e ↦ absurd (both_ways _ e (le-leb _ _ reached))
    ]

-- so it is with a trade of such a day
none_waits_out : (m : Meaning) (clock : ℕ) (o : Opened) (t : Record) → o.day ≡ day_of clock → SoundTrade m t → is_due clock t ≡ false
    → Out m t.code.day o → waits t.state ≡ false
none_waits_out m clock o t is sound due out =
    let same : sound.last ≡ out.next = same_Some _ _ (sym sound.last_is ∙ out.next_is) in
    waits_not clock t (past m sound.last t.moment clock sound.in_time (omega (arith, same, is, out.before))) due

module _ (rules : Rules) (nb : Notebook) (held : Held rules nb) (due : All (λ t. is_due nb.clock t ≡ false) nb.records)
    (early : too_early nb (day_of nb.clock) ≡ false)
  where
    none_waits_in : (x : Result Opened Refusal) → opened rules.calendar (day_of nb.clock) ≡ x
        → All (λ t. among (day_opened x nb).days t.code.day ≡ false → waits t.state ≡ false) nb.records
    none_waits_in (Err r) e = All-weaker _ _ (λ t a b. absurd (both_ways _ b a)) nb.records held.placed
    none_waits_in (Ok o) e =
        let n = noted_day rules.calendar (day_of nb.clock) o e in
        let spaced = spaced_opened rules nb o held early n.0 in
        all_three (SoundTrade rules.calendar) _ _ _
        (λ t sound placed here out. none_waits_out rules.calendar nb.clock o t n.0 sound here
        (falls_out rules.calendar t.code.day o nb.days held.days spaced placed out)) nb.records held.trades held.placed due

pub none_waits : NoneWaits
none_waits rules law h lawful none =
    none_waits_in rules (notebook_after rules h) (held_after rules law h lawful) (none_due_after rules h lawful)
    (none_there (grounds rules (desk_after rules h) Open) none).1.1.0 (opened rules.calendar (day_of (notebook_after rules h).clock)) refl

pub nothing_due : NothingDue
nothing_due rules h lawful = undue_none (notebook_after rules h) (none_due_after rules h lawful)
