-- A sound desk has no waiting trade in a day that falls out, whichever calendar the opening is lent.
use Rattle.std.proofs.Common.{◌≡◌, ℕ, ◌*◌, ◌<◌, ◌≤◌, true, false, eqb, List, [], ◌∷◌, take, None, Ok, Err, Result, refl, arith}
use Rattle.std.specs.List.{AllByRecursion as All}
use Rattle.std.proofs.ByRecursion.{All-weaker}
use Rattle.std.proofs.lemmas.Bool.{both_ways, or_parts}
use Rattle.refusal.specs.declared.Refusal.{Refusal}
use Rattle.calendar.specs.Meaning.{Lawful as Kept}
use Rattle.deferral.specs.declared.opened.Opened.{Opened}
use Rattle.deferral.specs.Deadlines.{day_of, opened}
use Rattle.rulebook.specs.declared.call.Call.TheVariants.{Open}
use Rattle.rulebook.specs.declared.record.Record.{Record}
use Rattle.rulebook.specs.Notebook.{Rules, Notebook, among, waits, is_due}
use Rattle.rulebook.specs.Taken.{day_opened}
use Rattle.rulebook.specs.Desk.{Desk, taken}
use Rattle.rulebook.specs.Grounds.{ground, grounds, too_early}
use Rattle.rulebook.specs.Sound.{InTime, Timed, Sound}
use Rattle.rulebook.proofs.Days.{noted_day}
use Rattle.rulebook.proofs.FallsOut.{first_out, waits_not}
use Rattle.rulebook.proofs.Grounds.{none_there}
use Rattle.rulebook.proofs.Held.{Spaced as Apart, among_has}
use Rattle.rulebook.proofs.ProperDays.{proper_opened, all_apart}
use Rattle.rulebook.proofs.SoundSteps.{spaced_now}
use Rattle.rulebook.proofs.Sieves.{all_two, all_three}

-- a trade of a day held that is held no longer was to be seen before the day that is opened
seen_before : (o : Opened) (ds : List Opened) (t : Record) → Apart (o ∷ ds) → Timed ds t → among ds t.code.day ≡ true
    → among (take 3 (o ∷ ds)) t.code.day ≡ false → t.moment ≤ o.day * 86400
seen_before o [] t apart timed a b = absurd cc
seen_before o (p ∷ []) t apart timed a b = absurd (both_ways _ (or_parts (eqb o.day t.code.day) _ b).1 a)
seen_before o (p ∷ q ∷ qs) t apart timed a b =
    let day : ℕ = t.code.day in
    let before : q.day < o.day = apart.0.1.0.1 in
    among_has (λ x. x ≡ day → t.moment ≤ o.day * 86400) day qs
    (all_two (λ r. r.day ≡ day → InTime r t) (λ r. (r.next ≤ q.day) × (r.day < q.day)) (λ r. r.day ≡ day → t.moment ≤ o.day * 86400)
    (λ r f h e. omega (arith, (f e).moment)) qs timed.1.1 apart.1.1.0)
    (first_out (eqb p.day day) (eqb q.day day) (among qs day) a (or_parts (eqb o.day day) _ b).1) refl

module _ (rules : Rules) (d : Desk) (law : Kept rules.calendar) (sound : Sound rules.sizes d)
    (early : too_early d.notebook (day_of d.notebook.clock) ≡ false)
  where
    none_waits_opened : (x : Result Opened Refusal) → opened rules.calendar (day_of d.notebook.clock) ≡ x
        → All (λ t. among (day_opened x d.notebook).days t.code.day ≡ false → waits t.state ≡ false) d.notebook.records
    none_waits_opened (Err r) e = All-weaker _ _ (λ t a b. absurd (both_ways _ b a)) d.notebook.records sound.held
    none_waits_opened (Ok o) e =
        let nb : Notebook = d.notebook in
        let is = (noted_day rules.calendar (day_of nb.clock) o e).0 in
        let apart = all_apart (o ∷ nb.days) (proper_opened rules.calendar (day_of nb.clock) o law e, sound.proper)
        (spaced_now nb o is early sound.spaced) in
        all_three (Timed nb.days) (λ t. among nb.days t.code.day ≡ true) (λ t. is_due nb.clock t ≡ false) _
        (λ t timed held undue out. waits_not nb.clock t (omega (arith, is, seen_before o nb.days t apart timed held out)) undue)
        nb.records sound.timed sound.held sound.undue

pub none_falls_waiting : (rules : Rules) (d : Desk) → Kept rules.calendar → Sound rules.sizes d → ground rules d Open ≡ None
    → All (λ t. among (taken rules d Open).notebook.days t.code.day ≡ false → waits t.state ≡ false) d.notebook.records
none_falls_waiting rules d law sound none =
    none_waits_opened rules d law sound (none_there (grounds rules d Open) none).1.1.0 (opened rules.calendar (day_of d.notebook.clock)) refl
