-- What is known of a new trade that is taken.
use Rattle.std.proofs.Common.{◌≡◌, ℕ, ◌<◌, ◌≤◌, Bool, true, false, cond, not, eqb, leb, ◌⊎◌, List, [], ◌∷◌, Some, None, Option, sym, refl, ap, ◌∙◌, subst, inl, inr, arith}
use Rattle.std.specs.List.{AllByRecursion as All}
use Rattle.std.proofs.lemmas.Bool.{and_parts, not-false, ltb-true, eqb-true}
use Rattle.std.proofs.lemmas.Option.{same_Some}
use Rattle.std.proofs.lemmas.Bool.Decides.{nat_tests}
use Rattle.refusal.specs.Grounds.{Ground}
use Rattle.calendar.specs.Meaning.{Meaning}
use Rattle.deferral.specs.declared.deadlines.Deadlines.{Deadlines}
use Rattle.deferral.specs.declared.opened.Opened.{Opened}
use Rattle.deferral.specs.Deadlines.{day_of, open_at, deadlines_for}
use Rattle.deferral.proofs.Opening.{previous_found}
use Rattle.report.specs.declared.report.Code.{Code}
use Rattle.report.specs.declared.report.Report.{Report}
use Rattle.report.specs.declared.security.Security.{Security}
use Rattle.rulebook.specs.declared.call.Call.TheVariants.{Enter, Amend}
use Rattle.rulebook.specs.declared.record.Record.{Record}
use Rattle.rulebook.specs.Lists.{passes, where_some}
use Rattle.rulebook.specs.Notebook.{Rules, Notebook, security_of, record_of, among, latest, open_now}
use Rattle.rulebook.specs.Taken.{fresh, entered, amended}
use Rattle.rulebook.specs.Desk.{Desk}
use Rattle.rulebook.specs.Grounds.{ground, grounds}
use Rattle.rulebook.proofs.Days.{Noted, next_of_previous}
use Rattle.rulebook.proofs.Grounds.{none_there, followed}
use Rattle.rulebook.proofs.Held.{Dates, SoundTrade, Held, first_has, upto_latest}

-- the day that is open at the clock
pub record OpenDay (m : Meaning) (nb : Notebook) : Type 0 where
  pub day : Opened
  pub day_is : latest nb.days ≡ Some day
  pub noted : Noted m day
  pub before_close : nb.clock < day.hours.close

pub open_day : (rules : Rules) (nb : Notebook) → Held rules nb → not (open_now nb) ≡ false → OpenDay rules.calendar nb
open_day rules nb held e = by_days nb.days refl held.days (not-false _ e)
  where
    by_days : (ds : List Opened) → nb.days ≡ ds → All (Noted rules.calendar) ds → passes (λ o. open_at o nb.clock) (latest ds) ≡ true
        → OpenDay rules.calendar nb
    by_days [] is all f = absurd cc
    by_days (o ∷ os) is all f =
        record { day = o; day_is = ap latest is; noted = all.0; before_close = ltb-true _ _ (and_parts _ _ f).1 }

-- the deadlines of an entry are those of the day, or of the trading day before it
pub chosen : (x y d : Deadlines) (a b c : Bool) → cond a (cond b (Some x) (cond c (Some y) None)) None ≡ Some d
    → (a ≡ true) × (((b ≡ true) × (x ≡ d)) ⊎ ((c ≡ true) × (y ≡ d)))
chosen x y d a b c e = grind (arith, nat_tests, e)

entry_dates : (m : Meaning) (o : Opened) (clock execution : ℕ) (d : Deadlines) → Noted m o → deadlines_for o clock execution ≡ Some d
    → Dates m (day_of execution) d o.day
entry_dates m o clock execution d n e =
    let before = previous_found m o.day o.previous n.previous_is in
    elim (chosen o.today o.before d (leb execution clock) (eqb (day_of execution) o.day) (eqb (day_of execution) o.previous) e).1 [
      | inl h ↦ subst (λ (x : ℕ). Dates m x d o.day) (sym (eqb-true _ _ h.0))
          (record { next = o.next; trades = n.trades; next_is = n.next_is; is = sym h.1 ∙ n.today_is; before = omega arith })
      | inr h ↦ subst (λ (x : ℕ). Dates m x d o.day) (sym (eqb-true _ _ h.0))
          (record {
            next = o.day;
            trades = before.trades;
            next_is = next_of_previous m o.day o.previous n.trades n.previous_is;
            is = sym h.1 ∙ n.before_is;
            before = omega (arith, before.before);
          })
    ]

-- a new trade of a report
pub record Brought (rules : Rules) (nb : Notebook) (r : Report) (t : Record) : Type 0 where
  pub opened : OpenDay rules.calendar nb
  pub security : Security
  pub security_is : security_of nb r.isin ≡ Some security
  pub amended : Bool
  pub deadlines : Deadlines
  pub dates : Dates rules.calendar (day_of r.execution) deadlines opened.day.day
  pub is : fresh rules nb amended deadlines r security ≡ t

pub brought_by_entry : (rules : Rules) (d : Desk) (r : Report) (t : Record) → Held rules d.notebook → ground rules d (Enter r) ≡ None
    → entered rules d.notebook r ≡ Some t → Brought rules d.notebook r t
brought_by_entry rules d r t held none e =
    let nb : Notebook = d.notebook in
    let o = open_day rules nb held (none_there (grounds rules d (Enter r)) none).0 in
    let a = followed (latest nb.days) _ t e in
    let b = followed (deadlines_for a.value nb.clock r.execution) _ t a.gives in
    let c = followed (security_of nb r.isin) _ t b.gives in
    let same : a.value ≡ o.day = same_Some _ _ (sym a.is ∙ o.day_is) in
    record {
      opened = o;
      security = c.value;
      security_is = c.is;
      amended = false;
      deadlines = b.value;
      dates = entry_dates rules.calendar o.day nb.clock r.execution b.value o.noted
          (subst (λ (x : Opened). deadlines_for x nb.clock r.execution ≡ Some b.value) same b.is);
      is = same_Some _ _ c.gives;
    }

-- deadlines of an execution day not after a day are so for later ones
later_dates : (m : Meaning) (x : ℕ) (d : Deadlines) (day later : ℕ) → day ≤ later → Dates m x d day → Dates m x d later
later_dates m x d day later h a =
    record { next = a.next; trades = a.trades; next_is = a.next_is; is = a.is; before = omega (arith, a.before) }

-- the grounds that come where there is a value
pub grounds_at : {X : Type 0} (x : Option X) (f : X → List Ground) (v : X) → x ≡ Some v → All (λ g. g.there ≡ false) (where_some x f)
    → All (λ g. g.there ≡ false) (f v)
grounds_at {X} x f v e all = subst (λ (y : Option X). All (λ g. g.there ≡ false) (where_some y f)) e all

pub brought_by_amendment : (rules : Rules) (d : Desk) (code : Code) (r : Report) (t : Record) → Held rules d.notebook
    → ground rules d (Amend code r) ≡ None → amended rules d.notebook code r ≡ Some t → Brought rules d.notebook r t
brought_by_amendment rules d code r t held none e =
    let nb : Notebook = d.notebook in
    let gs = none_there (grounds rules d (Amend code r)) none in
    let o = open_day rules nb held gs.0 in
    let a = followed (record_of nb code) _ t e in
    let c = followed (security_of nb r.isin) _ t a.gives in
    let old : Record = a.value in
    let sound = first_has (SoundTrade rules.calendar) _ old nb.records held.trades a.is in
    let held-day = first_has (λ u. among nb.days u.code.day ≡ true) _ old nb.records held.placed a.is in
    let upto = upto_latest old.code.day o.day nb.days held.spaced o.day_is held-day in
    let same : r.execution ≡ old.report.execution = eqb-true _ _ (not-false _ (grounds_at (record_of nb code) _ old a.is gs.1.1).0) in
    record {
      opened = o;
      security = c.value;
      security_is = c.is;
      amended = true;
      deadlines = old.deadlines;
      dates = subst (λ (x : ℕ). Dates rules.calendar (day_of x) old.deadlines o.day.day) (sym same)
          (later_dates rules.calendar (day_of old.report.execution) old.deadlines old.code.day o.day.day upto sound.dates);
      is = same_Some _ _ c.gives;
    }
