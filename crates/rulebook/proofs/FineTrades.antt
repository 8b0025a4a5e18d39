-- What is known of each trade held, whatever its state, and of a new trade that is taken.
use Rattle.std.proofs.Common.{◌≡◌, ℕ, ◌+◌, ◌-◌, ◌*◌, ◌^◌, ◌<◌, ◌≤◌, Bool, true, false, cond, not, eqb, ltb, leb, List, [], ◌∷◌, length, is_some, Some, None, Option, sym, refl, ap, ◌∙◌, subst, arith, inl, inr}
use Rattle.std.specs.List.{find, AllByRecursion as All}
use Rattle.std.proofs.ByRecursion.{All-weaker}
use Rattle.std.proofs.lemmas.Bool.{and_parts, not-false, ltb-true, ltb-false, leb-true, leb-false, eqb-true, cond_both}
use Rattle.std.proofs.lemmas.Option.{same_Some}
use Rattle.deferral.specs.declared.deadlines.Deadlines.{Deadlines}
use Rattle.deferral.specs.declared.opened.Opened.{Opened}
use Rattle.deferral.specs.declared.tier.Tier.{Tier}
use Rattle.deferral.specs.declared.tier.Tier.TheVariants.{Zero, One, Two, Three, Four}
use Rattle.deferral.specs.Deadlines.{day_of, open_at, deadlines_for}
use Rattle.deferral.specs.Judged.{trade_tier}
use Rattle.deferral.specs.Publication.{tier_moment}
use Rattle.report.specs.declared.line.Place.{Place}
use Rattle.report.specs.declared.report.Code.{Code}
use Rattle.report.specs.declared.report.Report.{Report}
use Rattle.report.specs.declared.security.Security.{Security}
use Rattle.report.specs.declared.state.Event.{Event}
use Rattle.report.specs.Published.{trade_of}
use Rattle.rulebook.specs.declared.call.Call.{Call}
use Rattle.rulebook.specs.declared.call.Call.TheVariants.{Enter, Amend}
use Rattle.rulebook.specs.declared.record.Record.{Record}
use Rattle.rulebook.specs.Lists.{passes}
use Rattle.rulebook.specs.Notebook.{Rules, Notebook, same_isin, security_of, record_of, among, latest, open_now}
use Rattle.rulebook.specs.Taken.{met, fresh, entered, amended, lines_of}
use Rattle.rulebook.specs.Desk.{Desk}
use Rattle.rulebook.specs.Grounds.{ground, grounds}
use Rattle.rulebook.specs.Sound.{end_of, Within, Proper, InTime, Timed}
use Rattle.rulebook.proofs.Brought.{grounds_at, chosen}
use Rattle.rulebook.proofs.Grounds.{none_there, followed}
use Rattle.rulebook.proofs.Held.{Spaced as Apart, first_has}
use Rattle.rulebook.proofs.Keeps.{latest_among, earliest_of_both}
use Rattle.rulebook.proofs.ProperDays.{within_later, at_latest, deadlines_upto}

pub record Fine (clock : ℕ) (securities : List Security) (days : List Opened) (t : Record) : Type 0 where
  pub held : among days t.code.day ≡ true
  pub timed : Timed days t
  pub executed : t.report.execution ≤ clock
  pub listed : is_some (find (λ s. same_isin s.isin t.report.isin) securities) ≡ true
  pub sized : t.report.price * t.report.quantity ≤ 1000000000000000

abbrev pub FineIn : Notebook → Record → Type 0
FineIn nb = Fine nb.clock nb.securities nb.days

-- no event changes that
pub fine_met : (clock : ℕ) (securities : List Security) (days : List Opened) (e : Event) (p : Place) (t : Record)
    → Fine clock securities days t → Fine clock securities days (met e p t)
fine_met clock securities days e p t f =
    record {
      held = f.held;
      timed = All-weaker (λ o. o.day ≡ t.code.day → InTime o t) _ (λ o g same. record { deadlines = (g same).deadlines; moment = (g same).moment }) days f.timed;
      executed = f.executed;
      listed = f.listed;
      sized = f.sized;
    }

-- a value that is there and passes a test
pub record Passing {X : Type 0} (p : X → Bool) (x : Option X) : Type 0 where
  pub value : X
  pub is : x ≡ Some value
  pub passed : p value ≡ true

pub passing : {X : Type 0} (p : X → Bool) (x : Option X) → passes p x ≡ true → Passing p x
passing p None e = absurd cc
passing p (Some x) e = record { value = x; is = refl; passed = e }

pub some_passing : {X : Type 0} (x : Option X) → is_some x ≡ true → Passing (λ y. true) x
some_passing None e = absurd cc
some_passing (Some x) e = record { value = x; is = refl; passed = refl }

-- the day that is open at the clock
pub record OpenAt (nb : Notebook) : Type 0 where
  pub day : Opened
  pub day_is : latest nb.days ≡ Some day
  pub proper : Proper day
  pub before_close : nb.clock < day.hours.close

latest_has : (P : Opened → Type 0) (o : Opened) (ds : List Opened) → All P ds → latest ds ≡ Some o → P o
latest_has P o [] all e = absurd cc
latest_has P o (p ∷ ps) all e = let same : p ≡ o = cc in subst P same all.0

open_at_clock : (nb : Notebook) → All Proper nb.days → not (open_now nb) ≡ false → OpenAt nb
open_at_clock nb all e =
    let o = passing (λ p. open_at p nb.clock) (latest nb.days) (not-false _ e) in
    record {
      day = o.value;
      day_is = o.is;
      proper = latest_has Proper o.value nb.days all o.is;
      before_close = ltb-true _ _ (and_parts _ _ o.passed).1;
    }

-- what is known where an entry or an amendment is taken
pub record Clear (rules : Rules) (d : Desk) (call : Call) (r : Report) : Type 0 where
  pub sized : r.price * r.quantity ≤ 1000000000000000
  pub place : length d.notebook.records < rules.sizes.records
  pub lines : length d.standing + length (lines_of rules d.notebook call) ≤ rules.sizes.lines

pub clear_entry : (rules : Rules) (d : Desk) (r : Report) → All Proper d.notebook.days → ground rules d (Enter r) ≡ None → Clear rules d (Enter r) r
clear_entry rules d r all none =
    let nb : Notebook = d.notebook in
    let gs = none_there (grounds rules d (Enter r)) none in
    let o = open_at_clock nb all gs.0 in
    let s = some_passing (security_of nb r.isin) (not-false _ gs.1.0) in
    let in-day = grounds_at (latest nb.days) _ o.day o.day_is gs.1.1 in
    let rest = grounds_at (security_of nb r.isin) _ s.value s.is in-day in
    record {
      sized = ltb-false _ _ rest.1.1.1.0;
      place = leb-false _ _ rest.1.1.1.1.1.1.1.1.1.1.1.0;
      lines = ltb-false _ _ rest.1.1.1.1.1.1.1.1.1.1.1.1.0;
    }

pub clear_amendment : (rules : Rules) (d : Desk) (code : Code) (r : Report) → ground rules d (Amend code r) ≡ None → Clear rules d (Amend code r) r
clear_amendment rules d code r none =
    let nb : Notebook = d.notebook in
    let gs = none_there (grounds rules d (Amend code r)) none in
    let t = passing _ (record_of nb code) (not-false _ gs.1.0) in
    let of_trade = grounds_at (record_of nb code) _ t.value t.is gs.1.1 in
    let s = some_passing (security_of nb r.isin) (not-false _ of_trade.1.0) in
    let rest = grounds_at (security_of nb r.isin) _ s.value s.is of_trade.1.1 in
    record {
      sized = ltb-false _ _ rest.1.1.1.0;
      place = leb-false _ _ rest.1.1.1.1.1.1.1.1.1.1.0;
      lines = ltb-false _ _ rest.1.1.1.1.1.1.1.1.1.1.1.0;
    }

-- every tier's moment lies before the end of the day in which the deadlines lie, where two hours after the execution do
tier_within : (next : ℕ) (d : Deadlines) (execution : ℕ) (t : Tier) → Within next d → execution + 7200 ≤ end_of next
    → tier_moment d execution t ≤ end_of next
tier_within next d execution Zero w h = omega arith
tier_within next d execution One w h = omega arith
tier_within next d execution Two w h = h
tier_within next d execution Three w h =
    cond_both (ltb (execution + 7200) d.close) d.close d.next.noon (λ x. x ≤ end_of next) (λ e. w.close) (λ e. w.noon)
tier_within next d execution Four w h = w.next

module _ (rules : Rules) (nb : Notebook) (all : All Proper nb.days) (apart : Apart nb.days) (o : OpenAt nb) where
  fresh_fine : (again : Bool) (d : Deadlines) (r : Report) (s : Security) → Within o.day.next d → r.execution ≤ nb.clock
      → security_of nb r.isin ≡ Some s → r.price * r.quantity ≤ 1000000000000000 → FineIn nb (fresh rules nb again d r s)
  fresh_fine again d r s w executed listed sized =
      let later = o.proper.later in
      let closes = o.proper.closes in
      let before = o.before_close in
      let tier : Tier = trade_tier rules.tier (trade_of r s) in
      let moment = earliest_of_both (tier_moment d r.execution tier) (end_of o.day.next) nb.clock (2 ^ 64 - 1)
      (tier_within o.day.next d r.execution tier w (omega arith)) (omega arith) in
      record {
        held = latest_among nb.days o.day o.day_is;
        timed = at_latest (λ p. InTime p (fresh rules nb again d r s)) o.day nb.days apart o.day_is
            (record { deadlines = w; moment = moment });
        executed = executed;
        listed = ap is_some listed;
        sized = sized;
      }

-- the deadlines of an entry, whose execution is not after the clock
chosen_within : (next : ℕ) (x y d : Deadlines) (a b c : Bool) → Within next x → Within next y
    → cond a (cond b (Some x) (cond c (Some y) None)) None ≡ Some d → (a ≡ true) × Within next d
chosen_within next x y d a b c w v e =
    let h = chosen x y d a b c e in (h.0, elim h.1 [ inl k ↦ subst (Within next) k.1 w | inr k ↦ subst (Within next) k.1 v ])

pub entry_fine : (rules : Rules) (d : Desk) (r : Report) (t : Record) → All Proper d.notebook.days → Apart d.notebook.days
    → ground rules d (Enter r) ≡ None → entered rules d.notebook r ≡ Some t → FineIn d.notebook t
entry_fine rules d r t all apart none e =
    let nb : Notebook = d.notebook in
    let o = open_at_clock nb all (none_there (grounds rules d (Enter r)) none).0 in
    let a = followed (latest nb.days) _ t e in
    let b = followed (deadlines_for a.value nb.clock r.execution) _ t a.gives in
    let c = followed (security_of nb r.isin) _ t b.gives in
    let same : a.value ≡ o.day = same_Some _ _ (sym a.is ∙ o.day_is) in
    let p = o.proper in
    let later = p.later in
    let w = chosen_within o.day.next o.day.today o.day.before b.value (leb r.execution nb.clock)
    (eqb (day_of r.execution) o.day.day) (eqb (day_of r.execution) o.day.previous) p.today
    (within_later o.day.day o.day.next o.day.before (omega arith) p.before)
    (subst (λ (x : Opened). deadlines_for x nb.clock r.execution ≡ Some b.value) same b.is) in
    subst (FineIn nb) (same_Some _ _ c.gives)
    (fresh_fine rules nb all apart o false b.value r c.value w.1 (leb-true _ _ w.0) c.is (clear_entry rules d r all none).sized)

pub amendment_fine : (rules : Rules) (d : Desk) (code : Code) (r : Report) (t : Record) → All Proper d.notebook.days → Apart d.notebook.days
    → All (FineIn d.notebook) d.notebook.records → ground rules d (Amend code r) ≡ None → amended rules d.notebook code r ≡ Some t
    → FineIn d.notebook t
amendment_fine rules d code r t all apart fine none e =
    let nb : Notebook = d.notebook in
    let gs = none_there (grounds rules d (Amend code r)) none in
    let o = open_at_clock nb all gs.0 in
    let a = followed (record_of nb code) _ t e in
    let c = followed (security_of nb r.isin) _ t a.gives in
    let old : Record = a.value in
    let f = first_has (FineIn nb) _ old nb.records fine a.is in
    let same : r.execution ≡ old.report.execution = eqb-true _ _ (not-false _ (grounds_at (record_of nb code) _ old a.is gs.1.1).0) in
    subst (FineIn nb) (same_Some _ _ c.gives)
    (fresh_fine rules nb all apart o true old.deadlines r c.value
    (deadlines_upto o.day nb.days old all apart o.day_is f.held f.timed) (omega (arith, f.executed)) c.is
    (clear_amendment rules d code r none).sized)
