-- The larger trade is never earlier, after every lawful history.
use Rattle.std.proofs.Common.{◌≡◌, ℕ, ◌≤◌, Some, None, Option, Ok, sym, refl, ap, ◌∙◌, subst}
use Rattle.std.proofs.lemmas.Option.{same_Some}
use Rattle.refusal.specs.declared.Refusal.{Refusal}
use Rattle.refusal.specs.Grounds.{unless}
use Rattle.calendar.specs.Meaning.{Meaning}
use Rattle.deferral.specs.declared.deadlines.Deadlines.{Deadlines}
use Rattle.deferral.specs.Judged.{published, AlikeButSize as AlikeTrades}
use Rattle.deferral.specs.Publication.{Timely}
use Rattle.deferral.proofs.Later.{published_rises}
use Rattle.report.specs.declared.report.Report.{Report}
use Rattle.report.specs.declared.security.Security.{Security}
use Rattle.report.specs.Judged.{as_agent}
use Rattle.report.specs.Published.{trade_of}
use Rattle.rulebook.specs.declared.call.Answer.{Answer}
use Rattle.rulebook.specs.declared.call.Answer.TheVariants.{Taken}
use Rattle.rulebook.specs.declared.call.Call.{Call}
use Rattle.rulebook.specs.declared.call.Call.TheVariants.{Enter, Amend}
use Rattle.rulebook.specs.declared.call.Receipt.{Receipt}
use Rattle.rulebook.specs.declared.record.Record.{Record}
use Rattle.rulebook.specs.Notebook.{Rules, Notebook, security_of}
use Rattle.rulebook.specs.Taken.{entered, amended}
use Rattle.rulebook.specs.Desk.{Desk}
use Rattle.rulebook.specs.Grounds.{ground}
use Rattle.rulebook.specs.Answers.{receipt, answer_of, answer_to}
use Rattle.rulebook.specs.Histories.{desk_after}
use Rattle.rulebook.specs.Larger.{AlikeButSize, Brings, by_entry, by_amendment, LargerEverywhere}
use Rattle.rulebook.proofs.Brought.{Brought, brought_by_entry, brought_by_amendment}
use Rattle.rulebook.proofs.Dated.{dates_on, deadlines_on}
use Rattle.rulebook.proofs.Held.{Held, dates_timely}
use Rattle.rulebook.proofs.Keeps.{held_after}

-- a call that is answered with a receipt has no ground against it
pub taken_parts : (g : Option Refusal) (a : Answer) (x : Receipt) → unless g a ≡ Ok (Taken x) → (g ≡ None) × (a ≡ Taken x)
taken_parts None a x e = (refl, cc)
taken_parts (Some r) a x e = absurd cc

-- and a new trade, whose moment it tells
pub record Told (new : Option Record) (x : Receipt) : Type 0 where
  pub trade : Record
  pub is : new ≡ Some trade
  pub moment : trade.moment ≡ x.moment

receipt_moment : (x y : Receipt) → Taken x ≡ Taken y → x.moment ≡ y.moment
receipt_moment x y e = let same : x ≡ y = cc in ap (λ (z : Receipt). z.moment) same

pub told : (rules : Rules) (nb : Notebook) (new : Option Record) (x : Receipt) → receipt rules nb new ≡ Taken x → Told new x
told rules nb None x e = absurd cc
told rules nb (Some t) x e = record { trade = t; is = refl; moment = receipt_moment _ x e }

-- what is known of a report that would now be taken
pub record Tells (rules : Rules) (nb : Notebook) (r : Report) (x : Receipt) : Type 0 where
  pub trade : Record
  pub brought : Brought rules nb r trade
  pub moment : trade.moment ≡ x.moment

pub tells : (rules : Rules) (d : Desk) (c : Call) (r : Report) (x : Receipt) → Held rules d.notebook → Brings c r
    → answer_to rules d c ≡ Ok (Taken x) → Tells rules d.notebook r x
tells rules d _ _ x held (by_entry {r}) e =
    let p = taken_parts (ground rules d (Enter r)) (answer_of rules d (Enter r)) x e in
    let t = told rules d.notebook (entered rules d.notebook r) x p.1 in
    record { trade = t.trade; brought = brought_by_entry rules d r t.trade held p.0 t.is; moment = t.moment }
tells rules d _ _ x held (by_amendment {code} {r}) e =
    let p = taken_parts (ground rules d (Amend code r)) (answer_of rules d (Amend code r)) x e in
    let t = told rules d.notebook (amended rules d.notebook code r) x p.1 in
    record { trade = t.trade; brought = brought_by_amendment rules d code r t.trade held p.0 t.is; moment = t.moment }

-- reports alike but for size, of one security, make trades alike but for size
alike_trades : (r q : Report) (s : Security) → AlikeButSize r q → AlikeTrades (trade_of r s) (trade_of q s)
alike_trades r q s a =
    let first = a.nodef in
    let second = a.actx in
    let third = ap as_agent a.capacity in
    record {
      class = refl;
      daily = refl;
      execution = a.execution;
      deferrable = cc (first, second, third);
    }

-- the moment of a report that is taken: all else than the report is the same for reports alike but for size
moment_of : (rules : Rules) (nb : Notebook) (r : Report) (x : Receipt) (s : Security) (execution : ℕ) → Tells rules nb r x
    → security_of nb r.isin ≡ Some s → r.execution ≡ execution
    → (published rules.tier (deadlines_on rules.calendar execution) nb.clock (trade_of r s)).moment ≡ x.moment
moment_of rules nb r x s execution t is same =
    let b = t.brought in
    let one : b.security ≡ s = same_Some _ _ (sym b.security_is ∙ is) in
    let on : b.deadlines ≡ deadlines_on rules.calendar execution =
    dates_on rules.calendar r.execution b.deadlines _ b.dates ∙ ap (deadlines_on rules.calendar) same in
    ap (λ (d : Deadlines). (published rules.tier d nb.clock (trade_of r s)).moment) (sym on)
    ∙ ap (λ (y : Security). (published rules.tier b.deadlines nb.clock (trade_of r y)).moment) (sym one)
    ∙ ap (λ (y : Record). y.moment) b.is ∙ t.moment

pub larger_everywhere : LargerEverywhere
larger_everywhere rules law rises h lawful c d r q x y brings-r brings-q alike less e f =
    let desk : Desk = desk_after rules h in
    let nb : Notebook = desk.notebook in
    let m : Meaning = rules.calendar in
    let held = held_after rules law h lawful in
    let t = tells rules desk c r x held brings-r e in
    let u = tells rules desk d q y held brings-q f in
    let b = u.brought in
    let s : Security = b.security in
    let on = dates_on m q.execution b.deadlines _ b.dates in
    let rise = published_rises rules.tier rises (deadlines_on m q.execution) nb.clock (trade_of r s) (trade_of q s)
    (subst (λ (z : Deadlines). Timely z q.execution) on (dates_timely m q.execution b.deadlines _ law b.dates))
    (alike_trades r q s alike) less in
    let first = moment_of rules nb r x s q.execution t (ap (security_of nb) alike.isin ∙ b.security_is) alike.execution in
    let second = moment_of rules nb q y s q.execution u b.security_is refl in
    subst (λ (z : ℕ). z ≤ y.moment) first
    (subst (λ (z : ℕ). (published rules.tier (deadlines_on m q.execution) nb.clock (trade_of r s)).moment ≤ z) second rise)
