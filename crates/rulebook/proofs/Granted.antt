-- What is known of an entry or an amendment against which there is no ground.
use Rattle.std.proofs.Common.{◌≡◌, true, false, not, List, [], ◌∷◌, ◌++◌, is_some, Some, None, Option, refl, subst}
use Rattle.std.specs.List.{AllByRecursion as All}
use Rattle.std.proofs.lemmas.Bool.{true≢false, not-false, eqb-true}
use Rattle.refusal.specs.Grounds.{Ground}
use Rattle.deferral.specs.declared.deadlines.Deadlines.{Deadlines}
use Rattle.deferral.specs.declared.opened.Opened.{Opened}
use Rattle.deferral.specs.Deadlines.{open_at, deadlines_for}
use Rattle.deferral.specs.Judged.{execution_ground}
use Rattle.report.specs.declared.report.Code.{Code}
use Rattle.report.specs.declared.report.Report.{Report}
use Rattle.report.specs.declared.security.Security.{Security}
use Rattle.report.specs.Judged.{early_grounds, late_grounds}
use Rattle.rulebook.specs.declared.call.Call.TheVariants.{Enter, Amend}
use Rattle.rulebook.specs.declared.record.Record.{Record}
use Rattle.rulebook.specs.Lists.{and_then, where_some, passes}
use Rattle.rulebook.specs.Notebook.{Rules, Notebook, security_of, record_of, latest, next_code}
use Rattle.rulebook.specs.Taken.{fresh, entered, amended}
use Rattle.rulebook.specs.Desk.{Desk}
use Rattle.rulebook.specs.Grounds.{ground, grounds, is_of, execution_differs, not_listed, no_free_record, tape_full}
use Rattle.rulebook.proofs.Grounds.{none_there}

-- none of these grounds is there
abbrev Absent : List Ground → Type 0
Absent gs = All (λ g. g.there ≡ false) gs

-- there is a new trade, and it has the next code
pub record New (nb : Notebook) (o : Option Record) : Type 0 where
  pub trade : Record
  pub is : o ≡ Some trade
  pub next : trade.code ≡ next_code nb

module _ (rules : Rules) (d : Desk) (r : Report) where
  entry_with : (o : Opened) (s : Security) (dl : Option Deadlines) → not (is_some dl) ≡ false → New d.notebook (and_then dl (λ x. Some (fresh rules d.notebook false x r s)))
  entry_with o s None e = absurd (true≢false e)
  entry_with o s (Some x) e = record { trade = fresh rules d.notebook false x r s; is = refl; next = refl }

  entry_in : (day : Option Opened) (security : Option Security) → not (passes (λ o. open_at o d.notebook.clock) day) ≡ false → not (is_some security) ≡ false
      → Absent (where_some day (λ o.
      where_some security (λ s.
      early_grounds r s
      ++ execution_ground o d.notebook.clock r.execution
      ∷ late_grounds r s ++ no_free_record rules d.notebook ∷ tape_full rules d (Enter r) ∷ [])))
      → New d.notebook (and_then day (λ o.
      and_then (deadlines_for o d.notebook.clock r.execution) (λ x.
      and_then security (λ s. Some (fresh rules d.notebook false x r s)))))
  entry_in None security e f k = absurd (true≢false e)
  entry_in (Some o) None e f k = absurd (true≢false f)
  entry_in (Some o) (Some s) e f k = entry_with o s (deadlines_for o d.notebook.clock r.execution) k.1.1.1.1.0

  pub new_entry : ground rules d (Enter r) ≡ None → New d.notebook (entered rules d.notebook r)
  new_entry e =
      let k = none_there (grounds rules d (Enter r)) e in
      entry_in (latest d.notebook.days) (security_of d.notebook r.isin) k.0 k.1.0 k.1.1

module _ (rules : Rules) (d : Desk) (code : Code) (r : Report) where
  -- the grounds of an amendment that need the trade
  abbrev of_trade : Record → List Ground
  of_trade t =
      execution_differs r t ∷ not_listed d.notebook r.isin
      ∷ where_some (security_of d.notebook r.isin) (λ s.
      early_grounds r s ++ late_grounds r s ++ no_free_record rules d.notebook ∷ tape_full rules d (Amend code r) ∷ [])

  amendment_with : (t : Record) (security : Option Security) → not (is_some security) ≡ false
      → New d.notebook (and_then security (λ s. Some (fresh rules d.notebook true t.deadlines r s)))
  amendment_with t None e = absurd (true≢false e)
  amendment_with t (Some s) e = record { trade = fresh rules d.notebook true t.deadlines r s; is = refl; next = refl }

  amendment_of : (o : Option Record) → not (passes (is_of r.member) o) ≡ false → Absent (where_some o of_trade)
      → New d.notebook (and_then o (λ t. and_then (security_of d.notebook r.isin) (λ s. Some (fresh rules d.notebook true t.deadlines r s))))
  amendment_of None e k = absurd (true≢false e)
  amendment_of (Some t) e k = amendment_with t (security_of d.notebook r.isin) k.1.0

  pub new_amendment : ground rules d (Amend code r) ≡ None → New d.notebook (amended rules d.notebook code r)
  new_amendment e = let k = none_there (grounds rules d (Amend code r)) e in amendment_of (record_of d.notebook code) k.1.0 k.1.1

  -- an amendment keeps the execution moment of its trade
  pub same_execution : ground rules d (Amend code r) ≡ None → (t : Record) → record_of d.notebook code ≡ Some t → r.execution ≡ t.report.execution
  same_execution e t i =
      let k = none_there (grounds rules d (Amend code r)) e in
      let m : Absent (where_some (Some t) of_trade) = subst (λ (o : Option Record). Absent (where_some o of_trade)) i k.1.1 in
      eqb-true r.execution t.report.execution (not-false _ m.0)
