-- No trace of a deferred trade: two histories walked side by side.
use Rattle.std.proofs.Common.{◌≡◌, ℕ, false, [], ◌∷◌, ◌++◌, is_some, Some, None, Option, sym, refl, ap, ◌∙◌, subst}
use Rattle.std.specs.List.{AllByRecursion as All}
use Rattle.calendar.specs.Meaning.{Lawful as Kept}
use Rattle.identifier.specs.declared.isin.Isin.{Isin}
use Rattle.report.specs.declared.figures.Sheet.TheVariants.{Public}
use Rattle.report.specs.declared.report.Code.{Code}
use Rattle.report.specs.declared.report.Report.{Report}
use Rattle.rulebook.specs.declared.call.Call.{Call}
use Rattle.rulebook.specs.declared.call.Call.TheVariants.{Enter, Amend}
use Rattle.rulebook.specs.declared.record.Record.{Record}
use Rattle.rulebook.specs.Notebook.{Rules, same_code, record_of}
use Rattle.rulebook.specs.Sheets.{sheet_of}
use Rattle.rulebook.specs.Desk.{Desk, new_desk, carries}
use Rattle.rulebook.specs.Grounds.{ground, figures_grounds}
use Rattle.rulebook.specs.Histories.{Entry, History, taking, refusing, step, fed, desk_after, Rightly, Lawful, carried_from, notebook_after}
use Rattle.rulebook.specs.Trace.{Alike, done, same, both_refused, entries, amendments, NoTrace}
use Rattle.refusal.specs.declared.Refusal.{Refusal}
use Rattle.refusal.specs.Grounds.{first_ground, unless}
use Rattle.report.specs.declared.figures.Figures.{Figures}
use Rattle.rulebook.specs.declared.call.Answer.TheVariants.{Counted}
use Rattle.rulebook.proofs.Always.{none_from, fed_append}
use Rattle.rulebook.proofs.Dated.{deadlines_on, dated}
use Rattle.rulebook.proofs.Held.{first_has}
use Rattle.rulebook.proofs.Unlike.{end}
use Rattle.rulebook.proofs.Granted.{new_entry, new_amendment, same_execution}
use Rattle.rulebook.proofs.Sides.{same_figures_ground, sides, same_sheet, SameDeadlines}
use Rattle.rulebook.proofs.Desks.{Desks, desks, notebooks, same_standing, desks_weaker, joined, Hidden, hides_left, hides_right, still_hidden, after_same, after_entries, after_amendments}

-- a desk that a lawful history left
record Past (rules : Rules) (d : Desk) : Type 0 where
  history : History
  is : desk_after rules history ≡ d
  lawful : Lawful rules history

rightly_push : (rules : Rules) (d : Desk) (h : History) (e : Entry) → Rightly rules d h → e.refused ≡ is_some (ground rules (fed rules d h) e.call) → Rightly rules d (h ++ e ∷ [])
rightly_push rules d [] e k i = (i, tt)
rightly_push rules d (x ∷ h) e k i = (k.0, rightly_push rules (step rules d x) h e k.1 i)

past_step : {rules : Rules} {d : Desk} (e : Entry) → Past rules d → e.refused ≡ is_some (ground rules d e.call) → Past rules (step rules d e)
past_step {rules} {d} e p i = record {
  history = p.history ++ e ∷ [];
  is = fed_append rules new_desk p.history (e ∷ []) ∙ ap (λ (x : Desk). step rules x e) p.is;
  lawful = rightly_push rules new_desk p.history e p.lawful (i ∙ ap (λ (x : Desk). is_some (ground rules x e.call)) (sym p.is));
}

-- what the market sees from two desks on
record SeenFrom (rules : Rules) (a b : Desk) (g h : History) : Type 0 where
  away : carried_from rules a g ≡ carried_from rules b h
  standing : (fed rules a g).standing ≡ (fed rules b h).standing
  sheets : (isin : Isin) (day : ℕ) → sheet_of (fed rules a g).notebook isin day Public ≡ sheet_of (fed rules b h).notebook isin day Public
  grounds : (isin : Isin) (day : ℕ)
      → first_ground (figures_grounds (fed rules a g).notebook isin day) ≡ first_ground (figures_grounds (fed rules b h).notebook isin day)

module _ (rules : Rules) (kept : Kept rules.calendar) where
  -- the trade that an amendment withdraws has the deadlines of the amendment's execution moment
  deadlines_of : (d : Desk) → Past rules d → (code : Code) (r : Report) → ground rules d (Amend code r) ≡ None
      → (t : Record) → record_of d.notebook code ≡ Some t → t.deadlines ≡ deadlines_on rules.calendar r.execution
  deadlines_of d p code r i t m =
      first_has (λ x. x.deadlines ≡ deadlines_on rules.calendar x.report.execution) (λ x. same_code x.code code) t d.notebook.records
      (subst (λ (y : Desk). All (λ x. x.deadlines ≡ deadlines_on rules.calendar x.report.execution) y.notebook.records) p.is
      (dated rules kept p.history p.lawful))
      m
      ∙ ap (deadlines_on rules.calendar) (sym (same_execution rules d code r i t m))

  same_deadlines : (a b : Desk) → Past rules a → Past rules b → (code : Code) (r : Report) → ground rules a (Amend code r) ≡ None
      → ground rules b (Amend code r) ≡ None → SameDeadlines a.notebook b.notebook code
  same_deadlines a b p q code r i j t u m n = deadlines_of a p code r i t m ∙ sym (deadlines_of b q code r j u n)

  -- there is no ground against a call that is taken
  free : (d : Desk) (call : Call) → false ≡ is_some (ground rules d call) → ground rules d call ≡ None
  free d call e = none_from (ground rules d call) (sym e)

  walked : {a b : Desk} {g h : History} → Alike rules a b g h → Past rules a → Past rules b → Rightly rules a g → Rightly rules b h
      → Desks (Hidden rules a b g h) a b → SeenFrom rules a b g h
  walked (done {a} {b}) p q i j k =
      record { away = refl; standing = same_standing k; sheets = same_sheet (notebooks k) (hides_left rules a b [] []) (hides_right rules a b [] []); grounds = same_figures_ground (notebooks k) }
  walked (same {a} {b} {call} {g} {h} w) p q i j k =
      let left : (c : Call) → call ≡ c → ground rules a c ≡ None = λ c e. ap (ground rules a) (sym e) ∙ free a call i.0 in
      let right : (c : Call) → call ≡ c → ground rules b c ≡ None = λ c e. ap (ground rules b) (sym e) ∙ free b call j.0 in
      let s = walked w (past_step (taking call) p i.0) (past_step (taking call) q j.0) i.1 j.1
      (after_same rules a b g h call (λ code r e. same_deadlines a b p q code r (left (Amend code r) e) (right (Amend code r) e)) k) in
      record { away = joined (ap (carries call) (same_standing k)) s.away; standing = s.standing; sheets = s.sheets; grounds = s.grounds }
  walked (both_refused {a} {b} {c} {c'} {g} {h} w) p q i j k =
      let s = walked w (past_step (refusing c) p i.0) (past_step (refusing c') q j.0) i.1 j.1
      (desks_weaker (still_hidden rules a b (refusing c) (refusing c') g h) k) in
      record { away = s.away; standing = s.standing; sheets = s.sheets; grounds = s.grounds }
  walked (entries {a} {b} {r} {r'} {g} {h} u v w) p q i j k =
      let s = walked w (past_step (taking (Enter r)) p i.0) (past_step (taking (Enter r')) q j.0) i.1 j.1
      (after_entries rules a b g h r r' u v (new_entry rules a r (free a (Enter r) i.0)) (new_entry rules b r' (free b (Enter r') j.0)) k) in
      record { away = s.away; standing = s.standing; sheets = s.sheets; grounds = s.grounds }
  walked (amendments {a} {b} {code} {r} {r'} {g} {h} u v w) p q i j k =
      let s = walked w (past_step (taking (Amend code r)) p i.0) (past_step (taking (Amend code r')) q j.0) i.1 j.1
      (after_amendments rules a b g h code r r' u v (new_amendment rules a code r (free a (Amend code r) i.0))
      (new_amendment rules b code r' (free b (Amend code r') j.0)) k) in
      record { away = s.away; standing = s.standing; sheets = s.sheets; grounds = s.grounds }

pub no_trace : NoTrace
no_trace rules kept g h lawful lawful' w =
    let start : Past rules new_desk = record { history = []; is = refl; lawful = tt } in
    let s = walked rules kept w start start lawful lawful' (desks [] (sides 946684800 [] [] 0 end)) in
    record {
      tapes = joined s.away s.standing;
      sheets = s.sheets;
      answers = λ isin day.
          ap (λ (x : Option Refusal). unless x (Counted (sheet_of (notebook_after rules g) isin day Public))) (s.grounds isin day)
          ∙ ap (λ (f : Figures). unless (first_ground (figures_grounds (notebook_after rules h) isin day)) (Counted f)) (s.sheets isin day);
    }
