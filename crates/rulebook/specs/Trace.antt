-- No trace of a deferred trade.
use Rattle.std.specs.Prelude.{◌≡◌, ℕ, Bool, true, false, ◌&&◌, [], ◌∷◌}
use Rattle.std.specs.List.{list_any}
use Rattle.calendar.specs.Meaning.{Lawful as Kept}
use Rattle.identifier.specs.declared.isin.Isin.{Isin}
use Rattle.report.specs.declared.figures.Sheet.TheVariants.{Public}
use Rattle.report.specs.declared.report.Code.{Code}
use Rattle.report.specs.declared.report.Report.{Report}
use Rattle.report.specs.declared.state.State.{State}
use Rattle.report.specs.declared.state.State.TheVariants.{Waiting, Published, Dropped, Recalled}
use Rattle.rulebook.specs.declared.call.Call.{Call}
use Rattle.rulebook.specs.declared.call.Call.TheVariants.{Enter, Amend, Figures}
use Rattle.rulebook.specs.Notebook.{Rules, Notebook, same_code, next_code}
use Rattle.rulebook.specs.Sheets.{sheet_of}
use Rattle.rulebook.specs.Desk.{Desk, new_desk, taken}
use Rattle.rulebook.specs.Answers.{answer_to}
use Rattle.rulebook.specs.Histories.{History, taking, refusing, step, Lawful, desk_after, notebook_after, tape}

-- was the trade ever published?
abbrev pub was_shown : State → Bool
was_shown Waiting = false
was_shown Published = true
was_shown Dropped = false
was_shown Recalled = true

abbrev pub shows : Notebook → Code → Bool
shows nb code = list_any (λ t. same_code t.code code && was_shown t.state) nb.records

-- the trade of a code is published at no point from here to the end of the history; a trade that falls out with its day is remembered
abbrev pub Unseen : Rules → Desk → History → Code → Type 0
Unseen rules d [] code = shows d.notebook code ≡ false
Unseen rules d (e ∷ es) code = (shows d.notebook code ≡ false) × Unseen rules (step rules d e) es code

-- two histories side by side, from two desks on: at each place both calls are refused, or both are taken and equal, or both are taken
-- and are entries, or amendments of one code, whose new trades are published in neither
pub data Alike (rules : Rules) : Desk → Desk → History → History → Type 0 where
  done : {a b : Desk} → Alike rules a b [] []
  same : {a b : Desk} {call : Call} {g h : History} → Alike rules (taken rules a call) (taken rules b call) g h
      → Alike rules a b (taking call ∷ g) (taking call ∷ h)
  both_refused : {a b : Desk} {c c' : Call} {g h : History} → Alike rules a b g h → Alike rules a b (refusing c ∷ g) (refusing c' ∷ h)
  entries : {a b : Desk} {r r' : Report} {g h : History}
      → Unseen rules (taken rules a (Enter r)) g (next_code a.notebook) → Unseen rules (taken rules b (Enter r')) h (next_code b.notebook)
      → Alike rules (taken rules a (Enter r)) (taken rules b (Enter r')) g h → Alike rules a b (taking (Enter r) ∷ g) (taking (Enter r') ∷ h)
  amendments : {a b : Desk} {code : Code} {r r' : Report} {g h : History}
      → Unseen rules (taken rules a (Amend code r)) g (next_code a.notebook) → Unseen rules (taken rules b (Amend code r')) h (next_code b.notebook)
      → Alike rules (taken rules a (Amend code r)) (taken rules b (Amend code r')) g h
      → Alike rules a b (taking (Amend code r) ∷ g) (taking (Amend code r') ∷ h)

-- then the market sees the same: the tapes are equal, and so is every public sheet
pub record SeenTheSame (rules : Rules) (g h : History) : Type 0 where
  pub tapes : tape rules g ≡ tape rules h
  pub sheets : (isin : Isin) (day : ℕ) → sheet_of (notebook_after rules g) isin day Public ≡ sheet_of (notebook_after rules h) isin day Public
  -- so is the answer to whoever asks for one
  pub answers :
      (isin : Isin) (day : ℕ)
      → answer_to rules (desk_after rules g) (Figures isin day Public) ≡ answer_to rules (desk_after rules h) (Figures isin day Public)

abbrev pub NoTrace : Type 0
NoTrace =
    (rules : Rules) → Kept rules.calendar → (g h : History) → Lawful rules g → Lawful rules h → Alike rules new_desk new_desk g h
    → SeenTheSame rules g h
