-- Two different histories that are alike but for trades that are published in neither.
use Rattle.std.specs.Prelude.{◌≡◌, ℕ, List, [], ◌∷◌, ◌++◌, map, length}
use Rattle.calendar.specs.Meaning.{Meaning}
use Rattle.deferral.specs.Examples.{on_8_may}
use Rattle.report.specs.declared.figures.Sheet.TheVariants.{Full}
use Rattle.report.specs.declared.report.Report.{Report}
use Rattle.report.specs.declared.state.State.{State}
use Rattle.report.specs.declared.state.State.TheVariants.{Waiting, Published, Dropped}
use Rattle.rulebook.specs.declared.call.Call.TheVariants.{Enter, Amend, Cancel, CarryAway}
use Rattle.rulebook.specs.Notebook.{Rules}
use Rattle.rulebook.specs.Sheets.{sheet_of}
use Rattle.rulebook.specs.Desk.{new_desk}
use Rattle.rulebook.specs.Answers.{answer_to}
use Rattle.rulebook.specs.Histories.{History, taking, Lawful, desk_after, notebook_after, tape}
use Rattle.rulebook.specs.Trace.{Alike}
use Rattle.rulebook.specs.Example.{book, the_day, the_isin, the_member, code, dealt, first_trade, second_trade, one_trade, taken_as}

-- a trade that is seen at once, then two that wait; what is entered second is open
abbrev pub three_trades : Report → History
three_trades entry = one_trade ++ taking (Enter entry) ∷ taking (Enter second_trade) ∷ []

-- the third is amended, the second cancelled, and one more is seen at once; what the third becomes is open
abbrev pub with_hidden : Report → Report → History
with_hidden entry amendment =
    three_trades entry
    ++ taking (Amend (code 3) amendment) ∷ taking (Cancel the_member (code 2)) ∷ taking (Enter first_trade) ∷ taking (CarryAway 8) ∷ []

abbrev pub one_entry : Report
one_entry = dealt 123000 2000

abbrev pub other_entry : Report
other_entry = dealt 124000 4500

abbrev pub one_amendment : Report
one_amendment = dealt 125000 2100

abbrev pub other_amendment : Report
other_amendment = dealt 122000 3000

abbrev pub one_history : History
one_history = with_hidden one_entry one_amendment

abbrev pub other_history : History
other_history = with_hidden other_entry other_amendment

-- what became of the trades, in the order of their codes
abbrev pub states_after : Rules → History → List State
states_after rules h = map (λ t. t.state) (notebook_after rules h).records

abbrev pub full_volume : Rules → History → ℕ
full_volume rules h = (sheet_of (notebook_after rules h) the_isin the_day Full).volume

-- a history with these reports: the entry is taken with code 2 and the amendment with code 4, each to be seen at a later moment, the
-- trades of codes 2 and 3 are withdrawn unseen, that of code 4 waits, and two lines are written
pub record Hides (rules : Rules) (entry amendment : Report) (entry_moment amendment_moment : ℕ) : Type 0 where
  pub lawful : Lawful rules (with_hidden entry amendment)
  pub second : answer_to rules (desk_after rules one_trade) (Enter entry) ≡ taken_as 2 entry_moment
  pub fourth : answer_to rules (desk_after rules (three_trades entry)) (Amend (code 3) amendment) ≡ taken_as 4 amendment_moment
  pub states : states_after rules (with_hidden entry amendment) ≡ Published ∷ Dropped ∷ Dropped ∷ Waiting ∷ Published ∷ []
  pub lines : length (tape rules (with_hidden entry amendment)) ≡ 2

pub record DifferingPair (m : Meaning) : Type 0 where
  pub one : Hides (book m) one_entry one_amendment (on_8_may 10 0 0) (on_8_may 10 0 0)
  pub other : Hides (book m) other_entry other_amendment (on_8_may 16 15 0) (on_8_may 11 0 0)
  pub alike : Alike (book m) new_desk new_desk one_history other_history
  -- they differ at the entry and at the amendment, and in what the full sheets count
  pub entries : one_entry ≡ other_entry → ⊥
  pub amendments : one_amendment ≡ other_amendment → ⊥
  pub histories : one_history ≡ other_history → ⊥
  pub full_sheets : full_volume (book m) one_history ≡ full_volume (book m) other_history → ⊥
