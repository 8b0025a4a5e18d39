-- What each call answers.
use Rattle.std.specs.Prelude.{false, length, Some, None, Option, Result}
use Rattle.refusal.specs.declared.Refusal.{Refusal}
use Rattle.refusal.specs.Grounds.{unless}
use Rattle.report.specs.declared.report.Report.{Report}
use Rattle.report.specs.declared.security.Security.{Security}
use Rattle.report.specs.declared.warnings.Warnings.{Warnings}
use Rattle.report.specs.Warned.{warned}
use Rattle.rulebook.specs.declared.call.Answer.{Answer}
use Rattle.rulebook.specs.declared.call.Answer.TheVariants.{Done, Advanced, Taken, Carried, Counted}
use Rattle.rulebook.specs.declared.call.Call.{Call}
use Rattle.rulebook.specs.declared.call.Call.TheVariants.{List as Listing, Advance, Open, Enter, Amend, Cancel, CarryAway, Figures}
use Rattle.rulebook.specs.declared.record.Record.{Record}
use Rattle.rulebook.specs.Notebook.{Rules, Notebook, security_of}
use Rattle.rulebook.specs.Lines.{due_now}
use Rattle.rulebook.specs.Taken.{at_clock, new_record}
use Rattle.rulebook.specs.Sheets.{sheet_of}
use Rattle.rulebook.specs.Desk.{Desk}
use Rattle.rulebook.specs.Grounds.{ground}

-- the warnings are those of the security as it is listed now
abbrev pub warnings_in : Rules → Report → Option Security → Warnings
warnings_in rules r None = record { price = false; quantity = false }
warnings_in rules r (Some s) = warned r s rules.sizes.expand

-- a trade that is taken is answered with its code, its publication moment and its warnings
abbrev pub receipt : Rules → Notebook → Option Record → Answer
receipt rules nb None = Done
receipt rules nb (Some t) =
    Taken (record { code = t.code; moment = t.moment; warnings = warnings_in rules t.report (security_of nb t.report.isin) })

-- what a call answers that is taken
abbrev pub answer_of : Rules → Desk → Call → Answer
answer_of rules d (Listing s) = Done
answer_of rules d (Advance moment) = Advanced (length (due_now (at_clock moment d.notebook)))
answer_of rules d Open = Done
answer_of rules d (Enter r) = receipt rules d.notebook (new_record rules d.notebook (Enter r))
answer_of rules d (Amend code r) = receipt rules d.notebook (new_record rules d.notebook (Amend code r))
answer_of rules d (Cancel member code) = Done
answer_of rules d (CarryAway room) = Carried (length d.standing)
answer_of rules d (Figures isin day sheet) = Counted (sheet_of d.notebook isin day sheet)

-- the first ground, or else what the call answers
abbrev pub answer_to : Rules → Desk → Call → Result Answer Refusal
answer_to rules d call = unless (ground rules d call) (answer_of rules d call)
