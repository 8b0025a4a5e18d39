use Rattle.rulebook.proofs.AsBefore.{former_sheets}
use Rattle.rulebook.proofs.former.former_sheets.Goals as goal

pub returns : goal.returns
returns c = former_sheets
