-- The notebook, and the lines that stand on the tape.
use Rattle.std.specs.Prelude.{List, [], ◌++◌}
use Rattle.report.specs.declared.line.Line.{Line}
use Rattle.rulebook.specs.declared.call.Call.{Call}
use Rattle.rulebook.specs.declared.call.Call.TheVariants.{List as Listing, Advance, Open, Enter, Amend, Cancel, CarryAway, Figures}
use Rattle.rulebook.specs.Notebook.{Rules, Notebook, blank}
use Rattle.rulebook.specs.Taken.{after_call, lines_of}

pub record Desk : Type 0 where
  pub notebook : Notebook
  -- the lines written and not yet carried away
  pub standing : List Line

abbrev pub new_desk : Desk
new_desk = record { notebook = blank; standing = [] }

-- carry away takes all lines that stand, and nothing else takes one
abbrev pub carries : Call → List Line → List Line
carries (Listing s) standing = []
carries (Advance moment) standing = []
carries Open standing = []
carries (Enter r) standing = []
carries (Amend code r) standing = []
carries (Cancel member code) standing = []
carries (CarryAway room) standing = standing
carries (Figures isin day sheet) standing = []

abbrev pub keeps : Call → List Line → List Line
keeps (Listing s) standing = standing
keeps (Advance moment) standing = standing
keeps Open standing = standing
keeps (Enter r) standing = standing
keeps (Amend code r) standing = standing
keeps (Cancel member code) standing = standing
keeps (CarryAway room) standing = []
keeps (Figures isin day sheet) standing = standing

-- the desk after a call that is taken
abbrev pub taken : Rules → Desk → Call → Desk
taken rules d call =
    record {
      notebook = after_call rules d.notebook call;
      standing = keeps call d.standing ++ lines_of rules d.notebook call;
    }
