-- How a flaw of a line and a fault of a request are written.
use Rattle.std.specs.Prelude.{ℕ, List, ◌++◌, codes, decimal}
use Rattle.reading.specs.declared.flaw.Field.{Field}
use Rattle.reading.specs.declared.flaw.Field.TheVariants.{Class, Daily, Price, Quantity, Execution, Clock, Mark}
use Rattle.reading.specs.declared.flaw.Flaw.{Flaw}
use Rattle.reading.specs.declared.flaw.Flaw.TheVariants as flaw
use Rattle.reading.specs.declared.request.Fault.{Fault}
use Rattle.reading.specs.declared.request.Fault.TheVariants as fault

abbrev pub field_name : Field → List ℕ
field_name Class = codes "CLASS"
field_name Daily = codes "ADT"
field_name Price = codes "PRICE"
field_name Quantity = codes "QUANTITY"
field_name Execution = codes "EXECUTION"
field_name Clock = codes "CLOCK"
field_name Mark = codes "MARK"

abbrev pub flaw_text : Flaw → List ℕ
flaw_text (flaw.Missing f) = field_name f ++ codes " is missing"
flaw_text flaw.WrongClass = codes "CLASS is not E or F"
flaw_text (flaw.NoNumber f) = field_name f ++ codes " is not a number"
flaw_text (flaw.LeadingZero f) = field_name f ++ codes " begins with 0"
flaw_text (flaw.TooLarge f) = field_name f ++ codes " is too large"
flaw_text flaw.WrongMark = codes "MARK is not N or D"
flaw_text flaw.TooManyWords = codes "there are more than seven words"

abbrev pub fault_text : Fault → List ℕ
fault_text fault.NoYear = codes "no year is given"
fault_text fault.NoNumber = codes "a year is not a number"
fault_text (fault.OutOfRange year) = decimal year ++ codes " is not a year from 2000 to 2199"
fault_text (fault.Backwards first last) =
    codes "the first year, " ++ (decimal first ++ (codes ", is after the last, " ++ decimal last))
fault_text fault.TooManyWords = codes "there are too many words"
