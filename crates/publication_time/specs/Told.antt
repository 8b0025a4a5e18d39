-- What is told of a line that cannot be read.
use Rattle.std.specs.Prelude.{ℕ, List, codes}
use Rattle.publication_time.specs.declared.fault.Fault.{Fault}
use Rattle.publication_time.specs.declared.fault.Fault.TheVariants.{NotText, Flawed}
use Rattle.reading.specs.Messages.{flaw_text}

abbrev pub fault_text : Fault → List ℕ
fault_text NotText = codes "it is not text"
fault_text (Flawed flaw) = flaw_text flaw
