-- What is found of a line, and how it is written.
use Rattle.std.specs.Prelude.{ℕ, List, ◌++◌, Ok, Err, codes, decimal, Result}
use Rattle.refusal.specs.Numbers.{number_of}
use Rattle.refusal.specs.declared.Refusal.{Refusal}
use Rattle.identifier.specs.declared.flaw.Flaw.{Flaw}
use Rattle.identifier.specs.declared.flaw.Flaw.TheVariants.{Wrong, WrongLength, WrongWord}

-- what the answer of a check says of the line
abbrev pub verdict_of : Result Unit Refusal → Result Unit Flaw
verdict_of (Ok right) = Ok right
verdict_of (Err refusal) = Err (Wrong refusal)

-- a refusal is written with its number
abbrev pub written_flaw : Flaw → List ℕ
written_flaw (Wrong refusal) = codes "wrong, " ++ decimal (number_of refusal)
written_flaw WrongLength = codes "wrong length"
written_flaw WrongWord = codes "wrong word"

abbrev pub written : Result Unit Flaw → List ℕ
written (Ok right) = codes "right"
written (Err flaw) = written_flaw flaw
