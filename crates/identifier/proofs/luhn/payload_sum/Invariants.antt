use Rattle.std.proofs.Common.{take}
use Rattle.identifier.specs.Characters.{in_digits}
use Rattle.identifier.specs.Luhn.{Weigh}
use Rattle.identifier.proofs.luhn.payload_sum.Given as goal

abbrev pub invariant-loop-byte : goal.invariant-loop-byte
invariant-loop-byte l = Weigh l.sums.doubled l.sums.plain (in_digits (take l.byte-index l.payload))
