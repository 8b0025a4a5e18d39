use Rattle.std.proofs.Common.{◌≡◌, ◌%◌, take}
use Rattle.identifier.specs.Counterparty.{as_number}
use Rattle.identifier.proofs.lei.remainder_of.Given as goal

abbrev pub invariant-loop-byte : goal.invariant-loop-byte
invariant-loop-byte l = l.remainder ≡ as_number (take l.byte-index l.text) % 97
