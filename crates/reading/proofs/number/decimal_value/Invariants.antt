use Rattle.std.proofs.Common.{◌≡◌, ◌^◌, ◌<◌}
use Rattle.reading.specs.Number.{decimal_value}
use Rattle.reading.proofs.Values.{value_from}
use Rattle.reading.proofs.number.decimal_value.Given as goal

abbrev pub invariant-loop-byte : goal.invariant-loop-byte
invariant-loop-byte l = (value_from l.value l.byte-index l.word ≡ decimal_value l.word) × (l.value < 2 ^ 64)
