use Rattle.std.proofs.Common.{◌≡◌, ◌++◌, map, take, drop}
use Rattle.ledger.specs.Totalled.{moved_on}
use Rattle.ledger.proofs.listed.open_slot.Given as goal

abbrev pub invariant-loop-one : goal.invariant-loop-one
invariant-loop-one l =
    l.one-items ≡ map moved_on (take l.one-index l.initial.one-items) ++ drop l.one-index l.initial.one-items
