use Rattle.std.proofs.Common.{◌++◌, drop, refl, ap, ◌∙◌, arith}
use Rattle.ledger.specs.Totalled.{moved_on}
use Rattle.ledger.proofs.Writing.{mapped_more, mapped_all, mapped_front}
use Rattle.ledger.proofs.listed.open_slot.Goals as goal

pub loop-one-init : goal.loop-one-init
loop-one-init c = refl

pub loop-one-preserved : goal.loop-one-preserved
loop-one-preserved c =
    mapped_more moved_on _ c.loop-one.one-items c.loop-one.one-index _ _ (omega arith) (omega arith) c.loop-one.invariant c.move_on.ensures

pub returns : goal.returns
returns c =
    ap (λ xs. xs ++ drop c.min-count.result c.args.listed.now) (c.loop-one.invariant ∙ mapped_all moved_on _ c.loop-one.one-index (omega arith))
    ∙ mapped_front moved_on c.args.listed.now c.args.count _ c.min-count.ensures
