use Rattle.std.proofs.Common.{sym, refl}
use Rattle.ledger.proofs.Listing.{lists_over, lists_behind}
use Rattle.ledger.proofs.listed.list.Goals as goal

pub returns-in-Some-clause-listing : goal.returns-in-Some-clause-listing
returns-in-Some-clause-listing c h = lists_over c.args.security.now c.args.count c.args.listed.now h c.in-Some.place _ _ (sym c.in-Some.ensures) refl

pub returns-in-None-clause-listing : goal.returns-in-None-clause-listing
returns-in-None-clause-listing c h =
    lists_behind c.args.security.now c.args.count c.args.listed.now h _ (sym c.in-None.ensures) c.if-count-listed-2.true c.untraded.ensures
