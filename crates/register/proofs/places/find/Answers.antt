use Rattle.std.proofs.Common.{rules, sym}
use Rattle.register.proofs.Cuts.{here_at, gap_at, gap_end}
use Rattle.register.proofs.places.find.Goals as goal

pub returns-in-Some-clause-found : goal.returns-in-Some-clause-found
returns-in-Some-clause-found g c u =
    here_at g.K.Key.below c.args.key c.args.keys.now g.met.K.Key.ordered c.place-at.result c.in-Some.field-0.now (c.place-at.ensures.cut u) u (search rules) (search rules) (sym c.if-not-before.ensures)

pub returns-in_default-clause-found : goal.returns-in_default-clause-found
returns-in_default-clause-found g c u =
    gap_at g.K.Key.below c.args.key c.args.keys.now g.met.K.Key.ordered c.place-at.result c.in-Some.field-0.now (c.place-at.ensures.cut u) u (search rules) (search rules) (sym c.if-not-before.ensures)

pub returns-in_default-2-clause-found : goal.returns-in_default-2-clause-found
returns-in_default-2-clause-found g c u =
    gap_end g.K.Key.below c.args.key c.args.keys.now g.met.K.Key.ordered c.place-at.result (c.place-at.ensures.cut u) (search rules)
