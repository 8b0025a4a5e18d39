use Rattle.std.proofs.Common.{◌∙◌, rules, tests}
use Rattle.std.proofs.lemmas.Iterator.{YieldsList-from_slice}
use Rattle.std.proofs.lemmas.Iterator.Search.{any_from_yields_List}
use Rattle.ledger.specs.HeldDay.{holds}
use Rattle.ledger.proofs.Row.{any_stands}
use Rattle.ledger.proofs.days.Days.has.Goals as goal

pub returns : goal.returns
returns c =
    any_from_yields_List (holds c.args.day) _ _ _ c.any.ensures.ran (YieldsList-from_slice c.args.self.now.held cc) (λ x b q k. search (rules, tests))
    ∙ any_stands c.args.day c.args.self.now.held
