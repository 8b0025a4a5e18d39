use Rattle.std.proofs.Common.{Some, rules, tests, ap, ◌∙◌}
use Rattle.std.proofs.lemmas.Iterator.{YieldsList-from_slice}
use Rattle.std.proofs.lemmas.Iterator.Search.{find_from_yields_List}
use Rattle.std.specs.Option.{option_and_then}
use Rattle.ledger.specs.HeldDay.{holds}
use Rattle.ledger.proofs.Row.{find_stands}
use Rattle.ledger.proofs.days.Days.find.Goals as goal

pub returns : goal.returns
returns c =
    let found = find_from_yields_List (holds c.args.day) c.find.new.self _ (Some c.in_ok-find.field-0) c.in_ok-find.ensures.ran (YieldsList-from_slice c.args.self.now.held cc) (λ x b q k. search (rules, tests)) in
    ap (option_and_then (λ o. o)) found ∙ find_stands c.args.day c.args.self.now.held
