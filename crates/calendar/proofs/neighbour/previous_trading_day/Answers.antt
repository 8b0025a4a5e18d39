use Rattle.std.proofs.Common.{ap, ◌∙◌}
use Rattle.calendar.specs.Steps.{earlier}
use Rattle.calendar.specs.Trading.{nearest}
use Rattle.calendar.proofs.Stepping.{back}
use Rattle.calendar.proofs.Nearest.{previous_within}
use Rattle.calendar.proofs.neighbour.previous_trading_day.Goals as goal

pub returns : goal.returns
returns g c =
    let m = g.C.Calendar.meaning c.args.calendar.now in
    let found = c.neighbour.ensures earlier (λ day r given. given) ∙ ap (nearest m) (back 14 c.args.day) in
    record { value = found; nearest = previous_within m c.args.day c.neighbour.result found }
