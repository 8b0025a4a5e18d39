use Rattle.std.proofs.Common.{◌∙◌}
use Rattle.calendar.specs.Steps.{later}
use Rattle.calendar.proofs.Stepping.{onward}
use Rattle.calendar.proofs.Nearest.{next_within}
use Rattle.calendar.proofs.neighbour.next_trading_day.Goals as goal

pub returns : goal.returns
returns g c =
    let m = g.C.Calendar.meaning c.args.calendar.now in
    let found = c.neighbour.ensures later (λ day r given. given) ∙ onward m (g.met.C.Calendar.lawful c.args.calendar.now).fits 14 c.args.day in
    record { value = found; nearest = next_within m c.args.day c.neighbour.result found }
