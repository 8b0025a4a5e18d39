use Rattle.std.proofs.Common.{◌^◌, ◌≤◌, arith}
use Rattle.std.proofs.lemmas.Grind.{common_steps}
use Rattle.deferral.specs.Deadlines.{day_of}
use Rattle.deferral.proofs.Opening.{not_opened}
use Rattle.deferral.proofs.opened.open_clock_day.Goals as goal

pub returns-in_err-day : goal.returns-in_err-day
returns-in_err-day g c =
    let far : 2 ^ 32 ≤ day_of c.args.clock = grind (arith, common_steps) in
    let is = not_opened (g.C.Calendar.meaning c.args.calendar.now) (day_of c.args.clock) (g.met.C.Calendar.lawful c.args.calendar.now) far in
    grind (arith, common_steps)
