use Rattle.std.proofs.Common.{refl, arith}
use Rattle.std.proofs.lemmas.Grind.{common_steps}
use Rattle.deferral.proofs.Opening.{found_is}
use Rattle.deferral.proofs.opened.open_day.Goals as goal

pub returns-in_err-before : goal.returns-in_err-before
returns-in_err-before g c =
    let is = found_is (g.C.Calendar.meaning c.args.calendar.now) c.args.day c.trading_day.ensures c.trading_day_before.ensures refl in grind (arith, common_steps)

pub returns-in_err-after : goal.returns-in_err-after
returns-in_err-after g c =
    let is = found_is (g.C.Calendar.meaning c.args.calendar.now) c.args.day c.trading_day.ensures c.trading_day_before.ensures c.trading_day_after.ensures in grind (arith, common_steps)

pub returns : goal.returns
returns g c =
    let is = found_is (g.C.Calendar.meaning c.args.calendar.now) c.args.day c.trading_day.ensures c.trading_day_before.ensures c.trading_day_after.ensures in grind (arith, common_steps)
