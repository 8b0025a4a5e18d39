use Rattle.deferral.proofs.Later.{larger_never_earlier}
use Rattle.deferral.proofs.judgement.judge_trade.Goals as goal

pub returns-in_err-open_clock_day-clause-later : goal.returns-in_err-open_clock_day-clause-later
returns-in_err-open_clock_day-clause-later g c =
    larger_never_earlier (g.C.Calendar.meaning c.args.calendar.now) (g.S.Schedule.tier c.args.schedule.now)
    (g.met.C.Calendar.lawful c.args.calendar.now) (g.met.S.Schedule.rises c.args.schedule.now)

pub returns-clause-later : goal.returns-clause-later
returns-clause-later g c =
    larger_never_earlier (g.C.Calendar.meaning c.args.calendar.now) (g.S.Schedule.tier c.args.schedule.now)
    (g.met.C.Calendar.lawful c.args.calendar.now) (g.met.S.Schedule.rises c.args.schedule.now)
