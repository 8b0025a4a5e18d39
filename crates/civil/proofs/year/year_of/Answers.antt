use Rattle.civil.proofs.Years.{this_year, next_year}
use Rattle.civil.proofs.year.year_of.Goals as goal

pub returns-then-first_day-day : goal.returns-then-first_day-day
returns-then-first_day-day c =
    next_year c.args.day _ _ c.ranges.day.fits c.saturating_sub.ensures c.first_day.ensures.value c.if-first_day-day.true

pub returns-else-first_day-day : goal.returns-else-first_day-day
returns-else-first_day-day c =
    this_year c.args.day _ _ c.ranges.day.fits c.saturating_sub.ensures c.first_day.ensures.value c.if-first_day-day.false
