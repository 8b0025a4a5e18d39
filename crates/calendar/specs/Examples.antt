-- Worked examples of the calendar by rule.
use Rattle.std.specs.Prelude.{◌≡◌, ◌+◌, ◌*◌, Some}
use Rattle.civil.specs.Dates.{day_number}
use Rattle.civil.specs.declared.month.Month.TheVariants.{March, April, December}
use Rattle.calendar.specs.Easter.{easter_sunday}
use Rattle.calendar.specs.Rule.{by_rule}
use Rattle.calendar.specs.Trading.{next_trading_day, close, clock}

pub record Examples : Type 0 where
  pub easter_2018 : easter_sunday 2018 ≡ day_number 2018 April 1
  pub easter_2049 : easter_sunday 2049 ≡ day_number 2049 April 18
  pub easter_2076 : easter_sunday 2076 ≡ day_number 2076 April 19
  pub easter_2100 : easter_sunday 2100 ≡ day_number 2100 March 28
  pub after_easter_week : next_trading_day by_rule (day_number 2018 March 29) ≡ Some (day_number 2018 April 3)
  pub christmas_eve : close by_rule (day_number 2018 December 24) ≡ day_number 2018 December 24 * 86400 + clock 13 15
