-- The names of the days on which the market is closed by rule.
use Rattle.std.specs.Prelude.{ℕ, ◌+◌, cond, List, Some, None, codes, Option, ◌==◌}
use Rattle.civil.specs.Dates.{date_of}
use Rattle.civil.specs.declared.month.Month.TheVariants.{January, May, December}
use Rattle.calendar.specs.Easter.{easter_sunday}
use Rattle.calendar.specs.Rule.{falls_on}
use Rattle.almanac.specs.declared.closing.Closing.{Closing}
use Rattle.almanac.specs.declared.closing.Closing.TheVariants.{NewYearsDay, GoodFriday, EasterMonday, MayDay, ChristmasDay, StStephensDay}

-- the closing that falls on a day, a weekend's too
abbrev pub closing_on : ℕ → Option Closing
closing_on day =
    cond (falls_on January 1 (date_of day)) (Some NewYearsDay)
    (cond (falls_on May 1 (date_of day)) (Some MayDay)
    (cond (falls_on December 25 (date_of day)) (Some ChristmasDay)
    (cond (falls_on December 26 (date_of day)) (Some StStephensDay)
    (cond (day + 2 == easter_sunday (date_of day).year) (Some GoodFriday)
    (cond (day == easter_sunday (date_of day).year + 1) (Some EasterMonday) None)))))

abbrev pub closing_name : Closing → List ℕ
closing_name NewYearsDay = codes "New Year's Day"
closing_name GoodFriday = codes "Good Friday"
closing_name EasterMonday = codes "Easter Monday"
closing_name MayDay = codes "May Day"
closing_name ChristmasDay = codes "Christmas Day"
closing_name StStephensDay = codes "St Stephen's Day"
