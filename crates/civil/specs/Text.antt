-- How a date is written, as 2018-03-29, and the names of months and weekdays.
use Rattle.std.specs.Prelude.{ℕ, ◌+◌, ◌/◌, ◌%◌, List, [], ◌∷◌, ◌++◌, codes, decimal}
use Rattle.civil.specs.Dates.{place}
use Rattle.civil.specs.declared.date.Date.{Date}
use Rattle.civil.specs.declared.month.Month.{Month}
use Rattle.civil.specs.declared.month.Month.TheVariants.{January, February, March, April, May, June, July, August, September, October, November, December}
use Rattle.civil.specs.declared.weekday.Weekday.{Weekday}
use Rattle.civil.specs.declared.weekday.Weekday.TheVariants.{Monday, Tuesday, Wednesday, Thursday, Friday, Saturday, Sunday}

-- a number below 100 in two digits
abbrev pub two_digits : ℕ → List ℕ
two_digits n = decimal (n / 10) ++ decimal (n % 10)

-- the year, the month's number and the day, with hyphens between them
abbrev pub date_text : Date → List ℕ
date_text t = decimal t.year ++ (45 ∷ []) ++ two_digits (place t.month + 1) ++ (45 ∷ []) ++ two_digits t.day

abbrev pub month_name : Month → List ℕ
month_name January = codes "January"
month_name February = codes "February"
month_name March = codes "March"
month_name April = codes "April"
month_name May = codes "May"
month_name June = codes "June"
month_name July = codes "July"
month_name August = codes "August"
month_name September = codes "September"
month_name October = codes "October"
month_name November = codes "November"
month_name December = codes "December"

abbrev pub weekday_name : Weekday → List ℕ
weekday_name Monday = codes "Monday"
weekday_name Tuesday = codes "Tuesday"
weekday_name Wednesday = codes "Wednesday"
weekday_name Thursday = codes "Thursday"
weekday_name Friday = codes "Friday"
weekday_name Saturday = codes "Saturday"
weekday_name Sunday = codes "Sunday"
