-- Civil dates by the Gregorian rule: the lengths of months and years, counted from day 0, 1 January 1970.
use Rattle.std.specs.Prelude.{ℕ, zero, suc, ◌+◌, ◌-◌, ◌%◌, Bool, true, false, cond, List, [], ◌∷◌, take, sum, ◌==◌, nat_lt, slice_index}
use Rattle.civil.specs.declared.date.Date.{Date}
use Rattle.civil.specs.declared.month.Month.{Month}
use Rattle.civil.specs.declared.month.Month.TheVariants.{January, February, March, April, May, June, July, August, September, October, November, December}

-- every fourth year is a leap year, but of the centuries only every fourth
abbrev pub leap : ℕ → Bool
leap y = cond (y % 400 == 0) true (cond (y % 100 == 0) false (y % 4 == 0))

abbrev pub year_length : ℕ → ℕ
year_length y = cond (leap y) 366 365

-- the month's place in the year, January's being 0
abbrev pub place : Month → ℕ
place January = 0
place February = 1
place March = 2
place April = 3
place May = 4
place June = 5
place July = 6
place August = 7
place September = 8
place October = 9
place November = 10
place December = 11

abbrev pub month_lengths : ℕ → List ℕ
month_lengths y = 31 ∷ cond (leap y) 29 28 ∷ 31 ∷ 30 ∷ 31 ∷ 30 ∷ 31 ∷ 31 ∷ 30 ∷ 31 ∷ 30 ∷ 31 ∷ []

abbrev pub month_length : ℕ → Month → ℕ
month_length y m = slice_index (month_lengths y) (place m)

-- how many days of year y lie before the month
abbrev pub days_before : ℕ → Month → ℕ
days_before y m = sum (take (place m) (month_lengths y))

-- how many days the n years from 1970 on have
abbrev pub days_of_years : ℕ → ℕ
days_of_years zero = 0
days_of_years (suc n) = days_of_years n + year_length (1970 + n)

-- the day of 1 January of year y
abbrev pub new_year : ℕ → ℕ
new_year y = days_of_years (y - 1970)

-- the day number of a date
abbrev pub day_number : ℕ → Month → ℕ → ℕ
day_number y m d = new_year y + days_before y m + (d - 1)

-- the first day of a month
abbrev pub first_of : ℕ → Month → Date
first_of y m = record { year = y; month = m; day = 1 }

-- the first day of the month that follows
abbrev pub next_month : ℕ → Month → Date
next_month y January = first_of y February
next_month y February = first_of y March
next_month y March = first_of y April
next_month y April = first_of y May
next_month y May = first_of y June
next_month y June = first_of y July
next_month y July = first_of y August
next_month y August = first_of y September
next_month y September = first_of y October
next_month y October = first_of y November
next_month y November = first_of y December
next_month y December = first_of (y + 1) January

abbrev pub tomorrow : Date → Date
tomorrow t = cond (nat_lt t.day (month_length t.year t.month)) (record { year = t.year; month = t.month; day = t.day + 1 }) (next_month t.year t.month)

-- the date of a day, counted on from 1 January 1970
abbrev pub date_of : ℕ → Date
date_of zero = first_of 1970 January
date_of (suc n) = tomorrow (date_of n)
