-- The calendar by rule, from 1 January 2000 to 31 December 2199.
use Rattle.std.specs.Prelude.{ℕ, ◌+◌, Bool, cond, ◌&&◌, ◌||◌, ◌==◌, nat_le, nat_lt}
use Rattle.civil.specs.Dates.{place, date_of}
use Rattle.civil.specs.Weekdays.{weekday_of, is_weekend, last_sunday}
use Rattle.civil.specs.declared.date.Date.{Date}
use Rattle.civil.specs.declared.month.Month.{Month}
use Rattle.civil.specs.declared.month.Month.TheVariants.{January, March, May, October, December}
use Rattle.calendar.specs.declared.day.Kind.{Kind}
use Rattle.calendar.specs.declared.day.Kind.TheVariants.{Closed, Half, Full}
use Rattle.calendar.specs.Easter.{easter_sunday}
use Rattle.calendar.specs.Meaning.{Meaning}

-- is the date that day of that month?
abbrev pub falls_on : Month → ℕ → Date → Bool
falls_on m d t = place t.month == place m && t.day == d

-- the market is closed each year on these dates
abbrev pub yearly_closing : Date → Bool
yearly_closing t = falls_on January 1 t || (falls_on May 1 t || (falls_on December 25 t || falls_on December 26 t))

-- and closes early on these
abbrev pub early_closing : Date → Bool
early_closing t = falls_on December 24 t || falls_on December 31 t

-- Good Friday is two days before Easter Sunday, and Easter Monday the day after it
abbrev pub easter_closing : ℕ → ℕ → Bool
easter_closing easter day = day + 2 == easter || day == easter + 1

abbrev pub is_closed : ℕ → Date → Bool
is_closed day t = is_weekend (weekday_of day) || (yearly_closing t || easter_closing (easter_sunday t.year) day)

-- the kind of a day that has that date
abbrev pub kind_on : ℕ → Date → Kind
kind_on day t = cond (is_closed day t) Closed (cond (early_closing t) Half Full)

-- Irish clocks are an hour ahead from the last Sunday of March until the last Sunday of October
abbrev pub summer_time : ℕ → Date → Bool
summer_time day t = nat_le (last_sunday t.year March) day && nat_lt day (last_sunday t.year October)

abbrev pub offset_on : ℕ → Date → ℕ
offset_on day t = cond (summer_time day t) 3600 0

abbrev pub by_rule : Meaning
by_rule = record { first = 10957; last = 84005; kind = λ day. kind_on day (date_of day); offset = λ day. offset_on day (date_of day) }
