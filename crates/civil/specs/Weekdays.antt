-- The days of the week, from day 0 on, which is a Thursday.
use Rattle.std.specs.Prelude.{ℕ, zero, suc, ◌-◌, ◌%◌, Bool, true, false, cond, List, [], ◌∷◌, slice_index_or}
use Rattle.civil.specs.declared.month.Month.{Month}
use Rattle.civil.specs.declared.weekday.Weekday.{Weekday}
use Rattle.civil.specs.declared.weekday.Weekday.TheVariants.{Monday, Tuesday, Wednesday, Thursday, Friday, Saturday, Sunday}
use Rattle.civil.specs.Dates.{day_number, month_length}

abbrev pub week_from_day_zero : List Weekday
week_from_day_zero = Thursday ∷ Friday ∷ Saturday ∷ Sunday ∷ Monday ∷ Tuesday ∷ Wednesday ∷ []

abbrev pub weekday_of : ℕ → Weekday
weekday_of day = slice_index_or week_from_day_zero (day % 7) Thursday

abbrev pub is_sunday : Weekday → Bool
is_sunday Monday = false
is_sunday Tuesday = false
is_sunday Wednesday = false
is_sunday Thursday = false
is_sunday Friday = false
is_sunday Saturday = false
is_sunday Sunday = true

abbrev pub is_weekend : Weekday → Bool
is_weekend Monday = false
is_weekend Tuesday = false
is_weekend Wednesday = false
is_weekend Thursday = false
is_weekend Friday = false
is_weekend Saturday = true
is_weekend Sunday = true

-- the latest Sunday on or before a day, looked for among n days
abbrev pub sunday_until : ℕ → ℕ → ℕ
sunday_until zero day = day
sunday_until (suc n) day = cond (is_sunday (weekday_of day)) day (sunday_until n (day - 1))

unfoldable pub last_sunday : ℕ → Month → ℕ
last_sunday y m = sunday_until 7 (day_number y m (month_length y m))
