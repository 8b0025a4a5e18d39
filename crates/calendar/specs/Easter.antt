-- Easter Sunday by Gauss's rule.
use Rattle.std.specs.Prelude.{◌≡◌, ℕ, ◌+◌, ◌*◌, ◌%◌, ◌≤◌, cond, ◌&&◌, ◌==◌, nat_lt}
use Rattle.civil.specs.Dates.{day_number}
use Rattle.civil.specs.Weekdays.{weekday_of}
use Rattle.civil.specs.declared.weekday.Weekday.TheVariants.{Sunday}
use Rattle.civil.specs.declared.month.Month.TheVariants.{March, April}

-- the year's place in the cycle of nineteen years after which the moon's phases fall on the same dates
abbrev pub in_moon_cycle : ℕ → ℕ
in_moon_cycle y = y % 19

-- how many days after 21 March the full moon is
abbrev pub to_full_moon : ℕ → ℕ
to_full_moon y = (19 * in_moon_cycle y + 24) % 30

-- how many days more it is to the day before the Sunday
abbrev pub to_sunday : ℕ → ℕ
to_sunday y = (2 * (y % 4) + 4 * (y % 7) + 6 * to_full_moon y + cond (nat_lt y 2100) 5 6) % 7

abbrev pub reckoned : ℕ → ℕ
reckoned y = day_number y March 22 + (to_full_moon y + to_sunday y)

-- 26 April becomes 19 April, and 25 April becomes 18 April late in the cycle
unfoldable pub easter_sunday : ℕ → ℕ
easter_sunday y =
    cond (reckoned y == day_number y April 26) (day_number y April 19)
    (cond (reckoned y == day_number y April 25 && (to_full_moon y == 28 && nat_lt 10 (in_moon_cycle y))) (day_number y April 18)
    (reckoned y))

-- what is known of every Easter: a Sunday from 22 March to 25 April
pub record ASunday (y easter : ℕ) : Type 0 where
  pub sunday : weekday_of easter ≡ Sunday
  pub from : day_number y March 22 ≤ easter
  pub until : easter ≤ day_number y April 25

-- Easter Sunday as days after 22 March
abbrev pub after_22_march : ℕ → ℕ
after_22_march y =
    cond (to_full_moon y + to_sunday y == 35) 28
    (cond (to_full_moon y + to_sunday y == 34 && (to_full_moon y == 28 && nat_lt 10 (in_moon_cycle y))) 27
    (to_full_moon y + to_sunday y))
