-- The year in which a day lies.
use Rattle.std.specs.Prelude.{ℕ, ◌+◌, ◌<◌, ◌≤◌}
use Rattle.civil.specs.Dates.{new_year}

pub record YearOf (day year : ℕ) : Type 0 where
  pub begun : new_year year ≤ day
  pub ahead : day < new_year (year + 1)
  pub first : 1970 ≤ year
  pub small : year ≤ 12000000
