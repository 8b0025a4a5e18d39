use Rattle.std.proofs.Common.{ap, ◌∙◌, arith}
use Rattle.civil.specs.Dates.{days_of_years}
use Rattle.civil.proofs.Years.{leaps, new_year_is}
use Rattle.civil.proofs.year.first_day.Goals as goal

pub returns : goal.returns
unfolding leaps
returns c = record {
  value = new_year_is c.saturating_sub-years.result ∙ ap days_of_years c.saturating_sub-years.ensures;
  bound = omega arith;
}
