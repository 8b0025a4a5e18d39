use Rattle.std.proofs.Common.{◌≡◌, ◌+◌, ◌-◌, ◌<◌, sym, ap, ◌∙◌, arith}
use Rattle.civil.specs.Dates.{date_of, new_year, days_before, month_length}
use Rattle.civil.proofs.Counting.{date_within, year_ends}
use Rattle.civil.proofs.date.Date.of.Goals as goal

pub month_at-month-requires : goal.month_at-month-requires
month_at-month-requires c = omega (arith, year_ends c.year_of-year.result c.year_of-year.ensures.first)

pub returns : goal.returns
returns c =
    let y = c.year_of-year.result in
    let m = c.month_at-month.result in
    let k = c.args.day - c.first_day.result - c.days_before.result in
    let within : k < month_length y m = omega arith in
    let is : new_year y + days_before y m + k ≡ c.args.day = omega arith in
    sym (date_within y k m c.year_of-year.ensures.first within) ∙ ap date_of is
