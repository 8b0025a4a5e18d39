use Rattle.std.proofs.Common.{◌≡◌, sym, ap, ◌∙◌, arith}
use Rattle.civil.specs.Dates.{day_number, month_length}
use Rattle.civil.specs.Weekdays.{sunday_until, last_sunday}
use Rattle.civil.proofs.Counting.{month_long}
use Rattle.civil.proofs.Sundays.{sunday_back}
use Rattle.civil.proofs.weekday.last_sunday.Goals as goal

pub returns : goal.returns
unfolding last_sunday
returns c =
    let end = c.day_number-end.result in
    let is : end ≡ day_number c.args.year c.args.month (month_length c.args.year c.args.month) = c.day_number-end.ensures.value ∙ ap (day_number c.args.year c.args.month) c.length_of.ensures.value in
    let long = month_long c.args.year c.args.month in
    record {
      value = sym (sunday_back c.since_sunday.result 6 end (sym c.since_sunday.ensures) (omega arith) (omega arith)) ∙ ap (sunday_until 7) is;
      bound = omega arith;
    }
