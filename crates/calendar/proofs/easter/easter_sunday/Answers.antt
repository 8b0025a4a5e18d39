use Rattle.std.proofs.Common.{ℕ, ◌+◌, ap, ◌∙◌, arith}
use Rattle.civil.specs.Dates.{day_number}
use Rattle.civil.specs.declared.month.Month.TheVariants.{March}
use Rattle.calendar.proofs.Gauss.{easter_is, a_sunday}
use Rattle.calendar.proofs.easter.easter_sunday.Goals as goal

pub returns : goal.returns
returns c =
    let value = c.day_number.ensures.value ∙ ap (λ (n : ℕ). day_number c.args.year March (22 + n)) c.days_after_22_march.ensures.value ∙ easter_is c.args.year in
    record { value = value; bound = omega arith; sunday = a_sunday c.args.year _ value }
