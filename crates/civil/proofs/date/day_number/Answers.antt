use Rattle.std.proofs.Common.{◌≡◌, ℕ, ◌+◌, ap, ◌∙◌, arith}
use Rattle.civil.specs.Dates.{date_of}
use Rattle.civil.proofs.Counting.{date_of_number}
use Rattle.civil.proofs.date.day_number.Goals as goal

sums : {a a' b b' d d' : ℕ} → a ≡ a' → b ≡ b' → d ≡ d' → a + b + d ≡ a' + b' + d'
sums p q r = cc

pub returns : goal.returns
returns c =
    let value = sums c.first_day.ensures.value c.days_before.ensures.value c.saturating_sub.ensures in
    record { value = value; bound = omega arith; dated = λ late low high. ap date_of value ∙ date_of_number c.args.year c.args.day c.args.month late low high }
