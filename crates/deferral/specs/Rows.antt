-- What the code's own table means.
use Rattle.std.specs.Prelude.{ℕ, List, [], ◌∷◌, nat_le}
use Rattle.std.specs.List.{find}
use Rattle.std.specs.Option.{option_map, unwrap_or}
use Rattle.deferral.specs.declared.row.Row.{Row}
use Rattle.deferral.specs.declared.tier.Tier.TheVariants.{One, Two, Four}
use Rattle.deferral.specs.Amounts.{Step}

abbrev pub steps_of : Row → List Step
steps_of r = record { amount = r.first; tier = One } ∷ record { amount = r.second; tier = Two } ∷ record { amount = r.third; tier = r.top } ∷ []

-- the steps for what no row serves
abbrev pub smallest : List Step
smallest = record { amount = 7500; tier = One } ∷ record { amount = 15000; tier = Two } ∷ record { amount = 25000; tier = Four } ∷ []

-- the steps of the first of the rows that serves an average daily turnover
abbrev pub first_serving : List Row → ℕ → List Step
first_serving rows daily = unwrap_or (option_map steps_of (find (λ r. nat_le r.from daily) rows)) smallest
