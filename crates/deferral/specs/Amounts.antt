-- Amounts, and the tiers that they open.
use Rattle.std.specs.Prelude.{ℕ, ◌*◌, cond, List, [], ◌∷◌, nat_le}
use Rattle.deferral.specs.declared.tier.Tier.{Tier}
use Rattle.deferral.specs.declared.tier.Tier.TheVariants.{Zero}
use Rattle.deferral.specs.Tiers.{tier_number}

-- an amount in EUR, and the tier that a turnover at or above it reaches
pub record Step : Type 0 where
  pub amount : ℕ
  pub tier : Tier

-- EUR as units of 0.0001 EUR, in which turnover is counted
abbrev pub units : ℕ → ℕ
units euro = euro * 10000

abbrev pub reached : ℕ → Step → Tier
reached turnover s = cond (nat_le (units s.amount) turnover) s.tier Zero

abbrev pub higher : Tier → Tier → Tier
higher s t = cond (nat_le (tier_number t) (tier_number s)) s t

-- the highest tier reached counts
abbrev pub highest : List Step → ℕ → Tier
highest [] turnover = Zero
highest (s ∷ ss) turnover = higher (reached turnover s) (highest ss turnover)
