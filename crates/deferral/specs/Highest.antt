-- The highest tier reached never falls as turnover grows.
use Rattle.std.specs.Prelude.{ℕ, ◌≤◌, List, [], ◌∷◌}
use Rattle.std.proofs.Common.{arith}
use Rattle.std.proofs.lemmas.Bool.Decides.{nat_tests}
use Rattle.deferral.specs.declared.tier.Tier.{Tier}
use Rattle.deferral.specs.Tiers.{tier_number}
use Rattle.deferral.specs.Amounts.{Step, reached, higher, highest}

reached_rises : (s : Step) (t u : ℕ) → t ≤ u → tier_number (reached t s) ≤ tier_number (reached u s)
reached_rises s t u h = grind (arith, nat_tests)

higher_rises : (a b c d : Tier) → tier_number a ≤ tier_number c → tier_number b ≤ tier_number d → tier_number (higher a b) ≤ tier_number (higher c d)
higher_rises a b c d p q = grind (arith, nat_tests)

pub highest_rises : (ss : List Step) (t u : ℕ) → t ≤ u → tier_number (highest ss t) ≤ tier_number (highest ss u)
highest_rises [] t u h = omega arith
highest_rises (s ∷ ss) t u h =
    higher_rises (reached t s) (highest ss t) (reached u s) (highest ss u) (reached_rises s t u h) (highest_rises ss t u h)
