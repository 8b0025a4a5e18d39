-- Flat schedules: four amounts in EUR for tiers 1 to 4.
use Rattle.std.specs.Prelude.{ℕ, Bool, cond, ◌&&◌, List, [], ◌∷◌, Some, None, Option, nat_le}
use Rattle.refusal.specs.declared.Refusal.{Refusal}
use Rattle.refusal.specs.declared.Refusal.TheVariants.{AmountOutOfRange, AmountsFall}
use Rattle.deferral.specs.declared.flat.Flat.{Flat}
use Rattle.deferral.specs.declared.tier.Tier.TheVariants.{One, Two, Three, Four}
use Rattle.deferral.specs.Amounts.{Step}

-- an amount is 1 to 100,000,000,000 EUR
abbrev pub in_range : ℕ → Bool
in_range amount = nat_le 1 amount && nat_le amount 100000000000

-- the first ground against four amounts: one is out of range, then they fall
abbrev pub flat_ground : ℕ → ℕ → ℕ → ℕ → Option Refusal
flat_ground a b c d =
    cond (in_range a && (in_range b && (in_range c && in_range d)))
    (cond (nat_le a b && (nat_le b c && nat_le c d)) None (Some AmountsFall))
    (Some AmountOutOfRange)

-- the amounts of a schedule
abbrev pub amounts_of : Flat → List ℕ
amounts_of f = f.first ∷ f.second ∷ f.third ∷ f.fourth ∷ []

abbrev pub flat_steps : ℕ → ℕ → ℕ → ℕ → List Step
flat_steps a b c d =
    record { amount = a; tier = One } ∷ record { amount = b; tier = Two }
    ∷ record { amount = c; tier = Three } ∷ record { amount = d; tier = Four } ∷ []
