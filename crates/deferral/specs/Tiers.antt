-- The tiers, and questions that differ in turnover alone.
use Rattle.std.specs.Prelude.{◌≡◌, ℕ, ◌≤◌}
use Rattle.deferral.specs.declared.question.Question.{Question}
use Rattle.deferral.specs.declared.tier.Tier.{Tier}
use Rattle.deferral.specs.declared.tier.Tier.TheVariants.{Zero, One, Two, Three, Four}

abbrev pub tier_number : Tier → ℕ
tier_number Zero = 0
tier_number One = 1
tier_number Two = 2
tier_number Three = 3
tier_number Four = 4

pub record Alike (q r : Question) : Type 0 where
  pub class : q.class ≡ r.class
  pub daily : q.daily ≡ r.daily

-- what every schedule keeps: with all else fixed, the tier never falls as turnover grows
abbrev pub Rises : (Question → Tier) → Type 0
Rises tier = (q r : Question) → Alike q r → q.turnover ≤ r.turnover → tier_number (tier q) ≤ tier_number (tier r)
