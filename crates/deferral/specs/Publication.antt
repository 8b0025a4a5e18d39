-- The moment at which the market may see a trade.
use Rattle.std.specs.Prelude.{ℕ, ◌+◌, ◌≤◌, max, Bool, cond, nat_lt}
use Rattle.deferral.specs.declared.deadlines.Deadlines.{Deadlines}
use Rattle.deferral.specs.declared.tier.Tier.{Tier}
use Rattle.deferral.specs.declared.tier.Tier.TheVariants.{Zero, One, Two, Three, Four}

-- the moment that a tier gives: after one hour; after two; at the close of the execution day where two hours end before it,
-- else at the noon point of the next trading day; at that day's close
abbrev pub tier_moment : Deadlines → ℕ → Tier → ℕ
tier_moment d execution Zero = 0
tier_moment d execution One = execution + 3600
tier_moment d execution Two = execution + 7200
tier_moment d execution Three = cond (nat_lt (execution + 7200) d.close) d.close d.next.noon
tier_moment d execution Four = d.next.close

-- a trade is published at the later of its tier's moment and the clock
abbrev pub publication : Deadlines → ℕ → ℕ → Tier → ℕ
publication d clock execution t = max (tier_moment d execution t) clock

-- a trade that may not be deferred is of tier 0
abbrev pub tier_if : Bool → Tier → Tier
tier_if deferrable t = cond deferrable t Zero

-- what the order of the tiers' moments needs of an execution and its deadlines
pub record Timely (d : Deadlines) (execution : ℕ) : Type 0 where
  pub noon_later : execution + 7200 ≤ d.next.noon
  pub close_later : d.close ≤ d.next.close
  pub noon_first : d.next.noon ≤ d.next.close
