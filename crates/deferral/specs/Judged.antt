-- A trade judged at the clock: the first ground against it, or when the market may see it.
use Rattle.std.specs.Prelude.{◌≡◌, ℕ, ◌-◌, ◌*◌, ◌^◌, ◌≤◌, min, Bool, not, ◌&&◌, List, [], ◌∷◌, is_some, Ok, Err, Result, nat_le, nat_lt}
use Rattle.std.specs.Option.{unwrap_or}
use Rattle.refusal.specs.declared.Refusal.{Refusal}
use Rattle.refusal.specs.declared.Refusal.TheVariants.{MarketClosed, PriceOrQuantity, TurnoverTooLarge, ExecutionMoment}
use Rattle.refusal.specs.Grounds.{Ground, first_ground, unless}
use Rattle.calendar.specs.Meaning.{Meaning}
use Rattle.deferral.specs.declared.deadlines.Deadlines.{Deadlines}
use Rattle.deferral.specs.declared.opened.Opened.{Opened}
use Rattle.deferral.specs.declared.question.Question.{Question}
use Rattle.deferral.specs.declared.tier.Tier.{Tier}
use Rattle.deferral.specs.declared.trade.Publication.{Publication}
use Rattle.deferral.specs.declared.trade.Trade.{Trade}
use Rattle.deferral.specs.Deadlines.{day_of, opened, open_at, deadlines_for}
use Rattle.deferral.specs.Publication.{publication, tier_if}

-- a price or a quantity is 1 to 999,999,999
abbrev pub is_size : ℕ → Bool
is_size n = nat_le 1 n && nat_le n 999999999

abbrev pub closed_ground : Opened → ℕ → Ground
closed_ground o clock = record { there = not (open_at o clock); refusal = MarketClosed }

abbrev pub size_ground : ℕ → ℕ → Ground
size_ground price quantity = record { there = not (is_size price && is_size quantity); refusal = PriceOrQuantity }

-- turnover is at most 1,000,000,000,000,000 units
abbrev pub turnover_ground : ℕ → ℕ → Ground
turnover_ground price quantity = record { there = nat_lt 1000000000000000 (price * quantity); refusal = TurnoverTooLarge }

abbrev pub execution_ground : Opened → ℕ → ℕ → Ground
execution_ground o clock execution = record { there = not (is_some (deadlines_for o clock execution)); refusal = ExecutionMoment }

abbrev pub turnover : Trade → ℕ
turnover t = t.price * t.quantity

abbrev pub asks : Trade → Question
asks t = record { class = t.class; daily = t.daily; turnover = turnover t }

abbrev pub trade_tier : (Question → Tier) → Trade → Tier
trade_tier tier t = tier_if t.deferrable (tier (asks t))

-- a moment past the largest number of 64 bits becomes that number
abbrev pub capped : ℕ → ℕ
capped moment = min moment (2 ^ 64 - 1)

abbrev pub published : (Question → Tier) → Deadlines → ℕ → Trade → Publication
published tier d clock t =
    record { tier = trade_tier tier t; moment = capped (publication d clock t.execution (trade_tier tier t)) }

abbrev pub trade_grounds : Opened → ℕ → Trade → List Ground
trade_grounds o clock t =
    closed_ground o clock ∷ size_ground t.price t.quantity ∷ turnover_ground t.price t.quantity ∷ execution_ground o clock t.execution ∷ []

-- in an opened day
abbrev pub judged_in : (Question → Tier) → Opened → ℕ → Trade → Result Publication Refusal
judged_in tier o clock t =
    unless (first_ground (trade_grounds o clock t)) (published tier (unwrap_or (deadlines_for o clock t.execution) o.today) clock t)

abbrev pub if_opened : (Question → Tier) → ℕ → Trade → Result Opened Refusal → Result Publication Refusal
if_opened tier clock t (Ok o) = judged_in tier o clock t
if_opened tier clock t (Err r) = Err r

-- in the clock's day
abbrev pub judged : Meaning → (Question → Tier) → ℕ → Trade → Result Publication Refusal
judged m tier clock t = if_opened tier clock t (opened m (day_of clock))

-- two trades alike but for price and quantity
pub record AlikeButSize (t u : Trade) : Type 0 where
  pub class : t.class ≡ u.class
  pub daily : t.daily ≡ u.daily
  pub execution : t.execution ≡ u.execution
  pub deferrable : t.deferrable ≡ u.deferrable

-- the larger trade is never earlier
abbrev pub LargerNeverEarlier : Meaning → (Question → Tier) → Type 0
LargerNeverEarlier m tier =
    (clock : ℕ) (t u : Trade) (p q : Publication) → AlikeButSize t u → turnover t ≤ turnover u
    → judged m tier clock t ≡ Ok p → judged m tier clock u ≡ Ok q → p.moment ≤ q.moment
