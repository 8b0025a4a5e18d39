-- The tables of Annex II of Regulation (EU) 2017/587.
use Rattle.std.specs.Prelude.{ℕ, ◌*◌, Bool, true, cond, List, [], ◌∷◌, nat_le, nat_lt}
use Rattle.deferral.specs.declared.question.Class.{Class}
use Rattle.deferral.specs.declared.question.Class.TheVariants.{Equity, Etf}
use Rattle.deferral.specs.declared.question.Question.{Question}
use Rattle.deferral.specs.declared.tier.Tier.{Tier}
use Rattle.deferral.specs.declared.tier.Tier.TheVariants.{One, Two, Three, Four}
use Rattle.deferral.specs.Amounts.{Step, highest}

-- which average daily turnovers a row is for, in thousand EUR
pub data Daily : Type 0 where
  over : ℕ → Daily
  at_least : ℕ → Daily
  any : Daily

abbrev pub fits : Daily → ℕ → Bool
fits (over n) daily = nat_lt (n * 1000) daily
fits (at_least n) daily = nat_le (n * 1000) daily
fits any daily = true

pub record Row : Type 0 where
  pub daily : Daily
  pub steps : List Step

-- three amounts in thousand EUR, of which the last opens the top tier
abbrev pub amounts : ℕ → ℕ → ℕ → Tier → List Step
amounts first second third top =
    record { amount = first * 1000; tier = One } ∷ record { amount = second * 1000; tier = Two } ∷ record { amount = third * 1000; tier = top } ∷ []

abbrev pub equities : List Row
equities =
    record { daily = over 100000; steps = amounts 10000 20000 35000 Three }
    ∷ record { daily = over 50000; steps = amounts 7000 15000 25000 Three }
    ∷ record { daily = over 25000; steps = amounts 5000 10000 12000 Three }
    ∷ record { daily = over 5000; steps = amounts 2500 4000 5000 Three }
    ∷ record { daily = over 1000; steps = amounts 450 750 1000 Three }
    ∷ record { daily = over 500; steps = amounts 75 150 225 Three }
    ∷ record { daily = over 100; steps = amounts 30 80 120 Three }
    ∷ record { daily = at_least 50; steps = amounts 15 30 50 Three }
    ∷ record { daily = any; steps = record { amount = 7500; tier = One } ∷ record { amount = 15000; tier = Two } ∷ record { amount = 25000; tier = Four } ∷ [] }
    ∷ []

abbrev pub etfs : List Step
etfs = record { amount = 10000000; tier = One } ∷ record { amount = 50000000; tier = Three } ∷ []

-- the first row that fits decides
abbrev pub row_steps : List Row → ℕ → List Step
row_steps [] daily = []
row_steps (r ∷ rs) daily = cond (fits r.daily daily) r.steps (row_steps rs daily)

abbrev pub steps_for : Class → ℕ → List Step
steps_for Equity daily = row_steps equities daily
steps_for Etf daily = etfs

abbrev pub annex_two : Question → Tier
annex_two q = highest (steps_for q.class q.daily) q.turnover
