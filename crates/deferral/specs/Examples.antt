-- Worked examples of the schedules and of publication.
use Rattle.std.specs.Prelude.{◌≡◌, ℕ, ◌+◌, ◌-◌, ◌*◌, ◌<◌, cond, nat_lt}
use Rattle.civil.specs.Dates.{day_number}
use Rattle.civil.specs.declared.month.Month.TheVariants.{May}
use Rattle.calendar.specs.Rule.{by_rule}
use Rattle.calendar.specs.Trading.{clock}
use Rattle.deferral.specs.declared.deadlines.Deadlines.{Deadlines}
use Rattle.deferral.specs.declared.question.Question.{Question}
use Rattle.deferral.specs.declared.question.Class.TheVariants.{Equity}
use Rattle.deferral.specs.declared.tier.Tier.TheVariants.{Zero, One, Two, Three}
use Rattle.deferral.specs.Amounts.{units}
use Rattle.deferral.specs.Annex.{annex_two}
use Rattle.deferral.specs.Deadlines.{deadlines}
use Rattle.deferral.specs.Publication.{tier_moment, publication}
use Rattle.deferral.specs.Tiers.{Alike}

abbrev pub equity : ℕ → ℕ → Question
equity daily turnover = record { class = Equity; daily = daily; turnover = turnover }

-- a moment of 8 or 9 May 2018, by hours, minutes and seconds UTC
abbrev pub on_8_may : ℕ → ℕ → ℕ → ℕ
on_8_may h m s = day_number 2018 May 8 * 86400 + (clock h m + s)

abbrev pub on_9_may : ℕ → ℕ → ℕ → ℕ
on_9_may h m s = day_number 2018 May 9 * 86400 + (clock h m + s)

-- the deadlines of an execution on 8 May 2018
abbrev pub of_8_may : Deadlines
of_8_may = deadlines by_rule (day_number 2018 May 8) (day_number 2018 May 9)

-- tier 3 without the two-hour rule: at the close of the execution day whenever execution is before it
abbrev pub at_the_close : Deadlines → ℕ → ℕ
at_the_close d execution = cond (nat_lt execution d.close) d.close d.next.noon

pub record Examples : Type 0 where
  pub row_of_fifty_thousand : annex_two (equity 50000 (units 15000)) ≡ One
  pub one_unit_below : annex_two (equity 50000 (units 15000 - 1)) ≡ Zero
  pub row_below_fifty_thousand : annex_two (equity 49999 (units 15000)) ≡ Two
  pub two_hours_before_the_close : publication of_8_may (on_8_may 14 14 59) (on_8_may 14 14 59) Three ≡ on_8_may 16 15 0
  pub two_hours_at_the_close : publication of_8_may (on_8_may 14 15 0) (on_8_may 14 15 0) Three ≡ on_9_may 10 55 0
  pub reported_at_ten : (d : Deadlines) → publication d (on_8_may 10 0 0) (on_8_may 9 59 0) One ≡ on_8_may 10 59 0
  pub reported_at_noon : (d : Deadlines) → publication d (on_8_may 12 0 0) (on_8_may 9 59 0) One ≡ on_8_may 12 0 0

-- two trades executed on 8 May 2018 at 15:00 UTC, alike but for their turnover: without the two-hour rule the larger would come first
pub record LargerWouldComeFirst : Type 0 where
  pub smaller : annex_two (equity 80000 (units 30000)) ≡ Two
  pub larger : annex_two (equity 80000 (units 50000)) ≡ Three
  pub alike : Alike (equity 80000 (units 30000)) (equity 80000 (units 50000))
  pub first : at_the_close of_8_may (on_8_may 15 0 0) < tier_moment of_8_may (on_8_may 15 0 0) Two
