-- Facts of the calendar by rule at a day whose date is given: a day is too large a number to count its date out.
use Rattle.std.proofs.Common.{◌≡◌, ℕ, ◌≤◌, Bool, true, cond, ◌&&◌, List, ◌∷◌, Some, None, Option, ap, ◌∙◌}
use Rattle.civil.proofs.Counting.{date_of_number}
use Rattle.civil.specs.Dates.{day_number, month_length, date_of}
use Rattle.civil.specs.declared.date.Date.{Date}
use Rattle.civil.specs.declared.month.Month.{Month}
use Rattle.calendar.specs.declared.day.Kind.{Kind}
use Rattle.calendar.specs.Meaning.{Meaning, known, trades}
use Rattle.calendar.specs.Trading.{nearest}

-- a known day is found where it trades, and else passed over
pub met : (m : Meaning) (day : ℕ) (days : List ℕ) (x : Kind) → known m day ≡ true → m.kind day ≡ x → nearest m (day ∷ days) ≡ cond (trades x) (Some day) (nearest m days)
met m day days x k e =
    ap (λ (b : Bool). cond {A = Option ℕ} b (cond (b && trades (m.kind day)) (Some day) (nearest m days)) None) k
    ∙ ap (λ (y : Kind). cond {A = Option ℕ} (trades y) (Some day) (nearest m days)) e

pub on_date : {X : Type 0} (f : ℕ → Date → X) (y d : ℕ) (m : Month) (x : X) → 1970 ≤ y → 1 ≤ d → d ≤ month_length y m
    → f (day_number y m d) (record { year = y; month = m; day = d }) ≡ x → f (day_number y m d) (date_of (day_number y m d)) ≡ x
on_date f y d m x late low high e = ap (f (day_number y m d)) (date_of_number y d m late low high) ∙ e
