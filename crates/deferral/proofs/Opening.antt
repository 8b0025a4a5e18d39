-- What opening a day finds.
use Rattle.std.proofs.Common.{◌≡◌, ℕ, ◌^◌, ◌≤◌, Bool, true, false, cond, leb, Some, None, Ok, Err, Option, Result, refl, subst, arith}
use Rattle.std.proofs.lemmas.Bool.{lt-leb}
use Rattle.std.proofs.lemmas.Bool.Decides.{nat_tests}
use Rattle.refusal.specs.declared.Refusal.{Refusal}
use Rattle.refusal.specs.declared.Refusal.TheVariants.{NoTradingDay, NoNeighbour}
use Rattle.std.specs.Option.{option_map}
use Rattle.calendar.specs.Meaning.{Meaning, Lawful, trading}
use Rattle.calendar.specs.Trading.{next_trading_day, previous_trading_day, NextWithin, PreviousWithin, Answers}
use Rattle.calendar.proofs.Nearest.{next_nearest, previous_nearest}
use Rattle.deferral.specs.declared.opened.Opened.{Opened}
use Rattle.deferral.specs.declared.opened.TradingDay.{TradingDay}
use Rattle.deferral.specs.Deadlines.{timed, noted, with_neighbours, opened}

-- a neighbour is the nearest trading day
pub next_found : (m : Meaning) (day d : ℕ) → next_trading_day m day ≡ Some d → NextWithin m 14 day d
next_found m day d e = subst (λ (r : Option ℕ). Answers (NextWithin m 14 day) r) e (next_nearest m 14 day)

pub previous_found : (m : Meaning) (day d : ℕ) → previous_trading_day m day ≡ Some d → PreviousWithin m 14 day d
previous_found m day d e = subst (λ (r : Option ℕ). Answers (PreviousWithin m 14 day) r) e (previous_nearest m 14 day)

-- what opening finds of the day and of its neighbours
abbrev pub found : Option TradingDay → Option TradingDay → Option TradingDay → Result Opened Refusal
found None before after = Err NoTradingDay
found (Some day) None after = Err NoNeighbour
found (Some day) (Some before) None = Err NoNeighbour
found (Some day) (Some before) (Some after) = Ok (noted day.number before.number after.number day.hours before.hours after.hours)

found_by : (m : Meaning) (day : ℕ) (t : Bool) (p n : Option ℕ)
    → found (cond t (Some (timed m day)) None) (option_map (timed m) p) (option_map (timed m) n) ≡ cond t (with_neighbours m day p n) (Err NoTradingDay)
found_by m day false p n = refl
found_by m day true None None = refl
found_by m day true None (Some n) = refl
found_by m day true (Some p) None = refl
found_by m day true (Some p) (Some n) = refl

pub found_is : (m : Meaning) (day : ℕ) {x y z : Option TradingDay} → x ≡ cond (trading m day) (Some (timed m day)) None
    → y ≡ option_map (timed m) (previous_trading_day m day) → z ≡ option_map (timed m) (next_trading_day m day) → found x y z ≡ opened m day
found_is m day {y = y} {z = z} e f g = rw (e, f, g) (found_by m day (trading m day) (previous_trading_day m day) (next_trading_day m day))

-- a day that 32 bits do not name is no known trading day
pub not_opened : (m : Meaning) (day : ℕ) → Lawful m → 2 ^ 32 ≤ day → Err NoTradingDay ≡ opened m day
not_opened m day law far =
    let late : leb day m.last ≡ false = lt-leb day m.last (omega (arith, law.fits)) in
    grind (arith, nat_tests)
