-- What publication needs of an execution day, and what opening a day notes.
use Rattle.std.specs.Prelude.{ℕ, ◌/◌, Bool, cond, ◌&&◌, Some, None, Ok, Err, Option, Result, ◌==◌, nat_le, nat_lt}
use Rattle.refusal.specs.declared.Refusal.{Refusal}
use Rattle.refusal.specs.declared.Refusal.TheVariants.{NoTradingDay, NoNeighbour}
use Rattle.calendar.specs.declared.hours.Hours.{Hours}
use Rattle.calendar.specs.Meaning.{Meaning, trading}
use Rattle.calendar.specs.Trading.{opening, noon_point, close, next_trading_day, previous_trading_day}
use Rattle.deferral.specs.declared.deadlines.Deadlines.{Deadlines}
use Rattle.deferral.specs.declared.opened.Opened.{Opened}
use Rattle.deferral.specs.declared.opened.TradingDay.{TradingDay}

-- the day of a moment
abbrev pub day_of : ℕ → ℕ
day_of moment = moment / 86400

abbrev pub hours : Meaning → ℕ → Hours
hours m day = record { opening = opening m day; noon = noon_point m day; close = close m day }

-- a day with its hours
abbrev pub timed : Meaning → ℕ → TradingDay
timed m day = record { number = day; hours = hours m day }

-- the close of an execution day, and the hours of the trading day after it
abbrev pub deadlines : Meaning → ℕ → ℕ → Deadlines
deadlines m day next = record { close = close m day; next = hours m next }

-- a day with its neighbours and their hours: an execution may lie in it or in the trading day before it
abbrev pub noted : ℕ → ℕ → ℕ → Hours → Hours → Hours → Opened
noted day previous next at before after =
    record {
      day = day;
      previous = previous;
      next = next;
      hours = at;
      today = record { close = at.close; next = after };
      before = record { close = before.close; next = at };
    }

abbrev pub opened_with : Meaning → ℕ → ℕ → ℕ → Opened
opened_with m day previous next = noted day previous next (hours m day) (hours m previous) (hours m next)

abbrev pub with_neighbours : Meaning → ℕ → Option ℕ → Option ℕ → Result Opened Refusal
with_neighbours m day None None = Err NoNeighbour
with_neighbours m day None (Some next) = Err NoNeighbour
with_neighbours m day (Some previous) None = Err NoNeighbour
with_neighbours m day (Some previous) (Some next) = Ok (opened_with m day previous next)

-- a day can be opened where it is a known trading day and has both neighbours
abbrev pub opened : Meaning → ℕ → Result Opened Refusal
opened m day = cond (trading m day) (with_neighbours m day (previous_trading_day m day) (next_trading_day m day)) (Err NoTradingDay)

-- the market is open from the opening to before the close
abbrev pub open_at : Opened → ℕ → Bool
open_at o clock = nat_le o.hours.opening clock && nat_lt clock o.hours.close

-- the deadlines of an execution that is not after the clock, in the opened day or in the trading day before it
abbrev pub deadlines_for : Opened → ℕ → ℕ → Option Deadlines
deadlines_for o clock execution =
    cond (nat_le execution clock)
    (cond (day_of execution == o.day) (Some o.today) (cond (day_of execution == o.previous) (Some o.before) None))
    None
