-- The grounds of each call, in their order.
use Rattle.std.specs.Prelude.{ℕ, ◌+◌, Bool, not, ◌&&◌, List, [], ◌∷◌, ◌++◌, length, is_some, Option, ◌==◌, nat_le, nat_lt}
use Rattle.refusal.specs.declared.Refusal.{Refusal}
use Rattle.refusal.specs.declared.Refusal.TheVariants.{BeforeTheClock, AfterTheLastDay, TapeTooShort, NoPlaceForSecurity, NoTradingDay, NoNeighbour, OpenedTooEarly, MarketClosed, NotListed, NoFreeRecord, TapeFull, NoSuchTrade, ExecutionDiffers, BufferTooShort, DayNotHeld}
use Rattle.refusal.specs.Grounds.{Ground, first_ground}
use Rattle.identifier.specs.declared.isin.Isin.{Isin}
use Rattle.identifier.specs.declared.member.Member.{Member}
use Rattle.calendar.specs.Meaning.{Meaning, trading}
use Rattle.calendar.specs.Trading.{next_trading_day, previous_trading_day}
use Rattle.deferral.specs.Deadlines.{day_of}
use Rattle.deferral.specs.Judged.{execution_ground}
use Rattle.report.specs.declared.report.Code.{Code}
use Rattle.report.specs.declared.report.Report.{Report}
use Rattle.report.specs.declared.security.Security.{Security}
use Rattle.report.specs.Judged.{early_grounds, late_grounds}
use Rattle.report.specs.Listed.{listing_grounds}
use Rattle.report.specs.States.{survives}
use Rattle.rulebook.specs.declared.call.Call.{Call}
use Rattle.rulebook.specs.declared.call.Call.TheVariants.{List as Listing, Advance, Open, Enter, Amend, Cancel, CarryAway, Figures}
use Rattle.rulebook.specs.declared.record.Record.{Record}
use Rattle.rulebook.specs.Lists.{where_some, passes}
use Rattle.rulebook.specs.Notebook.{Rules, Notebook, same_member, security_of, record_of, among, latest, open_now}
use Rattle.rulebook.specs.Taken.{lines_of}
use Rattle.rulebook.specs.Desk.{Desk}

-- a call needs a free tape line for each line that it would write
abbrev pub lacks_lines : Rules → Desk → Call → Bool
lacks_lines rules d call = nat_lt rules.sizes.lines (length d.standing + length (lines_of rules d.notebook call))

abbrev pub tape_full : Rules → Desk → Call → Ground
tape_full rules d call = record { there = lacks_lines rules d call; refusal = TapeFull }

abbrev pub no_free_record : Rules → Notebook → Ground
no_free_record rules nb = record { there = nat_le rules.sizes.records (length nb.records); refusal = NoFreeRecord }

abbrev pub market_closed : Notebook → Ground
market_closed nb = record { there = not (open_now nb); refusal = MarketClosed }

abbrev pub not_listed : Notebook → Isin → Ground
not_listed nb isin = record { there = not (is_some (security_of nb isin)); refusal = NotListed }

-- a trade that is held, survives, and is that member's
abbrev pub is_of : Member → Record → Bool
is_of member t = survives t.state && same_member t.report.member member

abbrev pub no_such_trade : Notebook → Member → Code → Ground
no_such_trade nb member code = record { there = not (passes (is_of member) (record_of nb code)); refusal = NoSuchTrade }

abbrev pub list_grounds : Rules → Notebook → Security → List Ground
list_grounds rules nb s =
    listing_grounds s
    ++ record {
      there = not (is_some (security_of nb s.isin)) && nat_le rules.sizes.securities (length nb.securities);
      refusal = NoPlaceForSecurity;
    } ∷ []

-- 2200-01-01 00:00:00 UTC is too late
abbrev pub advance_grounds : Rules → Desk → ℕ → List Ground
advance_grounds rules d moment =
    record { there = nat_lt moment d.notebook.clock; refusal = BeforeTheClock }
    ∷ record { there = nat_le 7258118400 moment; refusal = AfterTheLastDay }
    ∷ record { there = lacks_lines rules d (Advance moment); refusal = TapeTooShort } ∷ []

-- the next trading day noted at the last opening is the first that can be opened
abbrev pub too_early : Notebook → ℕ → Bool
too_early nb day = passes (λ o. nat_lt day o.next) (latest nb.days)

abbrev pub open_grounds : Meaning → Notebook → ℕ → List Ground
open_grounds m nb day =
    record { there = not (trading m day); refusal = NoTradingDay }
    ∷ record { there = not (is_some (previous_trading_day m day) && is_some (next_trading_day m day)); refusal = NoNeighbour }
    ∷ record { there = too_early nb day; refusal = OpenedTooEarly } ∷ []

-- the grounds of an entry; those that need a day or a security come where there is one
abbrev pub enter_grounds : Rules → Desk → Report → List Ground
enter_grounds rules d r =
    market_closed d.notebook ∷ not_listed d.notebook r.isin
    ∷ where_some (latest d.notebook.days) (λ o.
    where_some (security_of d.notebook r.isin) (λ s.
    early_grounds r s
    ++ execution_ground o d.notebook.clock r.execution
    ∷ late_grounds r s ++ no_free_record rules d.notebook ∷ tape_full rules d (Enter r) ∷ []))

-- an amendment is judged likewise, but for its execution moment, which is that of the trade
abbrev pub execution_differs : Report → Record → Ground
execution_differs r t = record { there = not (r.execution == t.report.execution); refusal = ExecutionDiffers }

abbrev pub amend_grounds : Rules → Desk → Code → Report → List Ground
amend_grounds rules d code r =
    market_closed d.notebook ∷ no_such_trade d.notebook r.member code
    ∷ where_some (record_of d.notebook code) (λ t.
    execution_differs r t ∷ not_listed d.notebook r.isin
    ∷ where_some (security_of d.notebook r.isin) (λ s.
    early_grounds r s ++ late_grounds r s ++ no_free_record rules d.notebook ∷ tape_full rules d (Amend code r) ∷ []))

abbrev pub cancel_grounds : Rules → Desk → Member → Code → List Ground
cancel_grounds rules d member code =
    market_closed d.notebook ∷ no_such_trade d.notebook member code ∷ tape_full rules d (Cancel member code) ∷ []

-- the buffer is too short for the lines that stand
abbrev pub carry_grounds : Desk → ℕ → List Ground
carry_grounds d room = record { there = nat_lt room (length d.standing); refusal = BufferTooShort } ∷ []

abbrev pub figures_grounds : Notebook → Isin → ℕ → List Ground
figures_grounds nb isin day =
    not_listed nb isin ∷ record { there = not (among nb.days day); refusal = DayNotHeld } ∷ []

abbrev pub grounds : Rules → Desk → Call → List Ground
grounds rules d (Listing s) = list_grounds rules d.notebook s
grounds rules d (Advance moment) = advance_grounds rules d moment
grounds rules d Open = open_grounds rules.calendar d.notebook (day_of d.notebook.clock)
grounds rules d (Enter r) = enter_grounds rules d r
grounds rules d (Amend code r) = amend_grounds rules d code r
grounds rules d (Cancel member code) = cancel_grounds rules d member code
grounds rules d (CarryAway room) = carry_grounds d room
grounds rules d (Figures isin day sheet) = figures_grounds d.notebook isin day

-- the first ground against a call
abbrev pub ground : Rules → Desk → Call → Option Refusal
ground rules d call = first_ground (grounds rules d call)
