-- A held day: its codes, and where their trades stand.
use Rattle.std.specs.Prelude.{ℕ, ◌+◌, ◌-◌, ◌^◌, min, Bool, false, cond, ◌||◌, Some, None, Option, ◌==◌, nat_lt}
use Rattle.deferral.specs.declared.opened.Opened.{Opened}
use Rattle.report.specs.declared.report.Code.{Code}
use Rattle.ledger.specs.declared.held_day.HeldDay.{HeldDay}

abbrev pub is_day : ℕ → HeldDay → Bool
is_day day h = h.opened.day == day

-- it is that day which stands in the place
abbrev pub holds : ℕ → Option HeldDay → Bool
holds day None = false
holds day (Some h) = is_day day h

-- the trades of a day stand in the order of their serials, from where the day begins
abbrev pub place_in : ℕ → HeldDay → Option ℕ
place_in serial h = cond (nat_lt serial 1 || nat_lt h.taken serial) None (Some (min (h.first + (serial - 1)) (2 ^ 64 - 1)))

-- the code of a serial
abbrev pub code_in : HeldDay → ℕ → Code
code_in h serial = record { day = h.opened.day; serial = serial }

-- a day gives out serials that have room in 32 bits
abbrev pub has_next : HeldDay → Bool
has_next h = nat_lt h.taken (2 ^ 32 - 1)

abbrev pub with_next : HeldDay → HeldDay
with_next h = record { opened = h.opened; first = h.first; taken = h.taken + 1 }

-- a day of which no trade was taken yet, behind so many records
abbrev pub new_day : Opened → ℕ → HeldDay
new_day o count = record { opened = o; first = count; taken = 0 }

-- a day where so many records in front of it go
abbrev pub lowered : ℕ → HeldDay → HeldDay
lowered gone h = record { opened = h.opened; first = h.first - gone; taken = h.taken }
