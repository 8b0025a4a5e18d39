-- The held days as a list, the latest first, and where a code's trade stands.
use Rattle.std.specs.Prelude.{ℕ, ◌+◌, ◌-◌, cond, List, [], ◌∷◌, map, flat_map, position, Some, None, Option, ◌==◌}
use Rattle.std.specs.List.{find}
use Rattle.std.specs.Option.{option_to_list}
use Rattle.deferral.specs.declared.opened.Opened.{Opened}
use Rattle.report.specs.declared.report.Code.{Code}
use Rattle.rulebook.specs.Lists.{and_then}
use Rattle.ledger.specs.declared.days.Days.{Days}
use Rattle.ledger.specs.declared.held_day.HeldDay.{HeldDay}
use Rattle.ledger.specs.HeldDay.{is_day, place_in, code_in, has_next, with_next, new_day, lowered}

abbrev pub held_days : Days → List HeldDay
held_days d = flat_map option_to_list d.held

-- as they were opened
abbrev pub days_of : Days → List Opened
days_of d = map (λ h. h.opened) (held_days d)

abbrev pub newest : List HeldDay → Option HeldDay
newest [] = None
newest (h ∷ hs) = Some h

abbrev pub oldest : List HeldDay → Option HeldDay
oldest [] = None
oldest (h ∷ []) = Some h
oldest (h ∷ g ∷ hs) = oldest (g ∷ hs)

-- the place of a day, the latest being at 0
abbrev pub slot_of : ℕ → List Opened → Option ℕ
slot_of day os = position (λ o. o.day == day) os

-- of days of which the latest is first
abbrev pub index_in : List HeldDay → Code → Option ℕ
index_in hs code = and_then (find (is_day code.day) hs) (place_in code.serial)

abbrev pub index_of : Days → Code → Option ℕ
index_of d code = index_in (held_days d) code

-- the next code of the latest day
abbrev pub next_in : List HeldDay → Option Code
next_in [] = None
next_in (h ∷ hs) = cond (has_next h) (Some (code_in h (h.taken + 1))) None

-- the days after it is given out
abbrev pub counted : List HeldDay → List HeldDay
counted [] = []
counted (h ∷ hs) = cond (has_next h) (with_next h) h ∷ hs

-- of four days the oldest goes with its trades: so many records
abbrev pub falls_out : List HeldDay → ℕ
falls_out [] = 0
falls_out (a ∷ []) = 0
falls_out (a ∷ b ∷ []) = 0
falls_out (a ∷ b ∷ c ∷ hs) = c.taken

-- the days after one more is opened behind so many records
abbrev pub with_opened : Opened → ℕ → List HeldDay → List HeldDay
with_opened o count [] = new_day o count ∷ []
with_opened o count (a ∷ []) = new_day o count ∷ a ∷ []
with_opened o count (a ∷ b ∷ []) = new_day o count ∷ a ∷ b ∷ []
with_opened o count (a ∷ b ∷ c ∷ hs) =
    new_day o (count - c.taken) ∷ lowered c.taken a ∷ lowered c.taken b ∷ []
