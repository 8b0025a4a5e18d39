-- Histories of calls, each with whether it was refused, and what they leave.
use Rattle.std.specs.Prelude.{◌≡◌, Bool, true, false, cond, List, [], ◌∷◌, ◌++◌, is_some}
use Rattle.report.specs.declared.line.Line.{Line}
use Rattle.rulebook.specs.declared.call.Call.{Call}
use Rattle.rulebook.specs.Notebook.{Rules, Notebook}
use Rattle.rulebook.specs.Desk.{Desk, new_desk, taken, carries}
use Rattle.rulebook.specs.Grounds.{ground}

pub record Entry : Type 0 where
  pub call : Call
  pub refused : Bool

abbrev pub History : Type 0
History = List Entry

abbrev pub taking : Call → Entry
taking call = record { call = call; refused = false }

abbrev pub refusing : Call → Entry
refusing call = record { call = call; refused = true }

-- a refused call changes nothing
abbrev pub step : Rules → Desk → Entry → Desk
step rules d e = cond e.refused d (taken rules d e.call)

-- the desk after a history
abbrev pub fed : Rules → Desk → History → Desk
fed rules d [] = d
fed rules d (e ∷ es) = fed rules (step rules d e) es

abbrev pub desk_after : Rules → History → Desk
desk_after rules h = fed rules new_desk h

abbrev pub notebook_after : Rules → History → Notebook
notebook_after rules h = (desk_after rules h).notebook

-- every call was refused exactly where a ground is there
abbrev pub Rightly : Rules → Desk → History → Type 0
Rightly rules d [] = Unit {0}
Rightly rules d (e ∷ es) = (e.refused ≡ is_some (ground rules d e.call)) × Rightly rules (step rules d e) es

abbrev pub Lawful : Rules → History → Type 0
Lawful rules h = Rightly rules new_desk h

-- the lines carried away
abbrev pub carried : Desk → Entry → List Line
carried d e = cond e.refused [] (carries e.call d.standing)

abbrev pub carried_from : Rules → Desk → History → List Line
carried_from rules d [] = []
carried_from rules d (e ∷ es) = carried d e ++ carried_from rules (step rules d e) es

-- the tape: all lines carried away, then those that stand
abbrev pub tape_from : Rules → Desk → History → List Line
tape_from rules d h = carried_from rules d h ++ (fed rules d h).standing

abbrev pub tape : Rules → History → List Line
tape rules h = tape_from rules new_desk h
