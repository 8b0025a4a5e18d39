use Rattle.std.proofs.Common.{◌≡◌, ℕ, ◌-◌, Option}
use Rattle.calendar.specs.Steps.{Gives}
use Rattle.calendar.specs.Trading.{nearest, days_by}
use Rattle.calendar.proofs.neighbour.neighbour.Given as goal

-- what is left to try answers for all
abbrev pub invariant-loop-tried : goal.invariant-loop-tried
invariant-loop-tried g l =
    (step : ℕ → Option ℕ) → Gives (goal.B-post g l.beside) step
    → nearest (g.C.Calendar.meaning l.calendar) (days_by step l.reach l.day)
    ≡ nearest (g.C.Calendar.meaning l.calendar) (days_by step (l.reach - l._tried) l.at)
