use Rattle.std.proofs.Common.{◌≡◌, ℕ, ◌+◌, ◌-◌, ◌≤◌, Bool}
use Rattle.calendar.specs.declared.day.Kind.{Kind}
use Rattle.almanac.specs.Tallies.{count, is_full, is_half}
use Rattle.almanac.proofs.tally.tally_of.Given as goal

-- what is counted, with what is left to count, is all
abbrev pub invariant-loop-after : goal.invariant-loop-after
invariant-loop-after g l =
    let left : (Kind → Bool) → ℕ = λ f. count f (g.C.Calendar.meaning l.calendar) (l.first + l.after) (l.days - l.after) in
    let all : (Kind → Bool) → ℕ = λ f. count f (g.C.Calendar.meaning l.calendar) l.first l.days in
    (all is_full ≡ l.tally.full + left is_full) × (all is_half ≡ l.tally.half + left is_half) × (l.tally.full ≤ l.after) × (l.tally.half ≤ l.after)
