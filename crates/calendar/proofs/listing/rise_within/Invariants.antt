use Rattle.std.proofs.Common.{◌≡◌, drop}
use Rattle.calendar.specs.Listed.{rise_within}
use Rattle.calendar.proofs.listing.rise_within.Given as goal

-- the days that are left answer for all
abbrev pub invariant-loop-listed : goal.invariant-loop-listed
invariant-loop-listed l = rise_within l.first l.last l.days ≡ rise_within l.from l.last (drop l.listed-index l.days)
