-- How many days of a stretch trade.
use Rattle.std.specs.Prelude.{ℕ, zero, suc, ◌+◌, Bool, true, false, cond, ◌&&◌}
use Rattle.calendar.specs.declared.day.Kind.{Kind}
use Rattle.calendar.specs.declared.day.Kind.TheVariants.{Closed, Half, Full}
use Rattle.calendar.specs.Meaning.{Meaning, known}
use Rattle.almanac.specs.declared.tally.Tally.{Tally}

abbrev pub is_full : Kind → Bool
is_full Closed = false
is_full Half = false
is_full Full = true

abbrev pub is_half : Kind → Bool
is_half Closed = false
is_half Half = true
is_half Full = false

-- how many of the n days from a day on are known and of a kind
abbrev pub count : (Kind → Bool) → Meaning → ℕ → ℕ → ℕ
count f m day zero = 0
count f m day (suc n) = cond (known m day && f (m.kind day)) 1 0 + count f m (day + 1) n

abbrev pub tallied : Meaning → ℕ → ℕ → Tally
tallied m day n = record { full = count is_full m day n; half = count is_half m day n }
