-- What a calendar means: a span of days, and the kind and the Irish offset of each day of it.
use Rattle.std.specs.Prelude.{◌≡◌, ℕ, ◌^◌, ◌<◌, ◌≤◌, Bool, true, false, cond, ◌&&◌, ◌⊎◌, Some, None, Option, nat_le}
use Rattle.calendar.specs.declared.day.Day.{Day}
use Rattle.calendar.specs.declared.day.Kind.{Kind}
use Rattle.calendar.specs.declared.day.Kind.TheVariants.{Closed, Half, Full}

pub record Meaning : Type 0 where
  pub first : ℕ
  pub last : ℕ
  pub kind : ℕ → Kind
  pub offset : ℕ → ℕ

-- what every calendar keeps: a day's number fits 32 bits, and Irish time is that of UTC or an hour ahead
pub record Lawful (m : Meaning) : Type 0 where
  pub fits : m.last < 2 ^ 32
  pub hour : (day : ℕ) → m.first ≤ day → day ≤ m.last → (m.offset day ≡ 0) ⊎ (m.offset day ≡ 3600)

-- a day is known from the first day to the last
abbrev pub known : Meaning → ℕ → Bool
known m day = nat_le m.first day && nat_le day m.last

-- what a calendar answers when asked about a day
abbrev pub asked : Meaning → ℕ → Option Day
asked m day = cond (known m day) (Some (record { kind = m.kind day; offset = m.offset day })) None

-- half and full days are trading days
abbrev pub trades : Kind → Bool
trades Closed = false
trades Half = true
trades Full = true

abbrev pub trading : Meaning → ℕ → Bool
trading m day = known m day && trades (m.kind day)
