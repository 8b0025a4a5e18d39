-- The calendar that a list of trading days gives.
use Rattle.std.specs.Prelude.{ℕ, ◌+◌, Bool, true, cond, ◌&&◌, ◌||◌, List, [], ◌∷◌, Ok, Err, Result, ◌==◌, nat_le}
use Rattle.refusal.specs.declared.Refusal.{Refusal}
use Rattle.refusal.specs.declared.Refusal.TheVariants.{WrongCalendar}
use Rattle.calendar.specs.declared.day.Day.{Day}
use Rattle.calendar.specs.declared.day.ListedDay.{ListedDay}
use Rattle.calendar.specs.declared.day.Kind.TheVariants.{Closed}
use Rattle.calendar.specs.Meaning.{Meaning, trades}
use Rattle.calendar.specs.Rule.{by_rule}

-- a listed day trades, and Irish time is that of UTC or an hour ahead
abbrev pub allowed : ListedDay → Bool
allowed x = trades x.kind && (x.offset == 0 || x.offset == 3600)

-- may the day stand in a list of days from the first to the last?
abbrev pub may_stand : ℕ → ℕ → ListedDay → Bool
may_stand first last x = (nat_le first x.day && nat_le x.day last) && allowed x

-- the days rise strictly from the first to the last, and each is allowed
abbrev pub rise_within : ℕ → ℕ → List ListedDay → Bool
rise_within first last [] = true
rise_within first last (x ∷ xs) = may_stand first last x && rise_within (x.day + 1) last xs

-- the span is not empty and lies within the rule calendar's
abbrev pub span_fits : ℕ → ℕ → Bool
span_fits first last = nat_le first last && (nat_le by_rule.first first && nat_le last by_rule.last)

-- can a calendar be made of the list?
abbrev pub well_listed : ℕ → ℕ → List ListedDay → Bool
well_listed first last xs = span_fits first last && rise_within first last xs

-- what reading a list answers
abbrev pub reading : ℕ → ℕ → List ListedDay → Result (Unit {0}) Refusal
reading first last xs = cond (well_listed first last xs) (Ok tt) (Err WrongCalendar)

-- what a listed day says of its day
abbrev pub as_listed : ListedDay → Day
as_listed x = record { kind = x.kind; offset = x.offset }

-- a day that is not listed is closed
abbrev pub listed_day : List ListedDay → ℕ → Day
listed_day [] day = record { kind = Closed; offset = 0 }
listed_day (x ∷ xs) day = cond (x.day == day) (as_listed x) (listed_day xs day)

abbrev pub by_list : ℕ → ℕ → List ListedDay → Meaning
by_list first last xs = record { first = first; last = last; kind = λ day. (listed_day xs day).kind; offset = λ day. (listed_day xs day).offset }

-- the calendar that can be made of a list, or why none can be
abbrev pub listing : ℕ → ℕ → List ListedDay → Result Meaning Refusal
listing first last xs = cond (well_listed first last xs) (Ok (by_list first last xs)) (Err WrongCalendar)
