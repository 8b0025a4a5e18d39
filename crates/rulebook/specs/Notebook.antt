-- The notebook: all that the calls taken so far have left, and what is read off it.
use Rattle.std.specs.Prelude.{ℕ, ◌+◌, Bool, true, false, ◌&&◌, ◌||◌, List, [], ◌∷◌, length, Some, None, filter, Option, ◌==◌, nat_eq, nat_le, nat_lt}
use Rattle.std.specs.List.{list_any, find}
use Rattle.std.specs.Str.{bytes_eq}
use Rattle.identifier.specs.declared.isin.Isin.{Isin}
use Rattle.identifier.specs.declared.member.Member.{Member}
use Rattle.calendar.specs.Meaning.{Meaning}
use Rattle.deferral.specs.declared.opened.Opened.{Opened}
use Rattle.deferral.specs.declared.question.Question.{Question}
use Rattle.deferral.specs.declared.tier.Tier.{Tier}
use Rattle.deferral.specs.Deadlines.{open_at}
use Rattle.report.specs.declared.line.Place.{Place}
use Rattle.report.specs.declared.report.Code.{Code}
use Rattle.report.specs.declared.security.Security.{Security}
use Rattle.report.specs.declared.state.State.{State}
use Rattle.report.specs.declared.state.State.TheVariants.{Waiting, Published, Dropped, Recalled}
use Rattle.rulebook.specs.declared.call.Sizes.{Sizes}
use Rattle.rulebook.specs.declared.record.Record.{Record}
use Rattle.rulebook.specs.Lists.{passes}

-- what a book is run by
pub record Rules : Type 0 where
  pub sizes : Sizes
  pub calendar : Meaning
  pub tier : Question → Tier

pub record Notebook : Type 0 where
  pub clock : ℕ
  -- in the order in which they were first listed
  pub securities : List Security
  -- the days held, the latest opened first
  pub days : List Opened
  -- the trades of the days held, in the order in which they were taken
  pub records : List Record
  -- how many lines were written since the latest day was opened
  pub written : ℕ

-- a new book's: 2000-01-01 00:00:00 UTC, and nothing held
abbrev pub blank : Notebook
blank = record { clock = 946684800; securities = []; days = []; records = []; written = 0 }

-- identifiers are the same byte for byte
abbrev pub same_isin : Isin → Isin → Bool
same_isin a b = bytes_eq a.bytes b.bytes

abbrev pub same_member : Member → Member → Bool
same_member a b = bytes_eq a.bytes b.bytes

abbrev pub same_code : Code → Code → Bool
same_code a b = a.day == b.day && a.serial == b.serial

-- codes go by day, then serial
abbrev pub code_before : Code → Code → Bool
code_before a b = nat_lt a.day b.day || (a.day == b.day && nat_lt a.serial b.serial)

abbrev pub security_of : Notebook → Isin → Option Security
security_of nb isin = find (λ s. same_isin s.isin isin) nb.securities

abbrev pub record_of : Notebook → Code → Option Record
record_of nb code = find (λ t. same_code t.code code) nb.records

-- is the day among these?
abbrev pub among : List Opened → ℕ → Bool
among days day = list_any (λ o. nat_eq o.day day) days

abbrev pub latest : List Opened → Option Opened
latest [] = None
latest (o ∷ os) = Some o

-- 0 where no day was opened
abbrev pub latest_day : List Opened → ℕ
latest_day [] = 0
latest_day (o ∷ os) = o.day

-- the market is open in the latest opened day, from its opening to before its close
abbrev pub open_now : Notebook → Bool
open_now nb = passes (λ o. open_at o nb.clock) (latest nb.days)

abbrev pub of_day : ℕ → Record → Bool
of_day day t = t.code.day == day

-- the next code of the latest opened day: serials count that day's trades from 1
abbrev pub next_code : Notebook → Code
next_code nb =
    record {
      day = latest_day nb.days;
      serial = length (filter (of_day (latest_day nb.days)) nb.records) + 1;
    }

abbrev pub waits : State → Bool
waits Waiting = true
waits Published = false
waits Dropped = false
waits Recalled = false

abbrev pub is_published : State → Bool
is_published Waiting = false
is_published Published = true
is_published Dropped = false
is_published Recalled = false

-- waiting, and its moment has come
abbrev pub is_due : ℕ → Record → Bool
is_due clock t = waits t.state && nat_le t.moment clock

-- of two trades that are due, the one of the earlier moment is published first; at one moment the one of the earlier code
abbrev pub published_before : Record → Record → Bool
published_before t u = nat_lt t.moment u.moment || (t.moment == u.moment && code_before t.code u.code)

abbrev pub no_place : Place
no_place = record { day = 0; number = 0 }
