-- What every desk keeps, whichever calendars and schedules its calls were lent.
use Rattle.std.specs.Prelude.{◌≡◌, ℕ, ◌+◌, ◌*◌, ◌<◌, ◌≤◌, true, false, List, [], ◌∷◌, length, is_some, None, sum_by}
use Rattle.std.specs.List.{AllByRecursion}
use Rattle.calendar.specs.Meaning.{Lawful as Kept}
use Rattle.deferral.specs.declared.deadlines.Deadlines.{Deadlines}
use Rattle.deferral.specs.declared.opened.Opened.{Opened}
use Rattle.report.specs.declared.state.State.{State}
use Rattle.report.specs.declared.state.State.TheVariants.{Waiting, Published, Dropped, Recalled}
use Rattle.rulebook.specs.declared.call.Call.{Call}
use Rattle.rulebook.specs.declared.call.Sizes.{Sizes}
use Rattle.rulebook.specs.declared.record.Record.{Record}
use Rattle.rulebook.specs.Notebook.{Rules, same_code, security_of, among, is_due}
use Rattle.rulebook.specs.Desk.{Desk, new_desk, taken}
use Rattle.rulebook.specs.Grounds.{ground}

-- the first moment after a day
abbrev pub end_of : ℕ → ℕ
end_of day = (day + 1) * 86400

-- deadlines that lie in a day or before it
pub record Within (day : ℕ) (d : Deadlines) : Type 0 where
  pub close : d.close ≤ end_of day
  pub noon : d.next.noon ≤ end_of day
  pub next : d.next.close ≤ end_of day

-- what is known of an opened day, whichever calendar it came from
pub record Proper (o : Opened) : Type 0 where
  pub later : o.day < o.next
  pub closes : o.hours.close ≤ end_of o.day
  pub today : Within o.next o.today
  pub before : Within o.day o.before

-- each day is no earlier than the next trading day noted at the opening before it
abbrev pub Spaced : List Opened → Type 0
Spaced [] = Unit {0}
Spaced (o ∷ []) = Unit {0}
Spaced (o ∷ p ∷ os) = (p.next ≤ o.day) × Spaced (p ∷ os)

-- a trade is out by the end of the trading day after its own, and so are its deadlines
pub record InTime (o : Opened) (t : Record) : Type 0 where
  pub deadlines : Within o.next t.deadlines
  pub moment : t.moment ≤ end_of o.next

abbrev pub Timed : List Opened → Record → Type 0
Timed days t = AllByRecursion (λ o. o.day ≡ t.code.day → InTime o t) days

-- no two trades have one code
abbrev pub Different : List Record → Type 0
Different [] = Unit {0}
Different (t ∷ ts) = AllByRecursion (λ u. same_code t.code u.code ≡ false) ts × Different ts

-- how many lines have told of a trade
abbrev pub told_of : State → ℕ
told_of Waiting = 0
told_of Published = 1
told_of Dropped = 0
told_of Recalled = 2

pub record Sound (sizes : Sizes) (d : Desk) : Type 0 where
  -- days
  pub proper : AllByRecursion Proper d.notebook.days
  pub spaced : Spaced d.notebook.days
  pub three : length d.notebook.days ≤ 3
  -- trades
  pub held : AllByRecursion (λ t. among d.notebook.days t.code.day ≡ true) d.notebook.records
  pub timed : AllByRecursion (Timed d.notebook.days) d.notebook.records
  -- none was executed after the clock
  pub executed : AllByRecursion (λ t. t.report.execution ≤ d.notebook.clock) d.notebook.records
  pub undue : AllByRecursion (λ t. is_due d.notebook.clock t ≡ false) d.notebook.records
  pub listed : AllByRecursion (λ t. is_some (security_of d.notebook t.report.isin) ≡ true) d.notebook.records
  pub sized : AllByRecursion (λ t. t.report.price * t.report.quantity ≤ 1000000000000000) d.notebook.records
  -- numbers
  pub told : d.notebook.written ≤ sum_by (λ t. told_of t.state) d.notebook.records
  pub records : length d.notebook.records ≤ sizes.records
  pub securities : length d.notebook.securities ≤ sizes.securities
  pub lines : length d.standing ≤ sizes.lines
  pub clock : d.notebook.clock < 7258118400

-- a new desk is sound, and every call that is taken keeps a desk sound, whichever calendar and schedule it is lent
abbrev pub SoundAlways : Type 0
SoundAlways =
    ((sizes : Sizes) → Sound sizes new_desk)
    × ((rules : Rules) (d : Desk) (call : Call) → Kept rules.calendar → Sound rules.sizes d → ground rules d call ≡ None
    → Sound rules.sizes (taken rules d call))
