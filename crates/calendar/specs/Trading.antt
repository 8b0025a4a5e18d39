-- The neighbours and the hours of a trading day.
use Rattle.std.specs.Prelude.{◌≡◌, ℕ, zero, suc, ◌+◌, ◌-◌, ◌*◌, ◌<◌, ◌≤◌, true, false, cond, List, [], ◌∷◌, Some, None, Option}
use Rattle.calendar.specs.declared.day.Kind.{Kind}
use Rattle.calendar.specs.declared.day.Kind.TheVariants.{Closed, Half, Full}
use Rattle.calendar.specs.declared.hours.Hours.{Hours}
use Rattle.calendar.specs.Meaning.{Meaning, known, trading}

-- the first of these days that is a trading day, all days before it being known
abbrev pub nearest : Meaning → List ℕ → Option ℕ
nearest m [] = None
nearest m (day ∷ days) = cond (known m day) (cond (trading m day) (Some day) (nearest m days)) None

-- the n days after a day
abbrev pub days_after : ℕ → ℕ → List ℕ
days_after zero day = []
days_after (suc n) day = (day + 1) ∷ days_after n (day + 1)

-- the n days before a day, the latest first; there is none before day 0
abbrev pub days_until : ℕ → ℕ → List ℕ
days_until zero day = []
days_until (suc n) zero = []
days_until (suc n) (suc day) = day ∷ days_until n day

-- the day that a step reached, if it reached one, and those that follow it
abbrev pub then_from : (ℕ → List ℕ) → Option ℕ → List ℕ
then_from days None = []
then_from days (Some day) = day ∷ days day

-- the days that n steps reach from a day on; they end where a step reaches none
abbrev pub days_by : (ℕ → Option ℕ) → ℕ → ℕ → List ℕ
days_by step zero day = []
days_by step (suc n) day = then_from (days_by step n) (step day)

-- a neighbour is looked for among fourteen days
abbrev pub next_trading_day : Meaning → ℕ → Option ℕ
next_trading_day m day = nearest m (days_after 14 day)

abbrev pub previous_trading_day : Meaning → ℕ → Option ℕ
previous_trading_day m day = nearest m (days_until 14 day)

-- r is the nearest trading day after a day, at most n days away: every day between them is known and closed
pub record NextWithin (m : Meaning) (n day r : ℕ) : Type 0 where
  pub after : day < r
  pub near : r ≤ day + n
  pub trades : trading m r ≡ true
  pub between : (d : ℕ) → day < d → d < r → (known m d ≡ true) × (trading m d ≡ false)

-- and before a day
pub record PreviousWithin (m : Meaning) (n day r : ℕ) : Type 0 where
  pub before : r < day
  pub near : day ≤ r + n
  pub trades : trading m r ≡ true
  pub between : (d : ℕ) → r < d → d < day → (known m d ≡ true) × (trading m d ≡ false)

-- the answer is a day with the property, or there is none
abbrev pub Answers : (ℕ → Type 0) → Option ℕ → Type 0
Answers P None = (d : ℕ) → P d → ⊥
Answers P (Some r) = P r

-- the moment at which Irish clocks show so many seconds after midnight
abbrev pub irish : Meaning → ℕ → ℕ → ℕ
irish m day time = day * 86400 + time - m.offset day

abbrev pub clock : ℕ → ℕ → ℕ
clock hours minutes = hours * 3600 + minutes * 60

abbrev pub opening : Meaning → ℕ → ℕ
opening m day = irish m day (clock 6 30)

abbrev pub noon_point : Meaning → ℕ → ℕ
noon_point m day = irish m day (clock 11 55)

-- a closed day has no close, and is given a full day's here
abbrev pub closing_time : Kind → ℕ
closing_time Closed = clock 17 15
closing_time Half = clock 13 15
closing_time Full = clock 17 15

abbrev pub close : Meaning → ℕ → ℕ
close m day = irish m day (closing_time (m.kind day))

-- the hours of a day on which the market trades
abbrev pub hours_of : Meaning → ℕ → Option Hours
hours_of m day = cond (trading m day) (Some (record { opening = opening m day; noon = noon_point m day; close = close m day })) None
