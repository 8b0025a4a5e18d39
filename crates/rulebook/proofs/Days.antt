-- What the calendar says of the days that are opened, and of the trading days after them.
use Rattle.std.proofs.Common.{◌≡◌, ℕ, ◌<◌, ◌≤◌, true, Some, None, Ok, Option, refl, ap, subst, inl, inr, arith}
use Rattle.std.proofs.lemmas.Bool.{both_ways, cases_order}
use Rattle.calendar.specs.Meaning.{Meaning, Lawful as Kept, trading}
use Rattle.calendar.specs.Trading.{close, next_trading_day, previous_trading_day, NextWithin, Answers}
use Rattle.calendar.proofs.Nearest.{next_nearest}
use Rattle.deferral.specs.declared.opened.Opened.{Opened}
use Rattle.deferral.specs.Deadlines.{deadlines, opened}
use Rattle.deferral.proofs.Later.{facts}
use Rattle.deferral.proofs.Opening.{next_found, previous_found}
use Rattle.deferral.proofs.Timely.{closes, hour}

-- there is one nearest trading day after a day
nearest_is_one : (m : Meaning) (day r q : ℕ) → NextWithin m 14 day r → NextWithin m 14 day q → r ≡ q
nearest_is_one m day r q a b =
    elim (cases_order r q) [
      | inl same ↦ same
      | inr (inl less) ↦ absurd (both_ways _ (b.between r a.after less).1 a.trades)
      | inr (inr more) ↦ absurd (both_ways _ (a.between q b.after more).1 b.trades)
    ]

pub next_is_nearest : (m : Meaning) (day r : ℕ) → NextWithin m 14 day r → next_trading_day m day ≡ Some r
next_is_nearest m day r w = by_answer (next_trading_day m day) (next_nearest m 14 day)
  where
    by_answer : (x : Option ℕ) → Answers (NextWithin m 14 day) x → x ≡ Some r
    by_answer None a = absurd (a r w)
    by_answer (Some q) a = ap Some (nearest_is_one m day q r a w)

-- the trading day after the one before a trading day is that day
pub next_of_previous : (m : Meaning) (day p : ℕ) → trading m day ≡ true → previous_trading_day m day ≡ Some p → next_trading_day m p ≡ Some day
next_of_previous m day p t e =
    let w = previous_found m day p e in
    next_is_nearest m p day (record { after = w.before; near = w.near; trades = t; between = w.between })

-- later days have later neighbours
pub nexts_rise : (m : Meaning) (a b p q : ℕ) → trading m b ≡ true → next_trading_day m a ≡ Some p → next_trading_day m b ≡ Some q → a ≤ b → p ≤ q
nexts_rise m a b p q t e f h =
    let v = next_found m a p e in
    let w = next_found m b q f in
    elim (cases_order p q) [
      | inl same ↦ omega arith
      | inr (inl less) ↦ omega arith
      | inr (inr more) ↦ elim (cases_order a b) [
        | inl same ↦ let z : p ≡ q = nearest_is_one m b p q (subst (λ (x : ℕ). NextWithin m 14 x p) same v) w in omega arith
        | inr (inl less) ↦ absurd (both_ways _ (v.between b less (omega (arith, w.after))).1 t)
        | inr (inr far) ↦ absurd (omega arith)
      ]
    ]

-- and closes later
pub closes_rise : (m : Meaning) (a b : ℕ) → Kept m → trading m a ≡ true → trading m b ≡ true → a ≤ b → close m a ≤ close m b
closes_rise m a b law t u h =
    let p = closes (m.kind a) in
    let q = closes (m.kind b) in
    let k = hour m b law u in
    elim (cases_order a b) [
      | inl same ↦ subst (λ (x : ℕ). close m a ≤ close m x) same (omega arith)
      | inr (inl less) ↦ omega arith
      | inr (inr more) ↦ absurd (omega arith)
    ]

-- what is known of an opened day
pub record Noted (m : Meaning) (o : Opened) : Type 0 where
  pub trades : trading m o.day ≡ true
  pub previous_is : previous_trading_day m o.day ≡ Some o.previous
  pub next_is : next_trading_day m o.day ≡ Some o.next
  pub today_is : o.today ≡ deadlines m o.day o.next
  pub before_is : o.before ≡ deadlines m o.previous o.day
  pub close_is : o.hours.close ≡ close m o.day

pub noted_day : (m : Meaning) (day : ℕ) (o : Opened) → opened m day ≡ Ok o → (o.day ≡ day) × Noted m o
noted_day m day o e =
    let f = facts m day (trading m day) (previous_trading_day m day) (next_trading_day m day) o e in
    subst (λ (x : Opened). (x.day ≡ day) × Noted m x) f.is (
      refl,
      record { trades = f.trades; previous_is = f.previous_is; next_is = f.next_is; today_is = refl; before_is = refl; close_is = refl },
    )

-- the trading day after an opened day is later
pub next_later : (m : Meaning) (o : Opened) → Noted m o → o.day < o.next
next_later m o n = (next_found m o.day o.next n.next_is).after
