-- A neighbour is the nearest trading day, all days up to it being known.
use Rattle.std.proofs.Common.{◌≡◌, ℕ, zero, suc, ◌+◌, Bool, true, false, cond, ◌⊎◌, Some, None, Option, sym, refl, ap, ◌∙◌, subst, inl, inr, arith}
use Rattle.std.proofs.lemmas.Bool.{and_parts, both_ways, cases_order}
use Rattle.calendar.specs.Meaning.{Meaning, known, trades, trading}
use Rattle.calendar.specs.Trading.{nearest, days_after, days_until, next_trading_day, previous_trading_day, NextWithin, PreviousWithin, Answers}

-- a trading day is known
trading_known : (m : Meaning) (d : ℕ) → trading m d ≡ true → known m d ≡ true
trading_known m d t = (and_parts (known m d) (trades (m.kind d)) t).0

-- a property of the answer that is shown at the day beside, and from there on
module _ (m : Meaning) (P Q : ℕ → Type 0) (beside : ℕ) (here : trading m beside ≡ true → P beside)
    (onward : known m beside ≡ true → trading m beside ≡ false → (d : ℕ) → Q d → P d)
    (back : (d : ℕ) → P d → (d ≡ beside) ⊎ Q d) (through : (d : ℕ) → P d → known m beside ≡ true)
  where
    step : (k t : Bool) (rest : Option ℕ) → known m beside ≡ k → trading m beside ≡ t → ((d : ℕ) → P d → trading m d ≡ true) → Answers Q rest
        → Answers P (cond k (cond t (Some beside) rest) None)
    step true true rest k t trade a = here t
    step true false (Some r) k t trade a = onward k t r a
    step true false None k t trade a = λ d p. elim (back d p) [ inl e ↦ both_ways _ t (ap (trading m) (sym e) ∙ trade d p) | inr q ↦ a d q ]
    step false t rest k u trade a = λ d p. both_ways _ k (through d p)

pub next_nearest : (m : Meaning) (n day : ℕ) → Answers (NextWithin m n day) (nearest m (days_after n day))
next_nearest m zero day = λ d p. omega arith
next_nearest m (suc n) day =
    step m (NextWithin m (suc n) day) (NextWithin m n (day + 1)) (day + 1)
    (λ t. record { after = omega arith; near = omega arith; trades = t; between = λ d a b. absurd (omega arith) })
    (λ k t d q. record {
      after = omega arith;
      near = omega arith;
      trades = q.trades;
      between = λ e a b. elim (cases_order e (day + 1)) [
        | inl same ↦ (ap (known m) same ∙ k, ap (trading m) same ∙ t)
        | inr (inl less) ↦ absurd (omega arith)
        | inr (inr more) ↦ q.between e more b
      ];
    })
    (λ d p. elim (cases_order d (day + 1)) [
      | inl same ↦ inl same
      | inr (inl less) ↦ absurd (omega arith)
      | inr (inr more) ↦ inr (record { after = more; near = omega arith; trades = p.trades; between = λ e a b. p.between e (omega arith) b })
    ])
    (λ d p. elim (cases_order d (day + 1)) [
      | inl same ↦ ap (known m) (sym same) ∙ trading_known m d p.trades
      | inr (inl less) ↦ absurd (omega arith)
      | inr (inr more) ↦ (p.between (day + 1) (omega arith) more).0
    ])
    (known m (day + 1)) (trading m (day + 1)) (nearest m (days_after n (day + 1))) refl refl (λ d p. p.trades) (next_nearest m n (day + 1))

pub previous_nearest : (m : Meaning) (n day : ℕ) → Answers (PreviousWithin m n day) (nearest m (days_until n day))
previous_nearest m zero day = λ d p. omega arith
previous_nearest m (suc n) zero = λ d p. omega arith
previous_nearest m (suc n) (suc day) =
    step m (PreviousWithin m (suc n) (suc day)) (PreviousWithin m n day) day
    (λ t. record { before = omega arith; near = omega arith; trades = t; between = λ d a b. absurd (omega arith) })
    (λ k t d q. record {
      before = omega arith;
      near = omega arith;
      trades = q.trades;
      between = λ e a b. elim (cases_order e day) [
        | inl same ↦ (ap (known m) same ∙ k, ap (trading m) same ∙ t)
        | inr (inl less) ↦ q.between e a less
        | inr (inr more) ↦ absurd (omega arith)
      ];
    })
    (λ d p. elim (cases_order d day) [
      | inl same ↦ inl same
      | inr (inl less) ↦ inr (record { before = less; near = omega arith; trades = p.trades; between = λ e a b. p.between e a (omega arith) })
      | inr (inr more) ↦ absurd (omega arith)
    ])
    (λ d p. elim (cases_order d day) [
      | inl same ↦ ap (known m) (sym same) ∙ trading_known m d p.trades
      | inr (inl less) ↦ (p.between day less (omega arith)).0
      | inr (inr more) ↦ absurd (omega arith)
    ])
    (known m day) (trading m day) (nearest m (days_until n day)) refl refl (λ d p. p.trades) (previous_nearest m n day)

pub next_within : (m : Meaning) (day : ℕ) (r : Option ℕ) → r ≡ next_trading_day m day → Answers (NextWithin m 14 day) r
next_within m day r is = subst (Answers (NextWithin m 14 day)) (sym is) (next_nearest m 14 day)

pub previous_within : (m : Meaning) (day : ℕ) (r : Option ℕ) → r ≡ previous_trading_day m day → Answers (PreviousWithin m 14 day) r
previous_within m day r is = subst (Answers (PreviousWithin m 14 day)) (sym is) (previous_nearest m 14 day)
