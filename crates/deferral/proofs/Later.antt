-- The larger trade is never earlier.
use Rattle.std.proofs.Common.{◌≡◌, ℕ, ◌-◌, ◌^◌, ◌≤◌, min, max, Bool, true, false, cond, eqb, leb, [], ◌∷◌, is_some, Some, None, Ok, Err, Option, Result, unwrap_or, sym, refl, ap, ◌∙◌, subst, arith}
use Rattle.std.proofs.lemmas.Bool.{eqb-true, not-false}
use Rattle.refusal.specs.declared.Refusal.{Refusal}
use Rattle.refusal.specs.declared.Refusal.TheVariants.{NoTradingDay}
use Rattle.refusal.specs.Grounds.{Ground, first_ground, unless}
use Rattle.calendar.specs.Meaning.{Meaning, Lawful, trading}
use Rattle.calendar.specs.Trading.{next_trading_day, previous_trading_day}
use Rattle.deferral.specs.declared.deadlines.Deadlines.{Deadlines}
use Rattle.deferral.specs.declared.opened.Opened.{Opened}
use Rattle.deferral.specs.declared.question.Question.{Question}
use Rattle.deferral.specs.declared.tier.Tier.{Tier}
use Rattle.deferral.specs.declared.trade.Publication.{Publication}
use Rattle.deferral.specs.declared.trade.Trade.{Trade}
use Rattle.deferral.specs.Deadlines.{day_of, opened, opened_with, with_neighbours, deadlines_for}
use Rattle.deferral.specs.Judged.{turnover, asks, trade_tier, published, closed_ground, size_ground, turnover_ground, execution_ground, judged_in, if_opened, AlikeButSize, LargerNeverEarlier}
use Rattle.deferral.specs.Publication.{tier_if, tier_moment, Timely}
use Rattle.deferral.specs.Tiers.{tier_number, Rises}
use Rattle.deferral.proofs.Opening.{next_found, previous_found}
use Rattle.deferral.proofs.Timely.{timely, moments_rise}

tier_if_rises : (b c : Bool) (s t : Tier) → b ≡ c → tier_number s ≤ tier_number t → tier_number (tier_if b s) ≤ tier_number (tier_if c t)
tier_if_rises b c s t e h = grind arith

tiers_rise : (tier : Question → Tier) → Rises tier → (t u : Trade) → AlikeButSize t u → turnover t ≤ turnover u
    → tier_number (trade_tier tier t) ≤ tier_number (trade_tier tier u)
tiers_rise tier rises t u alike h =
    tier_if_rises t.deferrable u.deferrable (tier (asks t)) (tier (asks u)) alike.deferrable
    (rises (asks t) (asks u) (record { class = alike.class; daily = alike.daily }) h)

later_of_two : (a b c k : ℕ) → a ≤ b → min (max a c) k ≤ min (max b c) k
later_of_two a b c k h = omega arith

-- at the same deadlines, from the same execution
pub published_rises : (tier : Question → Tier) → Rises tier → (d : Deadlines) (clock : ℕ) (t u : Trade) → Timely d u.execution → AlikeButSize t u
    → turnover t ≤ turnover u → (published tier d clock t).moment ≤ (published tier d clock u).moment
published_rises tier rises d clock t u timely alike h =
    let step : tier_moment d t.execution (trade_tier tier t) ≤ tier_moment d u.execution (trade_tier tier u) =
    subst (λ (e : ℕ). tier_moment d e (trade_tier tier t) ≤ tier_moment d u.execution (trade_tier tier u)) (sym alike.execution)
    (moments_rise d u.execution (trade_tier tier t) (trade_tier tier u) timely (tiers_rise tier rises t u alike h)) in
    later_of_two (tier_moment d t.execution (trade_tier tier t)) (tier_moment d u.execution (trade_tier tier u)) clock (2 ^ 64 - 1) step

-- what is known of a day that is opened
pub record Facts (m : Meaning) (day : ℕ) (b : Bool) (p n : Option ℕ) (o : Opened) : Type 0 where
  pub trades : b ≡ true
  pub previous : ℕ
  pub next : ℕ
  pub previous_is : p ≡ Some previous
  pub next_is : n ≡ Some next
  pub is : opened_with m day previous next ≡ o

pub facts : (m : Meaning) (day : ℕ) (b : Bool) (p n : Option ℕ) (o : Opened) → cond b (with_neighbours m day p n) (Err NoTradingDay) ≡ Ok o → Facts m day b p n o
facts m day true (Some p) (Some n) o e = record { trades = refl; previous = p; next = n; previous_is = refl; next_is = refl; is = cc }
facts m day true (Some p) None o e = cc
facts m day true None (Some n) o e = cc
facts m day true None None o e = cc
facts m day false p n o e = cc

-- an execution in an opened day, or in the trading day before it, is timely
abbrev pub InTime : Opened → ℕ → Type 0
InTime o execution = (day_of execution ≡ o.day → Timely o.today execution) × (day_of execution ≡ o.previous → Timely o.before execution)

pub in_time : (m : Meaning) (day execution : ℕ) (o : Opened) → Lawful m → opened m day ≡ Ok o → InTime o execution
in_time m day execution o law e =
    let f = facts m day (trading m day) (previous_trading_day m day) (next_trading_day m day) o e in
    let before = previous_found m day f.previous f.previous_is in
    let after = next_found m day f.next f.next_is in
    subst (λ (x : Opened). InTime x execution) f.is (
      timely m day f.next execution law f.trades after.trades after.after,
      timely m f.previous day execution law before.trades f.trades before.before,
    )

chosen : (x y : Deadlines) (execution : ℕ) (a b c : Bool) → (b ≡ true → Timely x execution) → (c ≡ true → Timely y execution)
    → is_some (cond a (cond b (Some x) (cond c (Some y) None)) None) ≡ true
    → Timely (unwrap_or (cond a (cond b (Some x) (cond c (Some y) None)) None) x) execution
chosen x y execution true true c p q e = p refl
chosen x y execution true false true p q e = q refl
chosen x y execution true false false p q e = cc
chosen x y execution false b c p q e = cc

deadlines_timely : (m : Meaning) (day clock execution : ℕ) (o : Opened) → Lawful m → opened m day ≡ Ok o → is_some (deadlines_for o clock execution) ≡ true
    → Timely (unwrap_or (deadlines_for o clock execution) o.today) execution
deadlines_timely m day clock execution o law e some =
    let t = in_time m day execution o law e in
    chosen o.today o.before execution (leb execution clock) (eqb (day_of execution) o.day) (eqb (day_of execution) o.previous)
    (λ h. t.0 (eqb-true _ _ h)) (λ h. t.1 (eqb-true _ _ h)) some

-- an answer that is no refusal: none of four grounds is there
allowed : {X : Type 0} (g h i j : Ground) (x y : X) → unless (first_ground (g ∷ h ∷ i ∷ j ∷ [])) x ≡ Ok y → (j.there ≡ false) × (x ≡ y)
allowed {X} g h i j x y e = by_cases g.there h.there i.there j.there e
  where
    by_cases : (a b c d : Bool) → unless (cond a (Some g.refusal) (cond b (Some h.refusal) (cond c (Some i.refusal) (cond d (Some j.refusal) None)))) x ≡ Ok y → (d ≡ false) × (x ≡ y)
    by_cases false false false false e = (refl, cc)
    by_cases false false false true e = cc
    by_cases false false true d e = cc
    by_cases false true c d e = cc
    by_cases true b c d e = cc

in_opened : (m : Meaning) (tier : Question → Tier) (clock : ℕ) (o : Opened) (t u : Trade) (p q : Publication) → Lawful m → Rises tier
    → opened m (day_of clock) ≡ Ok o → AlikeButSize t u → turnover t ≤ turnover u
    → judged_in tier o clock t ≡ Ok p → judged_in tier o clock u ≡ Ok q → p.moment ≤ q.moment
in_opened m tier clock o t u p q law rises is alike h e f =
    let d = unwrap_or (deadlines_for o clock u.execution) o.today in
    let a = allowed (closed_ground o clock) (size_ground t.price t.quantity) (turnover_ground t.price t.quantity) (execution_ground o clock t.execution) _ p e in
    let b = allowed (closed_ground o clock) (size_ground u.price u.quantity) (turnover_ground u.price u.quantity) (execution_ground o clock u.execution) _ q f in
    let some : is_some (deadlines_for o clock u.execution) ≡ true = not-false _ b.0 in
    let first : (published tier d clock t).moment ≡ p.moment =
    ap (λ (x : ℕ). (published tier (unwrap_or (deadlines_for o clock x) o.today) clock t).moment) (sym alike.execution) ∙ ap (λ (x : Publication). x.moment) a.1 in
    let second : (published tier d clock u).moment ≡ q.moment = ap (λ (x : Publication). x.moment) b.1 in
    let ordered = published_rises tier rises d clock t u (deadlines_timely m (day_of clock) clock u.execution o law is some) alike h in
    subst (λ (x : ℕ). x ≤ q.moment) first (subst (λ (y : ℕ). (published tier d clock t).moment ≤ y) second ordered)

if_day_opened : (m : Meaning) (tier : Question → Tier) (clock : ℕ) (r : Result Opened Refusal) (t u : Trade) (p q : Publication) → Lawful m → Rises tier
    → opened m (day_of clock) ≡ r → AlikeButSize t u → turnover t ≤ turnover u
    → if_opened tier clock t r ≡ Ok p → if_opened tier clock u r ≡ Ok q → p.moment ≤ q.moment
if_day_opened m tier clock (Ok o) t u p q law rises is alike h e f = in_opened m tier clock o t u p q law rises is alike h e f
if_day_opened m tier clock (Err r) t u p q law rises is alike h e f = cc

pub larger_never_earlier : (m : Meaning) (tier : Question → Tier) → Lawful m → Rises tier → LargerNeverEarlier m tier
larger_never_earlier m tier law rises clock t u p q alike h e f =
    if_day_opened m tier clock (opened m (day_of clock)) t u p q law rises refl alike h e f
