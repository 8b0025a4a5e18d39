-- A search that goes on day by day finds the nearest trading day among the days that its steps reach.
use Rattle.std.proofs.Common.{◌≡◌, ℕ, zero, suc, ◌+◌, ◌-◌, ◌^◌, ◌<◌, ◌≤◌, Bool, true, false, cond, ◌&&◌, ltb, List, ◌∷◌, Some, None, Option, sym, refl, ap, ◌∙◌, arith}
use Rattle.std.proofs.lemmas.Bool.Decides.{nat_tests}
use Rattle.calendar.specs.declared.day.Day.{Day}
use Rattle.calendar.specs.declared.day.Kind.{Kind}
use Rattle.calendar.specs.declared.day.Kind.TheVariants.{Closed}
use Rattle.calendar.specs.Meaning.{Meaning, asked, known, trades, trading}
use Rattle.calendar.specs.Steps.{later, earlier}
use Rattle.calendar.specs.Trading.{nearest, days_after, days_until, then_from, days_by}

-- one step while days are left to try
pub stepped : (m : Meaning) (step : ℕ → Option ℕ) (reach tried at : ℕ) (all r : Option ℕ) → tried < reach
    → all ≡ nearest m (days_by step (reach - tried) at) → r ≡ step at
    → all ≡ nearest m (then_from (days_by step (reach - (tried + 1))) r)
stepped m step reach tried at all r h inv is =
    let one : reach - tried ≡ suc (reach - (tried + 1)) = omega arith in
    inv ∙ ap (λ (n : ℕ). nearest m (days_by step n at)) one
    ∙ ap (λ (q : Option ℕ). nearest m (then_from (days_by step (reach - (tried + 1))) q)) (sym is)

-- and none when none is left
pub through : (m : Meaning) (step : ℕ → Option ℕ) (reach tried at : ℕ) → reach ≤ tried → nearest m (days_by step (reach - tried) at) ≡ None
through m step reach tried at h =
    let none : reach - tried ≡ 0 = omega arith in
    ap (λ (n : ℕ). nearest m (days_by step n at)) none

-- the search ends at an unknown day
ends : (k t : Bool) (day : Day) (found rest : Option ℕ) → None ≡ cond k (Some day) None → cond k (cond t found rest) None ≡ None
ends true t day found rest e = absurd (grind arith)
ends false t day found rest e = refl

pub unknown_day : (m : Meaning) (day : ℕ) (days : List ℕ) → None ≡ asked m day → nearest m (day ∷ days) ≡ None
unknown_day m day days e = ends (known m day) (trading m day) _ (Some day) (nearest m days) e

kind_of : Option Day → Kind
kind_of None = Closed
kind_of (Some day) = day.kind

-- and at a trading day, but not at a closed one
decides : (k : Bool) (x : Kind) (o : ℕ) (r : Day) (found rest : Option ℕ) → Some r ≡ cond k (Some (record { kind = x; offset = o })) None
    → cond k (cond (k && trades x) found rest) None ≡ cond (trades r.kind) found rest
unfolding kind_of
decides true x o r found rest e = ap (λ (day : Option Day). cond (trades (kind_of day)) found rest) (sym e)
decides false x o r found rest e = absurd (grind arith)

pub known_day : (m : Meaning) (day : ℕ) (days : List ℕ) (r : Day) (b : Bool) → Some r ≡ asked m day → b ≡ trades r.kind
    → nearest m (day ∷ days) ≡ cond b (Some day) (nearest m days)
known_day m day days r b e is =
    decides (known m day) (m.kind day) (m.offset day) r (Some day) (nearest m days) e
    ∙ ap (λ (t : Bool). cond t (Some day) (nearest m days)) (sym is)

-- the days that are reached one by one onward are the days after a day, as far as a calendar knows them
reached : (m : Meaning) (n day : ℕ) (b : Bool) → (b ≡ false → known m (day + 1) ≡ false)
    → nearest m (days_by later n (day + 1)) ≡ nearest m (days_after n (day + 1))
    → nearest m (then_from (days_by later n) (cond b (Some (day + 1)) None)) ≡ nearest m (days_after (suc n) day)
reached m n day true beyond e = ap (λ (rest : Option ℕ). cond (known m (day + 1)) (cond (trading m (day + 1)) (Some (day + 1)) rest) None) e
reached m n day false beyond e =
    sym (ap (λ (k : Bool). cond {A = Option ℕ} k (cond (trading m (day + 1)) (Some (day + 1)) (nearest m (days_after n (day + 1)))) None) (beyond refl))

pub onward : (m : Meaning) → m.last < 2 ^ 32 → (n day : ℕ) → nearest m (days_by later n day) ≡ nearest m (days_after n day)
onward m fits zero day = refl
onward m fits (suc n) day =
    reached m n day (ltb (day + 1) (2 ^ 32)) (λ past. grind (arith, nat_tests, fits, past)) (onward m fits n (day + 1))

-- those that are reached one by one back are the days before it
pub back : (n day : ℕ) → days_by earlier n day ≡ days_until n day
back zero day = refl
back (suc n) zero = refl
back (suc n) (suc day) = ap (λ (days : List ℕ). day ∷ days) (back n day)
