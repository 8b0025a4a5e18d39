-- The latest Sunday on or before a day, by the remainder of the day by 7.
use Rattle.std.proofs.Common.{◌≡◌, ℕ, zero, suc, ◌+◌, ◌-◌, ◌%◌, ◌<◌, ◌≤◌, Bool, true, false, cond, eqb, get_or, refl, ap, ◌∙◌, arith}
use Rattle.std.proofs.lemmas.Bool.{eq-eqb, ne_eqb}
use Rattle.civil.specs.declared.weekday.Weekday.TheVariants.{Thursday}
use Rattle.civil.specs.Weekdays.{week_from_day_zero, weekday_of, is_sunday, sunday_until}

sunday_at : (r : ℕ) → r < 7 → is_sunday (get_or week_from_day_zero r Thursday) ≡ eqb r 3
sunday_at zero h = refl
sunday_at (suc zero) h = refl
sunday_at (suc (suc zero)) h = refl
sunday_at (suc (suc (suc zero))) h = refl
sunday_at (suc (suc (suc (suc zero)))) h = refl
sunday_at (suc (suc (suc (suc (suc zero))))) h = refl
sunday_at (suc (suc (suc (suc (suc (suc zero)))))) h = refl
sunday_at (suc (suc (suc (suc (suc (suc (suc r))))))) h = absurd (omega arith)

pub sunday_back : (k n day : ℕ) → (day + 4) % 7 ≡ k → k ≤ day → k ≤ n → sunday_until (suc n) day ≡ day - k
sunday_back zero n day e h l =
    let here : is_sunday (weekday_of day) ≡ true = sunday_at (day % 7) (omega arith) ∙ eq-eqb _ _ (omega arith) in
    let same : day ≡ day - 0 = omega arith in
    ap (λ (b : Bool). cond b day (sunday_until n (day - 1))) here ∙ same
sunday_back (suc k) zero day e h l = absurd (omega arith)
sunday_back (suc k) (suc n) day e h l =
    let other : is_sunday (weekday_of day) ≡ false = sunday_at (day % 7) (omega arith) ∙ ne_eqb _ _ (omega arith) in
    let one : day - 1 - k ≡ day - suc k = omega arith in
    ap (λ (b : Bool). cond b day (sunday_until (suc n) (day - 1))) other ∙ sunday_back k n (day - 1) (omega arith) (omega arith) (omega arith) ∙ one
