-- Easter counted in days after 22 March.
use Rattle.std.proofs.Common.{◌≡◌, ℕ, zero, suc, ◌+◌, ◌-◌, ◌%◌, ◌<◌, ◌≤◌, Bool, true, cond, ◌&&◌, eqb, ltb, leb, get_or, sym, refl, ap, ◌∙◌, subst, inl, inr, arith}
use Rattle.std.proofs.lemmas.Bool.{and_parts, cases_lt, leb-true, eqb-true}
use Rattle.std.proofs.lemmas.Bool.Decides.{nat_tests}
use Rattle.civil.specs.Dates.{day_number}
use Rattle.civil.specs.Weekdays.{week_from_day_zero}
use Rattle.civil.specs.declared.weekday.Weekday.TheVariants.{Thursday}
use Rattle.civil.specs.declared.month.Month.TheVariants.{March, April}
use Rattle.calendar.specs.Easter.{in_moon_cycle, to_full_moon, to_sunday, easter_sunday, after_22_march, ASunday}

-- a day of April as days after 22 March
in_april : (y k : ℕ) → day_number y April (k + 1) ≡ day_number y March 22 + (k + 10)
in_april y k = omega arith

counted_on : (y k : ℕ) → day_number y March (22 + k) ≡ day_number y March 22 + k
counted_on y k = omega arith

settled : (a s b c d e : ℕ) (late : Bool) → b ≡ a + 35 → c ≡ a + 28 → d ≡ a + 34 → e ≡ a + 27
    → a + cond (eqb s 35) 28 (cond (eqb s 34 && late) 27 s) ≡ cond (eqb (a + s) b) c (cond (eqb (a + s) d && late) e (a + s))
settled a s b c d e late p q r t = grind (arith, nat_tests)

pub easter_is : (y : ℕ) → day_number y March (22 + after_22_march y) ≡ easter_sunday y
unfolding easter_sunday
easter_is y =
    counted_on y (after_22_march y)
    ∙ settled (day_number y March 22) (to_full_moon y + to_sunday y) _ _ _ _ (eqb (to_full_moon y) 28 && ltb 10 (in_moon_cycle y)) (in_april y 25) (in_april y 18) (in_april y 24) (in_april y 17)

-- Easter of the year 2000 + k is as every Easter, by a test that is computed
is_easter : ℕ → Bool
is_easter k =
    let y = 2000 + k in
    eqb (easter_sunday y % 7) 3 && (leb (day_number y March 22) (easter_sunday y) && leb (easter_sunday y) (day_number y April 25))

all_easters : ℕ → Bool
all_easters zero = true
all_easters (suc n) = is_easter n && all_easters n

each : (n k : ℕ) → all_easters n ≡ true → k < n → is_easter k ≡ true
unfolding all_easters
each zero k e h = absurd (omega arith)
each (suc n) k e h =
    let both = and_parts (is_easter n) (all_easters n) e in
    elim (cases_lt k n) [
      | inl less ↦ each n k both.1 less
      | inr more ↦ let same : n ≡ k = omega arith in subst (λ (i : ℕ). is_easter i ≡ true) same both.0
    ]

two_hundred : all_easters 200 ≡ true
unfolding all_easters is_easter easter_sunday
two_hundred = refl

read : (k : ℕ) → is_easter k ≡ true → ASunday (2000 + k) (easter_sunday (2000 + k))
unfolding is_easter
read k e =
    let y = 2000 + k in
    let both = and_parts (eqb (easter_sunday y % 7) 3) (leb (day_number y March 22) (easter_sunday y) && leb (easter_sunday y) (day_number y April 25)) e in
    let ends = and_parts (leb (day_number y March 22) (easter_sunday y)) (leb (easter_sunday y) (day_number y April 25)) both.1 in
    record {
      sunday = ap (λ (r : ℕ). get_or week_from_day_zero r Thursday) (eqb-true (easter_sunday y % 7) 3 both.0);
      from = leb-true _ _ ends.0;
      until = leb-true _ _ ends.1;
    }

pub a_sunday : (y r : ℕ) → r ≡ easter_sunday y → 2000 ≤ y → y ≤ 2199 → ASunday y r
a_sunday y r is low high =
    let back : 2000 + (y - 2000) ≡ y = omega arith in
    subst (λ (e : ℕ). ASunday y e) (sym is)
    (subst (λ (z : ℕ). ASunday z (easter_sunday z)) back (read (y - 2000) (each 200 (y - 2000) two_hundred (omega arith))))
