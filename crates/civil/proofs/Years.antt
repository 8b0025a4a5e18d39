-- The leap years up to a year, the day on which a year begins, and the year in which a day lies.
use Rattle.std.proofs.Common.{◌≡◌, ℕ, zero, suc, ◌+◌, ◌-◌, ◌*◌, ◌/◌, ◌^◌, ◌<◌, ◌≤◌, sym, refl, subst, arith}
use Rattle.std.proofs.lemmas.Bool.Decides.{nat_tests}
use Rattle.civil.specs.Dates.{year_length, days_of_years, new_year}
use Rattle.civil.specs.Years.{YearOf}

-- the leap years before the year 1970 + n, counted from the year 1
unfoldable pub leaps : ℕ → ℕ
leaps n = (1969 + n) / 4 - (1969 + n) / 100 + (1969 + n) / 400

year_length_is : (n : ℕ) → year_length (1970 + n) + leaps n ≡ 365 + leaps (suc n)
unfolding leaps
year_length_is n = grind (arith, nat_tests)

days_of_years_is : (n : ℕ) → days_of_years n + 477 ≡ 365 * n + leaps n
unfolding leaps
days_of_years_is zero = refl
days_of_years_is (suc n) = omega (arith, days_of_years_is n, year_length_is n)

less : (a b k : ℕ) → b + k ≡ a → a - k ≡ b
less a b k h = omega arith

pub new_year_is : (n : ℕ) → 365 * n + leaps n - 477 ≡ days_of_years n
new_year_is n = less _ (days_of_years n) 477 (days_of_years_is n)

-- 97 of 400 years are leap years, all but a little
leaps_most : (n : ℕ) → 400 * leaps n ≤ 97 * n + 191390
unfolding leaps
leaps_most n = omega arith

leaps_least : (n : ℕ) → 97 * n + 190294 ≤ 400 * leaps n
unfolding leaps
leaps_least n = omega arith

-- the year that the average gives, as years since 1970, from the day before
abbrev pub guess : ℕ → ℕ
guess s = s * 400 / 146097

guess_low : (day s : ℕ) → s ≡ day - 1 → days_of_years (guess s) ≤ day
guess_low zero s e = subst (λ (s : ℕ). days_of_years (guess s) ≤ 0) (sym e) (omega arith)
guess_low (suc d) s e = omega (arith, days_of_years_is (guess s), leaps_most (guess s))

guess_high : (day s : ℕ) → s ≡ day - 1 → day < days_of_years (guess s + 2)
guess_high day s e = omega (arith, days_of_years_is (guess s + 2), leaps_least (guess s + 2))

same_years : (n : ℕ) → n ≡ 1970 + n - 1970
same_years n = omega arith

two_years : (n : ℕ) → n + 2 ≡ 1970 + n + 1 + 1 - 1970
two_years n = omega arith

pub this_year : (day s f : ℕ) → day < 2 ^ 32 → s ≡ day - 1 → f ≡ new_year (1970 + guess s + 1) → day < f → YearOf day (1970 + guess s)
this_year day s f fits e is h = record {
  begun = subst (λ (n : ℕ). days_of_years n ≤ day) (same_years (guess s)) (guess_low day s e);
  ahead = subst (λ (n : ℕ). day < n) is h;
  first = omega arith;
  small = omega arith;
}

pub next_year : (day s f : ℕ) → day < 2 ^ 32 → s ≡ day - 1 → f ≡ new_year (1970 + guess s + 1) → f ≤ day → YearOf day (1970 + guess s + 1)
next_year day s f fits e is h = record {
  begun = subst (λ (n : ℕ). n ≤ day) is h;
  ahead = subst (λ (n : ℕ). day < days_of_years n) (two_years (guess s)) (guess_high day s e);
  first = omega arith;
  small = omega arith;
}
