-- The date of a day that is counted from the first of its month.
use Rattle.std.proofs.Common.{◌≡◌, ℕ, zero, suc, ◌+◌, ◌-◌, ◌<◌, ◌≤◌, Bool, true, false, cond, ltb, sym, refl, ap, ◌∙◌, add-zero, add_assoc, add-suc, arith}
use Rattle.std.proofs.lemmas.Bool.Decides.{nat_tests}
use Rattle.std.proofs.lemmas.Bool.{lt-ltb, le-ltb}
use Rattle.civil.specs.declared.date.Date.{Date}
use Rattle.civil.specs.declared.month.Month.{Month}
use Rattle.civil.specs.declared.month.Month.TheVariants.{January, February, March, April, May, June, July, August, September, October, November, December}
use Rattle.civil.specs.Dates.{year_length, month_length, days_before, days_of_years, new_year, day_number, first_of, next_month, tomorrow, date_of}

abbrev dated : ℕ → Month → ℕ → Date
dated y m d = record { year = y; month = m; day = d }

-- the day of the month that is k days after its first
abbrev pub on : ℕ → Month → ℕ → Date
on y m k = dated y m (k + 1)

dated_again : (y : ℕ) (m : Month) (j k : ℕ) → j ≡ k → dated y m j ≡ dated y m k
dated_again y m j k e = ap (dated y m) e

one_more : (y k : ℕ) (m : Month) → suc k < month_length y m → tomorrow (on y m k) ≡ on y m (suc k)
one_more y k m h =
    let inside : ltb (k + 1) (month_length y m) ≡ true = lt-ltb _ _ (omega arith) in
    ap (λ (b : Bool). cond b (on y m (k + 1)) (next_month y m)) inside ∙ dated_again y m (k + 1 + 1) (suc k + 1) (omega arith)

over : (y k : ℕ) (m : Month) → suc k ≡ month_length y m → tomorrow (on y m k) ≡ next_month y m
over y k m h =
    let last : ltb (k + 1) (month_length y m) ≡ false = le-ltb _ _ (omega arith) in
    ap (λ (b : Bool). cond b (on y m (k + 1)) (next_month y m)) last

within_month : (n y k : ℕ) (m : Month) → date_of n ≡ first_of y m → k < month_length y m → date_of (n + k) ≡ on y m k
within_month n y zero m e h = ap date_of (add-zero n) ∙ e
within_month n y (suc k) m e h =
    ap date_of (add-suc n k) ∙ ap tomorrow (within_month n y k m e (omega arith)) ∙ one_more y k m h

-- after its last day comes the next month
after_month : (n y l : ℕ) (m : Month) → date_of n ≡ first_of y m → suc l ≡ month_length y m → date_of (n + month_length y m) ≡ next_month y m
after_month n y l m e h =
    ap (λ (k : ℕ). date_of (n + k)) (sym h) ∙ ap date_of (add-suc n l) ∙ ap tomorrow (within_month n y l m e (omega arith)) ∙ over y l m h

pub month_long : (y : ℕ) (m : Month) → (28 ≤ month_length y m) × (month_length y m ≤ 31)
month_long y January = omega arith
month_long y February = grind (arith, nat_tests)
month_long y March = omega arith
month_long y April = omega arith
month_long y May = omega arith
month_long y June = omega arith
month_long y July = omega arith
month_long y August = omega arith
month_long y September = omega arith
month_long y October = omega arith
month_long y November = omega arith
month_long y December = omega arith

month_over : (n y d e : ℕ) (m : Month) → date_of (n + d) ≡ first_of y m → d + month_length y m ≡ e → date_of (n + e) ≡ next_month y m
month_over n y d e m h is =
    ap (λ (k : ℕ). date_of (n + k)) (sym is) ∙ ap date_of (sym (add_assoc n d (month_length y m)))
    ∙ after_month (n + d) y (month_length y m - 1) m h (let long = month_long y m in omega arith)

-- the months of a year follow one another, from a day n that is its first
module _ (n y : ℕ) (begun : date_of n ≡ first_of y January) where
  january : date_of (n + days_before y January) ≡ first_of y January
  january = ap date_of (add-zero n) ∙ begun

  february : date_of (n + days_before y February) ≡ first_of y February
  february = month_over n y (days_before y January) _ January january (omega arith)

  march : date_of (n + days_before y March) ≡ first_of y March
  march = month_over n y (days_before y February) _ February february (omega arith)

  april : date_of (n + days_before y April) ≡ first_of y April
  april = month_over n y (days_before y March) _ March march (omega arith)

  may : date_of (n + days_before y May) ≡ first_of y May
  may = month_over n y (days_before y April) _ April april (omega arith)

  june : date_of (n + days_before y June) ≡ first_of y June
  june = month_over n y (days_before y May) _ May may (omega arith)

  july : date_of (n + days_before y July) ≡ first_of y July
  july = month_over n y (days_before y June) _ June june (omega arith)

  august : date_of (n + days_before y August) ≡ first_of y August
  august = month_over n y (days_before y July) _ July july (omega arith)

  september : date_of (n + days_before y September) ≡ first_of y September
  september = month_over n y (days_before y August) _ August august (omega arith)

  october : date_of (n + days_before y October) ≡ first_of y October
  october = month_over n y (days_before y September) _ September september (omega arith)

  november : date_of (n + days_before y November) ≡ first_of y November
  november = month_over n y (days_before y October) _ October october (omega arith)

  december : date_of (n + days_before y December) ≡ first_of y December
  december = month_over n y (days_before y November) _ November november (omega arith)

  pub year_over : date_of (n + year_length y) ≡ first_of (y + 1) January
  year_over = month_over n y (days_before y December) _ December december (grind (arith, nat_tests))

  pub month_begins : (m : Month) → date_of (n + days_before y m) ≡ first_of y m
  month_begins January = january
  month_begins February = february
  month_begins March = march
  month_begins April = april
  month_begins May = may
  month_begins June = june
  month_begins July = july
  month_begins August = august
  month_begins September = september
  month_begins October = october
  month_begins November = november
  month_begins December = december

year_begins : (n : ℕ) → date_of (days_of_years n) ≡ first_of (1970 + n) January
year_begins zero = refl
year_begins (suc n) =
    year_over (days_of_years n) (1970 + n) (year_begins n) ∙ ap (λ (y : ℕ). first_of y January) (omega arith)

-- the date of a day that lies k days into a month
pub date_within : (y k : ℕ) (m : Month) → 1970 ≤ y → k < month_length y m → date_of (new_year y + days_before y m + k) ≡ on y m k
date_within y k m late h =
    let back : 1970 + (y - 1970) ≡ y = omega arith in
    let begun : date_of (new_year y) ≡ first_of y January = year_begins (y - 1970) ∙ ap (λ (z : ℕ). first_of z January) back in
    within_month (new_year y + days_before y m) y k m (month_begins (new_year y) y begun m) h

-- a year ends where the next begins
pub year_ends : (y : ℕ) → 1970 ≤ y → new_year (y + 1) ≡ new_year y + year_length y
year_ends y late =
    let more : y + 1 - 1970 ≡ suc (y - 1970) = omega arith in
    let back : 1970 + (y - 1970) ≡ y = omega arith in
    ap days_of_years more ∙ ap (λ (z : ℕ). new_year y + year_length z) back

pub date_of_number : (y d : ℕ) (m : Month) → 1970 ≤ y → 1 ≤ d → d ≤ month_length y m → date_of (day_number y m d) ≡ record { year = y; month = m; day = d }
date_of_number y d m late low high =
    date_within y (d - 1) m late (omega arith) ∙ dated_again y m (d - 1 + 1) d (omega arith)
