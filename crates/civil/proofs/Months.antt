-- The months of a year in their order, each of which begins where the one before it ends.
use Rattle.std.proofs.Common.{◌≡◌, ℕ, zero, suc, ◌+◌, ◌<◌, ◌≤◌, List, [], ◌∷◌, take, get_or, sym, refl, ap, ◌∙◌, arith}
use Rattle.std.specs.List.{sum}
use Rattle.std.proofs.lemmas.Bool.Decides.{nat_tests}
use Rattle.std.proofs.lemmas.List.Sums.{sum_by_more}
use Rattle.civil.specs.declared.month.Month.{Month}
use Rattle.civil.specs.declared.month.Month.TheVariants.{January, February, March, April, May, June, July, August, September, October, November, December}
use Rattle.civil.specs.Dates.{place, year_length, month_lengths, month_length, days_before}

abbrev pub months : List Month
months = January ∷ February ∷ March ∷ April ∷ May ∷ June ∷ July ∷ August ∷ September ∷ October ∷ November ∷ December ∷ []

-- how many days of the year there are up to the month's end
abbrev pub days_through : ℕ → Month → ℕ
days_through y m = days_before y m + month_length y m

pub place_at : (k : ℕ) (m : Month) → k < 12 → place (get_or months k m) ≡ k
place_at zero m h = refl
place_at (suc zero) m h = refl
place_at (suc (suc zero)) m h = refl
place_at (suc (suc (suc zero))) m h = refl
place_at (suc (suc (suc (suc zero)))) m h = refl
place_at (suc (suc (suc (suc (suc zero))))) m h = refl
place_at (suc (suc (suc (suc (suc (suc zero)))))) m h = refl
place_at (suc (suc (suc (suc (suc (suc (suc zero))))))) m h = refl
place_at (suc (suc (suc (suc (suc (suc (suc (suc zero)))))))) m h = refl
place_at (suc (suc (suc (suc (suc (suc (suc (suc (suc zero))))))))) m h = refl
place_at (suc (suc (suc (suc (suc (suc (suc (suc (suc (suc zero)))))))))) m h = refl
place_at (suc (suc (suc (suc (suc (suc (suc (suc (suc (suc (suc zero))))))))))) m h = refl
place_at (suc (suc (suc (suc (suc (suc (suc (suc (suc (suc (suc (suc k)))))))))))) m h = absurd (omega arith)

through : (y k : ℕ) (m : Month) → k < 12 → days_through y (get_or months k m) ≡ sum (take (k + 1) (month_lengths y))
through y k m h =
    let at = place_at k m h in
    ap (λ (i : ℕ). sum (take i (month_lengths y)) + get_or (month_lengths y) i 0) at ∙ sym (sum_by_more (λ n. n) (month_lengths y) k 0 h)

-- where all months before a place have ended, the month there has begun
pub has_begun : (y since i : ℕ) (m : Month) → i < 12 → ((d : Month) → get_or months i d ≡ m)
    → ((k : ℕ) (d : Month) → 0 ≤ k → k < i → days_through y (get_or months k d) ≤ since) → days_before y m ≤ since
has_begun y since zero m h at over =
    let is : place m ≡ 0 = ap place (sym (at m)) ∙ place_at 0 m h in
    let begins : days_before y m ≡ 0 = ap (λ (i : ℕ). sum (take i (month_lengths y))) is in
    omega (arith, begins)
has_begun y since (suc k) m h at over =
    let here : place m ≡ suc k = ap place (sym (at m)) ∙ place_at (suc k) m h in
    let is : place m ≡ k + 1 = omega arith in
    let begins : days_before y m ≡ sum (take (k + 1) (month_lengths y)) = ap (λ (i : ℕ). sum (take i (month_lengths y))) is in
    let ended = through y k m (omega arith) in
    let done = over k m (omega arith) (omega arith) in
    omega (arith, begins, ended, done)

-- not all months of a year end within it
pub not_all : (y since : ℕ) → since < year_length y → ((k : ℕ) (d : Month) → 0 ≤ k → k < 12 → days_through y (get_or months k d) ≤ since) → ⊥
not_all y since h over = let last : days_through y December ≤ since = over 11 January (omega arith) (omega arith) in grind (arith, nat_tests)
