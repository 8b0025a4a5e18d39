-- Lists of days that rise.
use Rattle.std.proofs.Common.{◌≡◌, ℕ, zero, suc, ◌+◌, ◌<◌, ◌≤◌, Bool, true, false, cond, eqb, ◌≢◌, List, [], ◌∷◌, length, get_or, Ok, Err, sym, refl, ap, ◌∙◌, inl, inr, le_of_suc-le-suc, not-suc-le-zero, arith}
use Rattle.std.specs.List.Sorted.{IsBinarySearchResult, IsNonDecreasingBy}
use Rattle.std.specs.Ordering.{nat_cmp, ordering_index}
use Rattle.std.proofs.lemmas.Cmp.{ranked}
use Rattle.std.proofs.lemmas.List.Sorted.{IsNonDecreasingBy-from_default}
use Rattle.std.proofs.lemmas.Bool.{cases_lt, eq-eqb, ne_eqb}
use Rattle.std.proofs.lemmas.Bool.Decides.{nat_tests}
use Rattle.calendar.specs.declared.day.ListedDay.{ListedDay}
use Rattle.calendar.specs.declared.day.Kind.TheVariants.{Closed}
use Rattle.calendar.specs.Listed.{rise_within, listed_day, as_listed}
use Rattle.calendar.specs.Lawful.{begins}

-- stands past the end of a list
abbrev pub none : ListedDay
none = record { day = 0; kind = Closed; offset = 0 }

-- a day of the list is at or after the first
pub not_before : (first last i : ℕ) (xs : List ListedDay) → rise_within first last xs ≡ true → i < length xs → first ≤ (get_or xs i none).day
not_before first last i [] h l = absurd (not-suc-le-zero l)
not_before first last zero (x ∷ xs) h l = (begins first last x xs h).from
not_before first last (suc i) (x ∷ xs) h l =
    let b = begins first last x xs h in
    let later = not_before (x.day + 1) last i xs b.rest (le_of_suc-le-suc l) in
    omega arith

-- the days of the list rise
pub rising : (first last i j : ℕ) (xs : List ListedDay) → rise_within first last xs ≡ true → i < j → j < length xs → (get_or xs i none).day < (get_or xs j none).day
rising first last i j [] h o l = absurd (not-suc-le-zero l)
rising first last i zero (x ∷ xs) h o l = absurd (not-suc-le-zero o)
rising first last zero (suc j) (x ∷ xs) h o l =
    let b = begins first last x xs h in
    let later = not_before (x.day + 1) last j xs b.rest (le_of_suc-le-suc l) in
    omega arith
rising first last (suc i) (suc j) (x ∷ xs) h o l =
    rising (x.day + 1) last i j xs (begins first last x xs h).rest (le_of_suc-le-suc o) (le_of_suc-le-suc l)

-- a day of the list is found at its place
pub found : (first last day i : ℕ) (xs : List ListedDay) → rise_within first last xs ≡ true → i < length xs → (get_or xs i none).day ≡ day
    → listed_day xs day ≡ as_listed (get_or xs i none)
found first last day i [] h l e = absurd (not-suc-le-zero l)
found first last day zero (x ∷ xs) h l e = ap (λ (b : Bool). cond b (as_listed x) (listed_day xs day)) (eq-eqb _ _ e)
found first last day (suc i) (x ∷ xs) h l e =
    let b = begins first last x xs h in
    let later = not_before (x.day + 1) last i xs b.rest (le_of_suc-le-suc l) in
    let other : eqb x.day day ≡ false = ne_eqb x.day day (λ s. omega (arith, s)) in
    ap (λ (b : Bool). cond b (as_listed x) (listed_day xs day)) other ∙ found (x.day + 1) last day i xs b.rest (le_of_suc-le-suc l) e

-- a day that stands nowhere in a list is closed
pub missing : (day : ℕ) (xs : List ListedDay) → ((i : ℕ) → i < length xs → (get_or xs i none).day ≢ day) → listed_day xs day ≡ record { kind = Closed; offset = 0 }
missing day [] other = refl
missing day (x ∷ xs) other =
    ap (λ (b : Bool). cond b (as_listed x) (listed_day xs day)) (ne_eqb x.day day (other 0 (omega arith)))
    ∙ missing day xs (λ i l. other (suc i) (omega arith))

-- the comparisons with a day rise along the list, as a binary search asks
comparisons_rise : (first last day : ℕ) (xs : List ListedDay) → rise_within first last xs ≡ true → IsNonDecreasingBy (λ x. ordering_index (nat_cmp x.day day)) xs
comparisons_rise first last day xs h = IsNonDecreasingBy-from_default (λ x. ordering_index (nat_cmp x.day day)) xs none (λ i j le l.
    let days_rise : (get_or xs i none).day ≤ (get_or xs j none).day = grind (arith, rising first last i j xs h, λ (same : i ≡ j). ap (λ (k : ℕ). (get_or xs k none).day) same) in
    grind (arith, nat_tests))

-- what a binary search among the days finds is what the list says
pub listed_at : (first last day i : ℕ) (xs : List ListedDay) → rise_within first last xs ≡ true → i < length xs
    → IsBinarySearchResult (λ x. nat_cmp x.day day) xs (Ok i) → listed_day xs day ≡ as_listed (get_or xs i none)
listed_at first last day i xs h l equal = found first last day i xs h l (ranked _ day _ (sym (equal none)))

pub listed_nowhere : (first last day i : ℕ) (xs : List ListedDay) → rise_within first last xs ≡ true
    → IsBinarySearchResult (λ x. nat_cmp x.day day) xs (Err i) → listed_day xs day ≡ record { kind = Closed; offset = 0 }
listed_nowhere first last day i xs h parted =
    let parts = parted (comparisons_rise first last day xs h) in
    missing day xs (λ k l e. elim (cases_lt k i) [
      | inl less ↦ let before : (get_or xs k none).day < day = ranked _ day _ (sym (parts.0 k none (omega arith) less)) in omega arith
      | inr more ↦ let behind : day < (get_or xs k none).day = ranked _ day _ (sym (parts.1 k none more l)) in omega arith
    ])
