-- Which keys are in a list, and in the parts of it.
use Rattle.std.proofs.Common.{◌≡◌, Bool, true, false, not, ◌&&◌, ◌||◌, List, [], ◌∷◌, ◌++◌, filter, sym, refl, ap, ◌∙◌, ⊎_elim, arith}
use Rattle.std.specs.List.{AllByRecursion as All}
use Rattle.std.proofs.lemmas.Bool.{both_ways, or_cases}
use Rattle.register.specs.Order.{Total, same}
use Rattle.register.specs.Lists.{has, before, from, after, with_key, without}
use Rattle.register.proofs.Totals.{same_sym, same_is, one_way, apart_after, after_is}

-- ---- filters

pub kept_all : {X : Type 0} (p : X → Bool) (xs : List X) → All (λ x. p x ≡ true) xs → filter p xs ≡ xs
kept_all p [] a = refl
kept_all p (x ∷ xs) a = rw a.0 (ap (λ l. x ∷ l) (kept_all p xs a.1))

pub kept_none : {X : Type 0} (p : X → Bool) (xs : List X) → All (λ x. p x ≡ false) xs → filter p xs ≡ []
kept_none p [] a = refl
kept_none p (x ∷ xs) a = rw a.0 (kept_none p xs a.1)

pub kept_turned : {X : Type 0} (p q : X → Bool) (xs : List X) → filter p (filter q xs) ≡ filter q (filter p xs)
kept_turned p q [] = refl
kept_turned p q (x ∷ xs) = grind (arith, kept_turned p q xs)

-- ---- members

module _ {K : Type 0} (lt : K → K → Bool) where
  pub has_append : (j : K) (xs ys : List K) → has lt j (xs ++ ys) ≡ (has lt j xs || has lt j ys)
  has_append j [] ys = refl
  has_append j (x ∷ xs) ys = grind (arith, has_append j xs ys)

  pub absent_apart : (k : K) (xs : List K) → has lt k xs ≡ false → All (λ x. same lt x k ≡ false) xs
  absent_apart k [] n = tt
  absent_apart k (x ∷ xs) n = (grind arith, absent_apart k xs (grind arith))

  -- a key before all of a list is not in it
  pub above_absent : (k : K) (xs : List K) → All (λ x. lt k x ≡ true) xs → has lt k xs ≡ false
  above_absent k [] a = refl
  above_absent k (x ∷ xs) a = rw (apart_after lt x k a.0) (above_absent k xs a.1)

  module _ (o : Total lt) where
    pub all_has : (P : K → Type 0) (j : K) (xs : List K) → All P xs → has lt j xs ≡ true → P j
    all_has P j [] a h = absurd (both_ways false refl h)
    all_has P j (x ∷ xs) a h =
        ⊎_elim
        (λ (s : same lt x j ≡ true). rw (sym (same_is lt o x j s)) a.0)
        (λ (r : has lt j xs ≡ true). all_has P j xs a.1 r)
        (or_cases (same lt x j) (has lt j xs) h)

    pub has_kept_by : (p : K → Bool) (j : K) (xs : List K) → has lt j (filter p xs) ≡ (p j && has lt j xs)
    has_kept_by p j [] = grind arith
    has_kept_by p j (x ∷ xs) = grind (arith, has_kept_by p j xs, same_is lt o x j)

    pub has_with : (k j : K) (xs : List K) → has lt j (with_key lt k xs) ≡ (same lt k j || has lt j xs)
    has_with k j xs = rw (has_append j (before lt k xs) (k ∷ after lt k xs), has_kept_by (λ x. lt x k) j xs, has_kept_by (λ x. lt k x) j xs) (grind (arith, one_way lt o j k))

    pub has_without : (k j : K) (xs : List K) → has lt j (without lt k xs) ≡ (not (same lt k j) && has lt j xs)
    has_without k j xs = has_kept_by (λ x. not (same lt x k)) j xs ∙ ap (λ b. not b && has lt j xs) (same_sym lt j k)

    pub has_from : (k j : K) (xs : List K) → has lt j (from lt k xs) ≡ (not (lt j k) && has lt j xs)
    has_from k j xs = has_kept_by (λ x. not (lt x k)) j xs

    pub has_before : (k j : K) (xs : List K) → has lt j (before lt k xs) ≡ (lt j k && has lt j xs)
    has_before k j xs = has_kept_by (λ x. lt x k) j xs

    -- where k is not in, those from k on are those after it
    pub after_absent : (k : K) (xs : List K) → has lt k xs ≡ false → after lt k xs ≡ from lt k xs
    after_absent k [] n = refl
    after_absent k (x ∷ xs) n = grind (arith, after_absent k xs, after_is lt o x k)
