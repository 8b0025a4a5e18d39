-- Lists that rise: their parts rise, their members say which list it is, and how long their parts are.
use Rattle.std.proofs.Common.{◌≡◌, ℕ, zero, suc, ◌+◌, ◌<◌, Bool, true, false, not, List, [], ◌∷◌, ◌++◌, length, get_or, drop, filter, sym, refl, ap, ⊎_elim, arith}
use Rattle.std.specs.List.{AllByRecursion as All}
use Rattle.std.proofs.lemmas.List.{length-append}
use Rattle.std.proofs.ByRecursion.{all_kept_by, kept_by_passes, All-weaker, All-get_or, All-append}
use Rattle.std.proofs.lemmas.List.Filters.{length-filter_both}
use Rattle.std.proofs.lemmas.Bool.{cases_Bool, false_from_ne_true, not_from_false}
use Rattle.register.specs.Order.{Total, same}
use Rattle.register.specs.Lists.{Rising, has, before, from, after, with_key, without}
use Rattle.register.proofs.Totals.{same_self, same_is, apart_after}
use Rattle.register.proofs.Members.{kept_all, above_absent, absent_apart, after_absent}

module _ {K : Type 0} (lt : K → K → Bool) where
  pub rising_kept_by : (p : K → Bool) (xs : List K) → Rising lt xs → Rising lt (filter p xs)
  rising_kept_by p [] u = tt
  rising_kept_by p (x ∷ xs) u =
      ⊎_elim
      (λ (b : p x ≡ true). rw b (all_kept_by p (λ y. lt x y ≡ true) xs u.0, rising_kept_by p xs u.1))
      (λ (b : p x ≡ false). rw b (rising_kept_by p xs u.1))
      (cases_Bool (p x))

  pub rising_append : (xs ys : List K) → Rising lt xs → Rising lt ys → All (λ x. All (λ y. lt x y ≡ true) ys) xs → Rising lt (xs ++ ys)
  rising_append [] ys u v a = v
  rising_append (x ∷ xs) ys u v a = (All-append (λ y. lt x y ≡ true) xs ys u.0 a.0, rising_append xs ys u.1 v a.1)

  pub rising_drop : (n : ℕ) (xs : List K) → Rising lt xs → Rising lt (drop n xs)
  rising_drop zero xs u = u
  rising_drop (suc n) [] u = tt
  rising_drop (suc n) (x ∷ xs) u = rising_drop n xs u.1

  -- what stands earlier is before what stands later
  pub rising_at : (xs : List K) → Rising lt xs → (i j : ℕ) (d : K) → i < j → j < length xs → lt (get_or xs i d) (get_or xs j d) ≡ true
  rising_at [] u i j d h l = absurd (omega arith)
  rising_at (x ∷ xs) u i zero d h l = absurd (omega arith)
  rising_at (x ∷ xs) u zero (suc j) d h l = All-get_or (λ y. lt x y ≡ true) xs j d (omega arith) u.0
  rising_at (x ∷ xs) u (suc i) (suc j) d h l = rising_at xs u.1 i j d (omega arith) (omega arith)

  -- a list without a key that is not in it
  pub without_absent : (k : K) (xs : List K) → has lt k xs ≡ false → without lt k xs ≡ xs
  without_absent k xs n =
      kept_all (λ x. not (same lt x k)) xs (All-weaker (λ x. same lt x k ≡ false) (λ x. not (same lt x k) ≡ true) (λ x. not_from_false (same lt x k)) xs (absent_apart lt k xs n))

  pub length_parts : (k : K) (xs : List K) → length (before lt k xs) + length (from lt k xs) ≡ length xs
  length_parts k xs = length-filter_both (λ x. lt x k) (λ x. not (lt x k)) (λ x. refl) xs

  module _ (o : Total lt) where
    -- a key before the first of a list that rises is before all of it
    pub above_more : (k x : K) (xs : List K) → lt k x ≡ true → All (λ y. lt x y ≡ true) xs → All (λ y. lt k y ≡ true) xs
    above_more k x xs e a = All-weaker (λ y. lt x y ≡ true) (λ y. lt k y ≡ true) (λ y h. o.onward k x y e h) xs a

    pub rising_with : (k : K) (xs : List K) → Rising lt xs → Rising lt (with_key lt k xs)
    rising_with k xs u =
        let high : All (λ y. lt k y ≡ true) (after lt k xs) = kept_by_passes (λ y. lt k y) xs in
        rising_append (before lt k xs) (k ∷ after lt k xs) (rising_kept_by (λ x. lt x k) xs u) (high, rising_kept_by (λ x. lt k x) xs u)
        (All-weaker (λ x. lt x k ≡ true) (λ x. All (λ y. lt x y ≡ true) (k ∷ after lt k xs)) (λ x e. (e, above_more x k (after lt k xs) e high)) (before lt k xs) (kept_by_passes (λ x. lt x k) xs))

    -- the first key of a list is not in another that begins after it
    first_absent : (x y : K) (xs ys : List K) → Rising lt (y ∷ ys) → ((k : K) → has lt k (x ∷ xs) ≡ has lt k (y ∷ ys)) → lt x y ≡ true → ⊥
    first_absent x y xs ys v h e = let out = above_absent lt x ys (above_more x y ys e v.0) in grind (arith, h x, same_self lt o x, apart_after lt y x e)

    pub determined : (xs ys : List K) → Rising lt xs → Rising lt ys → ((k : K) → has lt k xs ≡ has lt k ys) → xs ≡ ys
    determined [] [] u v h = refl
    determined [] (y ∷ ys) u v h = absurd (grind (arith, h y, same_self lt o y))
    determined (x ∷ xs) [] u v h = absurd (grind (arith, h x, same_self lt o x))
    determined (x ∷ xs) (y ∷ ys) u v h =
        let e : x ≡ y = o.one x y (false_from_ne_true (lt x y) (first_absent x y xs ys v h)) (false_from_ne_true (lt y x) (first_absent y x ys xs u (λ k. sym (h k)))) in
        let t = determined xs ys u.1 v.1 (rest e) in
        cc where
          rest : x ≡ y → (k : K) → has lt k xs ≡ has lt k ys
          rest e k =
              let a = above_absent lt x xs u.0 in
              let b = above_absent lt y ys v.0 in
              grind (arith, h k, same_is lt o x k, same_is lt o y k)

    pub length_with : (k : K) (xs : List K) → has lt k xs ≡ false → length (with_key lt k xs) ≡ length xs + 1
    length_with k xs n = omega (arith, length-append (before lt k xs) (k ∷ after lt k xs), ap length (after_absent lt o k xs n), length_parts k xs)

    pub length_without : (k : K) (xs : List K) → Rising lt xs → has lt k xs ≡ true → length (without lt k xs) + 1 ≡ length xs
    length_without k [] u h = grind arith
    length_without k (x ∷ xs) u h = grind (arith, length_without k xs u.1, same_is lt o x k, above_absent lt x xs u.0, without_absent k xs)
