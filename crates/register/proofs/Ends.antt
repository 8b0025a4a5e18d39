-- The ends of a list that rises are its least and its greatest key, and so are the ends of a stretch.
use Rattle.std.proofs.Common.{◌≡◌, Bool, true, false, not, List, [], ◌∷◌, Some, None, Option, refl, ap, inl, inr, arith}
use Rattle.std.specs.List.{AllByRecursion as All}
use Rattle.std.proofs.ByRecursion.{All-weaker}
use Rattle.std.proofs.lemmas.Bool.{cases_Bool, not_from_false}
use Rattle.register.specs.Order.{Total}
use Rattle.register.specs.Lists.{Rising, before, from, between, first, last, if_before, if_from, Least, Greatest}
use Rattle.register.proofs.Totals.{past, one_way, same_self, same_is, same_not_before, same_not_after}
use Rattle.register.proofs.Members.{kept_all, kept_none, kept_turned, all_has}
use Rattle.register.proofs.Rises.{rising_kept_by}

module _ {K : Type 0} (lt : K → K → Bool) (o : Total lt) where
  pub least_first : (xs : List K) → Rising lt xs → Least lt xs (first xs)
  least_first [] u = λ k. refl
  least_first (x ∷ xs) u = (
    rw (same_self lt o x),
    λ k h. grind (arith, same_not_after lt x k, one_way lt o x k, all_has lt o (λ y. lt x y ≡ true) k xs u.0),
  )

  -- a key in front of others that come after it
  greatest_more : (x y : K) (ys : List K) (r : Option K) → All (λ z. lt x z ≡ true) (y ∷ ys) → Greatest lt (y ∷ ys) r → Greatest lt (x ∷ y ∷ ys) r
  greatest_more x y ys None a g = absurd (grind (arith, g y, same_self lt o y))
  greatest_more x y ys (Some z) a g = (
    grind (arith, g.0),
    λ k h. grind (arith, g.1 k, same_is lt o x k, one_way lt o x z, all_has lt o (λ w. lt x w ≡ true) z (y ∷ ys) a g.0),
  )

  pub greatest_last : (xs : List K) → Rising lt xs → Greatest lt xs (last xs)
  greatest_last [] u = λ k. refl
  greatest_last (x ∷ []) u = (rw (same_self lt o x), λ k h. grind (arith, same_not_before lt x k))
  greatest_last (x ∷ y ∷ ys) u = greatest_more x y ys (last (y ∷ ys)) u.0 (greatest_last (y ∷ ys) u.1)

  pub one_least : (xs : List K) (a b : Option K) → Least lt xs a → Least lt xs b → a ≡ b
  one_least xs None None p q = refl
  one_least xs None (Some y) p q = absurd (grind (arith, p y))
  one_least xs (Some x) None p q = absurd (grind (arith, q x))
  one_least xs (Some x) (Some y) p q = ap Some (o.one x y (q.1 x p.0) (p.1 y q.0))

  pub one_greatest : (xs : List K) (a b : Option K) → Greatest lt xs a → Greatest lt xs b → a ≡ b
  one_greatest xs None None p q = refl
  one_greatest xs None (Some y) p q = absurd (grind (arith, p y))
  one_greatest xs (Some x) None p q = absurd (grind (arith, q x))
  one_greatest xs (Some x) (Some y) p q = ap Some (o.one x y (p.1 y q.0) (q.1 x p.0))

  -- ---- a stretch

  pub first_before : (high : K) (xs : List K) → Rising lt xs → if_before lt high (first xs) ≡ first (before lt high xs)
  first_before high [] u = refl
  first_before high (x ∷ xs) u =
      elim (cases_Bool (lt x high)) [
        | inl b ↦ rw b
        | inr b ↦ rw (b, kept_none (λ y. lt y high) xs (All-weaker (λ y. lt x y ≡ true) (λ y. lt y high ≡ false) (λ y e. past lt o x y high e b) xs u.0))
      ]

  -- where the first is from `low` on, all are
  all_from : (low x : K) (xs : List K) → All (λ y. lt x y ≡ true) xs → lt x low ≡ false → from lt low xs ≡ xs
  all_from low x xs a b =
      kept_all (λ y. not (lt y low)) xs (All-weaker (λ y. lt x y ≡ true) (λ y. not (lt y low) ≡ true) (λ y e. not_from_false (lt y low) (past lt o x y low e b)) xs a)

  pub last_from : (low : K) (xs : List K) → Rising lt xs → if_from lt low (last xs) ≡ last (from lt low xs)
  last_from low [] u = refl
  last_from low (x ∷ []) u = grind arith
  last_from low (x ∷ y ∷ ys) u = grind (arith, last_from low (y ∷ ys) u.1, all_from low x (y ∷ ys) u.0)

  pub least_between : (low high : K) (xs : List K) → Rising lt xs → Least lt (between lt low high xs) (if_before lt high (first (from lt low xs)))
  least_between low high xs u =
      let v = rising_kept_by lt (λ x. not (lt x low)) xs u in
      rw (first_before high (from lt low xs) v) (least_first (between lt low high xs) (rising_kept_by lt (λ x. lt x high) (from lt low xs) v))

  pub greatest_between : (low high : K) (xs : List K) → Rising lt xs → Greatest lt (between lt low high xs) (if_from lt low (last (before lt high xs)))
  greatest_between low high xs u =
      let v = rising_kept_by lt (λ x. lt x high) xs u in
      rw (last_from low (before lt high xs) v, kept_turned (λ x. lt x high) (λ x. not (lt x low)) xs) (greatest_last (from lt low (before lt high xs)) (rising_kept_by lt (λ x. not (lt x low)) (before lt high xs) v))
