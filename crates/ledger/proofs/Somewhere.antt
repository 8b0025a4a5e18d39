-- Whether some element of a list passes a test.
use Rattle.std.proofs.Common.{◌≡◌, Bool, true, false, cond, ◌&&◌, ◌||◌, List, [], ◌∷◌, ◌++◌, map, filter, refl, ap, arith}
use Rattle.std.proofs.lemmas.Bool.Decides.{nat_tests}
use Rattle.std.specs.List.{list_any, AllByRecursion as All}
use Rattle.std.proofs.lemmas.List.Folds.{list_any-append}

pub and_false : (b : Bool) → (b && false) ≡ false
and_false true = refl
and_false false = refl

module _ {X : Type 0} where
  pub some_push : (p : X → Bool) (xs : List X) (x : X) → list_any p (xs ++ x ∷ []) ≡ (p x || list_any p xs)
  some_push p xs x = grind (arith, nat_tests, list_any-append p xs (x ∷ []))

  pub some_map : (p : X → Bool) (h : X → X) (xs : List X) → list_any p (map h xs) ≡ list_any (λ x. p (h x)) xs
  some_map p h [] = refl
  some_map p h (x ∷ xs) = ap (λ b. p (h x) || b) (some_map p h xs)

  -- of those that pass another test
  pub some_kept : (p q : X → Bool) (xs : List X) → list_any q (filter p xs) ≡ list_any (λ x. p x && q x) xs
  some_kept p q [] = refl
  some_kept p q (x ∷ xs) =
      elim (p x) as (λ b. list_any q (cond b (x ∷ filter p xs) (filter p xs)) ≡ ((b && q x) || list_any (λ y. p y && q y) xs)) [
        | true ↦ ap (λ b. q x || b) (some_kept p q xs)
        | false ↦ some_kept p q xs
      ]

  -- each passes where a condition holds and it passes another test
  pub some_and : (b : Bool) (p q : X → Bool) (xs : List X) → All (λ x. p x ≡ (b && q x)) xs → list_any p xs ≡ (b && list_any q xs)
  some_and true p q [] h = refl
  some_and false p q [] h = refl
  some_and b p q (x ∷ xs) h = grind (arith, nat_tests, h.0, some_and b p q xs h.1)

  -- each passes where it is one of some and a condition holds, or where it passes another test
  pub some_or : (b : Bool) (p r q : X → Bool) (xs : List X) → All (λ x. p x ≡ ((r x && b) || q x)) xs → list_any p xs ≡ ((list_any r xs && b) || list_any q xs)
  some_or b p r q [] h = refl
  some_or b p r q (x ∷ xs) h = grind (arith, nat_tests, h.0, some_or b p r q xs h.1)

  -- where one passes, one passes what follows from it
  pub some_where : (p q : X → Bool) (xs : List X) → All (λ x. p x ≡ true → q x ≡ true) xs → list_any p xs ≡ true → list_any q xs ≡ true
  some_where p q [] h e = e
  some_where p q (x ∷ xs) h e = grind (arith, nat_tests, h.0, e, some_where p q xs h.1)
