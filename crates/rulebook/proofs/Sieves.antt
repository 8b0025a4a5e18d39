-- What passes a test, of lists that are mapped or tested twice.
use Rattle.std.proofs.Common.{◌≡◌, zero, suc, Bool, true, false, cond, ◌&&◌, ◌⊎◌, List, [], ◌∷◌, map, Some, filter, refl, inl, inr, arith}
use Rattle.std.specs.List.{list_any, find, ContainsAt as Has, AllByRecursion as All}
use Rattle.std.proofs.lemmas.Bool.{or_parts}
use Rattle.std.proofs.lemmas.Bool.Decides.{nat_tests}
use Rattle.rulebook.specs.Lists.{passes}

module _ {X : Type 0} where
  pub all_of : (P : X → Type 0) → ((x : X) → P x) → (xs : List X) → All P xs
  all_of P f [] = tt
  all_of P f (x ∷ xs) = (f x, all_of P f xs)

  -- what follows from two facts of each, and from three
  pub all_two : (P Q R : X → Type 0) → ((x : X) → P x → Q x → R x) → (xs : List X) → All P xs → All Q xs → All R xs
  all_two P Q R f [] h k = tt
  all_two P Q R f (x ∷ xs) (p, h) (q, k) = (f x p q, all_two P Q R f xs h k)

  pub all_three : (P Q R S : X → Type 0) → ((x : X) → P x → Q x → R x → S x) → (xs : List X) → All P xs → All Q xs → All R xs → All S xs
  all_three P Q R S f xs h k l = all_two (λ x. R x → S x) R S (λ x g r. g r) xs (all_two P Q (λ x. R x → S x) f xs h k) l

  -- tests that agree on each
  pub kept_same : (p q : X → Bool) (xs : List X) → All (λ x. p x ≡ q x) xs → filter p xs ≡ filter q xs
  kept_same p q [] h = refl
  kept_same p q (x ∷ xs) (e, h) = simp (e, kept_same p q xs h)

  pub kept_all : (p : X → Bool) (xs : List X) → All (λ x. p x ≡ true) xs → filter p xs ≡ xs
  kept_all p [] h = refl
  kept_all p (x ∷ xs) (e, h) = simp (e, kept_all p xs h)

  pub kept_none : (p : X → Bool) (xs : List X) → All (λ x. p x ≡ false) xs → filter p xs ≡ []
  kept_none p [] h = refl
  kept_none p (x ∷ xs) (e, h) = simp e (kept_none p xs h)

  -- a test of two parts
  pub kept_both : (p q : X → Bool) (xs : List X) → filter (λ x. p x && q x) xs ≡ filter q (filter p xs)
  kept_both p q [] = refl
  kept_both p q (x ∷ xs) = grind (arith, nat_tests, kept_both p q xs)

  pub kept_map : {Y : Type 0} (p : X → Bool) (f : Y → X) (ys : List Y) → filter p (map f ys) ≡ map f (filter (λ y. p (f y)) ys)
  kept_map {Y = Y} p f [] = refl
  kept_map {Y = Y} p f (y ∷ ys) = grind (arith, nat_tests, kept_map p f ys)

  pub has_cases : (y : X) (ys : List X) (x : X) → Has (y ∷ ys) x → (y ≡ x) ⊎ Has ys x
  has_cases y ys x (zero, lt, at) = inl (at x)
  has_cases y ys x (suc k, lt, at) = inr (k, omega arith, at)

  pub has_first : (x : X) (xs : List X) → Has (x ∷ xs) x
  has_first x xs = (0, omega arith, λ d. refl)

  pub has_later : (y : X) (ys : List X) (x : X) → Has ys x → Has (y ∷ ys) x
  has_later y ys x (k, lt, at) = (suc k, omega arith, at)

  -- the first that passes is there and passes, or none does
  pub first_cases : (p : X → Bool) (xs : List X) → All (λ x. p x ≡ false) xs ⊎ ((x : X) × (find p xs ≡ Some x) × Has xs x × (p x ≡ true))
  first_cases p [] = inl tt
  first_cases p (x ∷ xs) = either (p x) refl (first_cases p xs)
    where
      either : (b : Bool) → p x ≡ b → All (λ y. p y ≡ false) xs ⊎ ((y : X) × (find p xs ≡ Some y) × Has xs y × (p y ≡ true))
          → All (λ y. p y ≡ false) (x ∷ xs) ⊎ ((y : X) × (cond b (Some x) (find p xs) ≡ Some y) × Has (x ∷ xs) y × (p y ≡ true))
      either true e h = inr (x, refl, has_first x xs, e)
      either false e (inl none) = inl (e, none)
      either false e (inr (y, f, at, q)) = inr (y, f, has_later x xs y at, q)

  pub some_none : (p : X → Bool) (xs : List X) → list_any p xs ≡ false → All (λ x. p x ≡ false) xs
  some_none p [] e = tt
  some_none p (x ∷ xs) e = let both = or_parts (p x) (list_any p xs) e in (both.0, some_none p xs both.1)

  pub passes_none : (q p : X → Bool) (xs : List X) → All (λ x. p x ≡ false) xs → passes q (find p xs) ≡ false
  passes_none q p [] h = refl
  passes_none q p (x ∷ xs) (e, h) = simp e (passes_none q p xs h)
