-- What the calls that read find.
use Rattle.std.proofs.Common.{◌≡◌, ℕ, suc, ◌-◌, ◌≤◌, Bool, List, [], ◌∷◌, length, take, drop, Option, sym, refl, ap, ◌∙◌, arith}
use Rattle.std.specs.List.{slice_get}
use Rattle.std.proofs.lemmas.List.{length-take-le}
use Rattle.register.specs.Order.{Total}
use Rattle.register.specs.Lists.{Rising, before, from, first, last}
use Rattle.register.specs.Places.{Cut}
use Rattle.register.specs.Calls.{Smallest, Largest, FirstFrom, LastBefore}
use Rattle.register.proofs.Ends.{least_first, greatest_last, least_between, greatest_between}

pub first_of : {X : Type 0} (xs : List X) → slice_get xs 0 ≡ first xs
first_of [] = refl
first_of (x ∷ xs) = refl

last_at : {X : Type 0} (xs : List X) (n : ℕ) → n ≡ length xs → slice_get xs (n - 1) ≡ last xs
last_at [] n e = refl
last_at (x ∷ []) n e = let z : n - 1 ≡ 0 = omega arith in ap (slice_get (x ∷ [])) z
last_at (x ∷ y ∷ ys) n e = let z : n - 1 ≡ suc (n - 1 - 1) = omega arith in ap (slice_get (x ∷ y ∷ ys)) z ∙ last_at (y ∷ ys) (n - 1) (omega arith)

pub last_of : {X : Type 0} (xs : List X) → slice_get xs (length xs - 1) ≡ last xs
last_of xs = last_at xs (length xs) refl

module _ {K : Type 0} (lt : K → K → Bool) (o : Total lt) where
  pub smallest_is : (xs : List K) (found : Option K) → Rising lt xs → found ≡ first xs → Smallest lt xs found
  smallest_is xs found u is = rw is (record { value = refl; least = least_first lt o xs u })

  pub largest_is : (xs : List K) (found : Option K) → Rising lt xs → found ≡ last xs → Largest lt xs found
  largest_is xs found u is = rw is (record { value = refl; greatest = greatest_last lt o xs u })

  pub first_from_is : (low : K) (xs : List K) (found : Option K) (at : ℕ) → Rising lt xs → Cut lt low xs at → found ≡ first (drop at xs) → FirstFrom lt low xs found
  first_from_is low xs found at u c e =
      let is : found ≡ first (from lt low xs) = e ∙ ap first (sym c.high) in
      rw is (record { value = refl; least = λ high. least_between lt o low high xs u })

  pub last_before_is : (high : K) (xs : List K) (found : Option K) (at : ℕ) → Rising lt xs → Cut lt high xs at → found ≡ last (take at xs) → LastBefore lt high xs found
  last_before_is high xs found at u c e =
      let is : found ≡ last (before lt high xs) = e ∙ ap last (sym c.low) in
      rw is (record { value = refl; greatest = λ low. greatest_between lt o low high xs u })

-- how many keys are before a bound
pub count_is : {K : Type 0} (lt : K → K → Bool) (high : K) (xs : List K) (at : ℕ) → Cut lt high xs at → at ≤ length xs → at ≡ length (before lt high xs)
count_is lt high xs at c l = rw c.low (sym (length-take-le at xs l))
