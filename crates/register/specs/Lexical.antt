-- The order of a dictionary is total, and so is the order of every kind of key by fields that tell its keys apart.
use Rattle.std.specs.Prelude.{◌≡◌, ℕ, ◌<◌, true, false, ◌⊎◌, List, [], ◌∷◌, refl}
use Rattle.std.proofs.Common.{sym, ◌∙◌, inl, inr, ⊎_elim, arith}
use Rattle.std.proofs.lemmas.Bool.{cases_order, both_ways}
use Rattle.std.proofs.lemmas.Bool.Decides.{nat_tests}
use Rattle.register.specs.Order.{Total}
use Rattle.register.specs.Fields.{lexical, by_fields, Telling}

-- what a smaller, a larger and an equal first number make of it
smaller : (x y : ℕ) (xs ys : List ℕ) → x < y → lexical (x ∷ xs) (y ∷ ys) ≡ true
smaller x y xs ys h = grind (arith, nat_tests)

larger : (x y : ℕ) (xs ys : List ℕ) → y < x → lexical (x ∷ xs) (y ∷ ys) ≡ false
larger x y xs ys h = grind (arith, nat_tests)

level : (x y : ℕ) (xs ys : List ℕ) → x ≡ y → lexical (x ∷ xs) (y ∷ ys) ≡ lexical xs ys
level x y xs ys e = grind (arith, nat_tests)

-- of two lists of which one is before the other, the first numbers rise, or are equal and the rest decides
decided : (x y : ℕ) (xs ys : List ℕ) → lexical (x ∷ xs) (y ∷ ys) ≡ true → (x < y) ⊎ ((x ≡ y) × (lexical xs ys ≡ true))
decided x y xs ys t =
    ⊎_elim
    (λ (e : x ≡ y). inr (e, sym (level x y xs ys e) ∙ t))
    (⊎_elim (λ (l : x < y). inl l) (λ (m : y < x). absurd (both_ways (lexical (x ∷ xs) (y ∷ ys)) (larger x y xs ys m) t)))
    (cases_order x y)

never : (xs : List ℕ) → lexical xs xs ≡ false
never [] = refl
never (x ∷ xs) = grind (arith, nat_tests, never xs)

onward : (xs ys zs : List ℕ) → lexical xs ys ≡ true → lexical ys zs ≡ true → lexical xs zs ≡ true
onward [] [] zs p q = absurd cc
onward [] (y ∷ ys) [] p q = absurd cc
onward [] (y ∷ ys) (z ∷ zs) p q = refl
onward (x ∷ xs) [] zs p q = absurd cc
onward (x ∷ xs) (y ∷ ys) [] p q = absurd cc
onward (x ∷ xs) (y ∷ ys) (z ∷ zs) p q = grind (arith, nat_tests, onward xs ys zs)

one : (xs ys : List ℕ) → lexical xs ys ≡ false → lexical ys xs ≡ false → xs ≡ ys
one [] [] p q = refl
one [] (y ∷ ys) p q = absurd cc
one (x ∷ xs) [] p q = absurd cc
one (x ∷ xs) (y ∷ ys) p q = grind (arith, nat_tests, one xs ys)

pub total_by_fields : {K : Type 0} (fields : K → List ℕ) → Telling fields → Total (by_fields fields)
total_by_fields fields tells = record {
  never = λ x. never (fields x);
  onward = λ x y z. onward (fields x) (fields y) (fields z);
  one = λ x y p q. tells x y (one (fields x) (fields y) p q);
}
