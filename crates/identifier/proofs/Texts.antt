-- A text written in digits, read as a number, one character on.
use Rattle.std.proofs.Common.{◌≡◌, ℕ, ◌+◌, ◌*◌, ◌/◌, ◌%◌, Bool, true, false, cond, List, [], ◌∷◌, ◌++◌, sym, refl, ap, ◌∙◌, arith}
use native.Mathlib.Nat.{mod-add-mod}
use Rattle.std.proofs.lemmas.Int.Digits.{number_after_append}
use Rattle.std.proofs.lemmas.Nat.{mul-mod_first}
use Rattle.std.specs.Int.Digits.{number_from_digits, number_from_digits_after}
use Rattle.identifier.specs.Characters.{is_letter, value_of, digits_of}

-- the one or two digits of a character, read after n
shifted : (letter : Bool) (n v : ℕ) → number_from_digits_after 10 n (cond letter (v / 10 ∷ v % 10 ∷ []) (v ∷ [])) ≡ n * cond letter 100 10 + v
shifted true n v = omega arith
shifted false n v = refl

-- a letter moves the digits before it by two places, a digit by one
number_after : (ds : List ℕ) (c : ℕ) → number_from_digits 10 (ds ++ digits_of c) ≡ number_from_digits 10 ds * cond (is_letter c) 100 10 + value_of c
number_after ds c = number_after_append 10 0 ds (digits_of c) ∙ shifted (is_letter c) (number_from_digits 10 ds) (value_of c)

-- a number may be kept as its remainder
kept : (m x k v : ℕ) → (x % m * k + v) % m ≡ (x * k + v) % m
kept m x k v = sym (mod-add-mod (x % m * k) m v) ∙ ap (λ n. (n + v) % m) (mul-mod_first x k m) ∙ mod-add-mod (x * k) m v

-- what is kept of the number on division by m, one character on
pub kept_after : (m : ℕ) (ds : List ℕ) (c r k v : ℕ) → r ≡ number_from_digits 10 ds % m → k ≡ cond (is_letter c) 100 10 → v ≡ value_of c → (r * k + v) % m ≡ number_from_digits 10 (ds ++ digits_of c) % m
kept_after m ds c r k v e shift value = rw (e, shift, value) (kept m (number_from_digits 10 ds) _ _ ∙ ap (λ n. n % m) (sym (number_after ds c)))
