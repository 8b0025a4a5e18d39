-- What callers may use of every register, whatever its layout.
use Rattle.std.specs.Prelude.{◌≡◌, ◌+◌, ◌≤◌, Bool, true, false, not, ◌&&◌, ◌||◌, List, length, Option}
use Rattle.register.specs.declared.Register.{Register}
use Rattle.register.specs.Order.{same}
use Rattle.register.specs.Lists.{Rising, has, before, from, with_key, without, Least, Greatest}
use Rattle.register.specs.Kept.{kept, Stands}

pub record Laws {K : Type 0} (lt : K → K → Bool) : Type 0 where
  -- the keys of a register that stands rise, and each has a place in the memory
  pub rise : (register : Register K) (memory : List K) → Stands lt register memory → Rising lt (kept register memory)
  pub fit : (register : Register K) (memory : List K) → Stands lt register memory → length (kept register memory) ≤ length memory
  -- two keys are the same where they are equal
  pub same_is : (x y : K) → same lt x y ≡ true → x ≡ y
  pub same_self : (x : K) → same lt x x ≡ true
  -- which keys are in says which list it is
  pub determined : (xs ys : List K) → Rising lt xs → Rising lt ys → ((k : K) → has lt k xs ≡ has lt k ys) → xs ≡ ys
  -- which keys are in a list with k, without k, from k on and before k
  pub has_with : (k j : K) (xs : List K) → has lt j (with_key lt k xs) ≡ (same lt k j || has lt j xs)
  pub has_without : (k j : K) (xs : List K) → has lt j (without lt k xs) ≡ (not (same lt k j) && has lt j xs)
  pub has_from : (k j : K) (xs : List K) → has lt j (from lt k xs) ≡ (not (lt j k) && has lt j xs)
  pub has_before : (k j : K) (xs : List K) → has lt j (before lt k xs) ≡ (lt j k && has lt j xs)
  -- a key that enters or leaves counts one, and those that a drop takes out and leaves are all
  pub length_with : (k : K) (xs : List K) → has lt k xs ≡ false → length (with_key lt k xs) ≡ length xs + 1
  pub length_without : (k : K) (xs : List K) → Rising lt xs → has lt k xs ≡ true → length (without lt k xs) + 1 ≡ length xs
  pub length_parts : (k : K) (xs : List K) → length (before lt k xs) + length (from lt k xs) ≡ length xs
  -- a list has one least key and one greatest, or none
  pub one_least : (xs : List K) (a b : Option K) → Least lt xs a → Least lt xs b → a ≡ b
  pub one_greatest : (xs : List K) (a b : Option K) → Greatest lt xs a → Greatest lt xs b → a ≡ b
