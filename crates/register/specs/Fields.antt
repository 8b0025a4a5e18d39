-- Lists of numbers in the order of a dictionary: the order of a key by its fields.
use Rattle.std.specs.Prelude.{◌≡◌, ℕ, Bool, true, false, cond, List, [], ◌∷◌, nat_lt}

-- the first number that differs decides, and a list is before each that goes on where it ends
abbrev pub lexical : List ℕ → List ℕ → Bool
lexical [] [] = false
lexical [] (y ∷ ys) = true
lexical (x ∷ xs) [] = false
lexical (x ∷ xs) (y ∷ ys) = cond (nat_lt x y) true (cond (nat_lt y x) false (lexical xs ys))

-- keys by the order of their fields
abbrev pub by_fields : {K : Type 0} → (K → List ℕ) → K → K → Bool
by_fields fields x y = lexical (fields x) (fields y)

-- the fields tell every two keys apart
abbrev pub Telling : {K : Type 0} → (K → List ℕ) → Type 0
Telling {K} fields = (x y : K) → fields x ≡ fields y → x ≡ y
