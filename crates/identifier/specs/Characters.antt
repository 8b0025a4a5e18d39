-- The characters that identifiers are written in, and the digits that they stand for.
use Rattle.std.specs.Prelude.{ℕ, ◌+◌, ◌-◌, ◌/◌, ◌%◌, Bool, cond, not, ◌&&◌, ◌||◌, List, [], ◌∷◌, ◌==◌, nat_le}
use Rattle.std.specs.List.{flat_map}
use Rattle.identifier.specs.declared.class.Class.{Class}
use Rattle.identifier.specs.declared.class.Class.TheVariants.{Letter, Digit, Character, Space, Solid}

-- n is one of the numbers from low to high
abbrev pub between : ℕ → ℕ → ℕ → Bool
between low high n = nat_le low n && nat_le n high

-- A to Z
abbrev pub is_letter : ℕ → Bool
is_letter c = between 65 90 c

-- 0 to 9
abbrev pub is_digit : ℕ → Bool
is_digit c = between 48 57 c

-- 0 to 9 or A to Z
abbrev pub is_character : ℕ → Bool
is_character c = is_digit c || is_letter c

-- the byte that fills up
abbrev pub is_space : ℕ → Bool
is_space c = c == 32

-- which bytes are of a class
abbrev pub belongs : Class → ℕ → Bool
belongs Letter c = is_letter c
belongs Digit c = is_digit c
belongs Character c = is_character c
belongs Space c = is_space c
belongs Solid c = not (is_space c)

-- A stands for 10, B for 11, and so on to Z for 35; a digit stands for itself
abbrev pub value_of : ℕ → ℕ
value_of c = cond (is_letter c) (c - 65 + 10) (c - 48)

-- a letter is written with two digits, a digit with one
abbrev pub digits_of : ℕ → List ℕ
digits_of c = cond (is_letter c) (value_of c / 10 ∷ value_of c % 10 ∷ []) (value_of c ∷ [])

-- a text with each character written in digits
abbrev pub in_digits : List ℕ → List ℕ
in_digits text = flat_map digits_of text
