-- The decimal value of a word, digit by digit.
use Rattle.std.proofs.Common.{◌≡◌, ℕ, ◌+◌, ◌*◌, ◌<◌, ◌≤◌, List, map, length, get_or, drop, arith}
use Rattle.std.proofs.lemmas.Int.Digits.{number_after_ge}
use Rattle.std.proofs.lemmas.List.{at_drop_more, at_drop_all}
use Rattle.std.specs.Int.Digits.{number_from_digits_after}
use Rattle.reading.specs.Number.{digit_of}

-- the value of the digits from place i on, read after n
abbrev pub value_from : ℕ → ℕ → List ℕ → ℕ
value_from n i word = number_from_digits_after 10 n (map digit_of (drop i word))

-- one digit on
pub value_more : (word : List ℕ) (i n : ℕ) → i < length word → value_from n i word ≡ value_from (n * 10 + digit_of (get_or word i 0)) (i + 1) word
value_more word i n h = at_drop_more (λ rest. number_from_digits_after 10 n (map digit_of rest)) word i 0 h

-- past the last digit
pub value_all : (word : List ℕ) (i n : ℕ) → length word ≤ i → value_from n i word ≡ n
value_all word i n h = at_drop_all (λ rest. number_from_digits_after 10 n (map digit_of rest)) word i h

-- a number never falls as digits are added
pub value_ge : (word : List ℕ) (i n : ℕ) → n ≤ value_from n i word
value_ge word i n = number_after_ge 10 n (map digit_of (drop i word)) (omega arith)
