-- Numbers in decimal digits.
use Rattle.std.specs.Prelude.{ℕ, ◌-◌, ◌^◌, Bool, cond, not, ◌&&◌, List, [], ◌∷◌, map, length, Some, None, Option, Result, ◌==◌, nat_le, nat_lt, slice_index}
use Rattle.std.specs.Int.Digits.{number_from_digits}
use Rattle.std.specs.List.{list_all}
use Rattle.reading.specs.declared.number.NumberFlaw.{NumberFlaw}
use Rattle.reading.specs.declared.number.NumberFlaw.TheVariants.{Empty, NoDigits, LeadingZero, TooLarge}
use Rattle.refusal.specs.Grounds.{unless}
use Rattle.reading.specs.Flaws.{flaw_if, first_flaw}

-- 0 to 9
abbrev pub is_digit : ℕ → Bool
is_digit c = nat_le 48 c && nat_le c 57

-- what a digit stands for
abbrev pub digit_of : ℕ → ℕ
digit_of c = c - 48

-- the decimal value of a word, its first digit weighing most
abbrev pub decimal_value : List ℕ → ℕ
decimal_value word = number_from_digits 10 (map digit_of word)

-- the single digit 0 has no leading zero
abbrev pub leads_with_zero : List ℕ → Bool
leads_with_zero word = nat_lt 1 (length word) && slice_index word 0 == 48

-- a number has at most 64 bits
abbrev pub fits : ℕ → Bool
fits n = nat_lt n (2 ^ 64)

-- a number, where it fits
abbrev pub fitting : ℕ → Option ℕ
fitting n = cond (fits n) (Some n) None

-- what keeps a word from being a number, the first first
abbrev pub number_flaw : List ℕ → Option NumberFlaw
number_flaw word =
    first_flaw
    (flaw_if (length word == 0) Empty ∷ flaw_if (not (list_all is_digit word)) NoDigits
    ∷ flaw_if (leads_with_zero word) LeadingZero ∷ flaw_if (not (fits (decimal_value word))) TooLarge ∷ [])

-- a word read as a number
abbrev pub number_read : List ℕ → Result ℕ NumberFlaw
number_read word = unless (number_flaw word) (decimal_value word)
