-- What an ISIN is (ISO 6166).
use Rattle.std.specs.Prelude.{ℕ, ◌+◌, ◌*◌, ◌/◌, ◌%◌, Bool, true, false, cond, not, ◌&&◌, List, [], ◌∷◌, reverse, take, drop, Ok, Err, Result, ◌==◌, slice_index}
use Rattle.std.specs.List.{list_all}
use Rattle.refusal.specs.declared.Refusal.{Refusal}
use Rattle.refusal.specs.declared.Refusal.TheVariants.{WrongIsin}
use Rattle.identifier.specs.Characters.{is_letter, is_character, is_digit, value_of, in_digits}

-- a digit doubled counts with the sum of the digits of the product, any other with itself
abbrev pub weight : Bool → ℕ → ℕ
weight true d = 2 * d / 10 + 2 * d % 10
weight false d = d

-- every second digit is doubled, the first if doubled is true
abbrev pub weighed : Bool → List ℕ → ℕ
weighed doubled [] = 0
weighed doubled (d ∷ ds) = weight doubled d + weighed (not doubled) ds

-- the digits are weighed from the right
abbrev pub weighed_back : Bool → List ℕ → ℕ
weighed_back doubled ds = weighed doubled (reverse ds)

-- of the payload, in digits, the rightmost is doubled
abbrev pub payload_sum : List ℕ → ℕ
payload_sum payload = weighed_back true (in_digits payload)

-- the check digit lifts the sum of the payload to a multiple of ten
abbrev pub closes : List ℕ → ℕ → Bool
closes payload check = (payload_sum payload + value_of check) % 10 == 0

-- two letters, nine characters and the check digit
unfoldable pub is_isin : List ℕ → Bool
is_isin text =
    list_all is_letter (take 2 text) && list_all is_character (take 9 (drop 2 text)) && is_digit (slice_index text 11) && closes (take 11 text) (slice_index text 11)

-- what is no ISIN is refused as a wrong ISIN
abbrev pub isin_answer : List ℕ → Result Unit Refusal
isin_answer text = cond (is_isin text) (Ok tt) (Err WrongIsin)
