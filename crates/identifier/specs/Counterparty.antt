-- What names the other party to a trade: an LEI (ISO 17442) or a personal code.
use Rattle.std.specs.Prelude.{ℕ, ◌+◌, ◌*◌, ◌%◌, Bool, cond, ◌&&◌, List, take, drop, Some, None, Ok, Err, Option, Result, ◌==◌, nat_le, slice_index}
use Rattle.std.specs.Int.Digits.{number_from_digits}
use Rattle.std.specs.List.{prefix_len, list_all}
use Rattle.refusal.specs.declared.Refusal.{Refusal}
use Rattle.refusal.specs.declared.Refusal.TheVariants.{WrongCounterparty}
use Rattle.identifier.specs.Characters.{between, is_character, is_digit, is_space, value_of, in_digits}
use Rattle.identifier.specs.declared.counterparty.Counterparty.{Counterparty}
use Rattle.identifier.specs.declared.counterparty.Counterparty.TheVariants.{Lei, Code}

-- the letter by which each kind is known: N, and D
abbrev pub letter_of : Counterparty → ℕ
letter_of (Lei _) = 78
letter_of (Code _) = 68

-- the kind with a given letter, if there is one
abbrev pub with_letter : ℕ → List ℕ → Option Counterparty
with_letter letter text =
    cond (letter == 78) (Some (Lei text)) (cond (letter == 68) (Some (Code text)) None)

-- a text, each character written in digits, read as one decimal number
abbrev pub as_number : List ℕ → ℕ
as_number text = number_from_digits 10 (in_digits text)

-- the number that the two check digits make
abbrev pub check_number : List ℕ → ℕ
check_number text = 10 * value_of (slice_index text 18) + value_of (slice_index text 19)

-- eighteen characters and two digits, 02 to 98; the whole as a number leaves 1 on division by 97
abbrev pub is_lei : List ℕ → Bool
is_lei text =
    list_all is_character (take 18 text) && list_all is_digit (take 2 (drop 18 text)) && between 2 98 (check_number text) && as_number text % 97 == 1

-- one character or more, then spaces to the end
abbrev pub is_code : List ℕ → Bool
is_code text = nat_le 1 (prefix_len is_character text) && list_all is_space (drop (prefix_len is_character text) text)

-- each kind has its rule
unfoldable pub is_right : Counterparty → Bool
is_right (Lei text) = is_lei text
is_right (Code text) = is_code text

-- what is not right is refused as a wrong counterparty
abbrev pub counterparty_answer : Counterparty → Result Unit Refusal
counterparty_answer party = cond (is_right party) (Ok tt) (Err WrongCounterparty)
