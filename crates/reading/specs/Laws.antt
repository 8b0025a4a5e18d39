-- What follows from the definitions of numbers and words.
use Rattle.std.specs.Prelude.{◌≡◌, ℕ, ◌^◌, ◌<◌, true, not, List, Ok, decimal}
use Rattle.std.specs.List.{join_with_byte, list_all, AllByRecursion}
use Rattle.reading.specs.Number.{number_read}
use Rattle.reading.specs.Words.{is_space, words_of}

-- a number is read from what is written of it, and from nothing else; words joined by spaces are the line, and hold no space
pub record Laws : Type 0 where
  pub written_is_read : (n : ℕ) → n < 2 ^ 64 → number_read (decimal n) ≡ Ok n
  pub read_is_written : (word : List ℕ) (n : ℕ) → number_read word ≡ Ok n → word ≡ decimal n
  pub words_joined : (line : List ℕ) → join_with_byte 32 (words_of line) ≡ line
  pub words_solid : (line : List ℕ) → AllByRecursion (λ word. list_all (λ c. not (is_space c)) word ≡ true) (words_of line)
