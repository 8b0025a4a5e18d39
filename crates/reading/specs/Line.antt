-- A line that holds a trade: `CLASS ADT PRICE QUANTITY EXECUTION CLOCK MARK`.
use Rattle.std.specs.Prelude.{ℕ, Bool, cond, not, ◌||◌, List, [], ◌∷◌, length, Some, None, codes, Option, Result, ◌==◌, nat_lt, slice_index_or}
use Rattle.std.specs.Str.{bytes_eq}
use Rattle.deferral.specs.declared.question.Class.{Class}
use Rattle.deferral.specs.declared.question.Class.TheVariants.{Equity, Etf}
use Rattle.reading.specs.declared.flaw.Field.{Field}
use Rattle.reading.specs.declared.flaw.Field.TheVariants as field
use Rattle.reading.specs.declared.flaw.Flaw.{Flaw}
use Rattle.reading.specs.declared.flaw.Flaw.TheVariants.{Missing, WrongClass, NoNumber, LeadingZero, TooLarge, WrongMark, TooManyWords}
use Rattle.reading.specs.declared.line.Asked.{Asked}
use Rattle.reading.specs.declared.number.NumberFlaw.{NumberFlaw}
use Rattle.reading.specs.declared.number.NumberFlaw.TheVariants as number
use Rattle.refusal.specs.Grounds.{unless}
use Rattle.reading.specs.Flaws.{flaw_if, first_flaw}
use Rattle.reading.specs.Number.{number_flaw, decimal_value}
use Rattle.reading.specs.Words.{words_of}

-- the word at a place, counted from 0; one that is not there is as an empty one
abbrev pub word_at : ℕ → List (List ℕ) → List ℕ
word_at place words = slice_index_or words place []

abbrev pub missing_flaw : Field → List ℕ → Option Flaw
missing_flaw field word = flaw_if (length word == 0) (Missing field)

-- CLASS is E or F
abbrev pub class_flaw : List ℕ → Option Flaw
class_flaw word =
    first_flaw (missing_flaw field.Class word ∷ flaw_if (not (bytes_eq word (codes "E") || bytes_eq word (codes "F"))) WrongClass ∷ [])

-- E is an equity, and F an ETF
abbrev pub class_of : List ℕ → Class
class_of word = cond (bytes_eq word (codes "E")) Equity Etf

-- MARK is D or N
abbrev pub mark_flaw : List ℕ → Option Flaw
mark_flaw word =
    first_flaw (missing_flaw field.Mark word ∷ flaw_if (not (bytes_eq word (codes "D") || bytes_eq word (codes "N"))) WrongMark ∷ [])

-- with D publication may be deferred, with N not
abbrev pub defers : List ℕ → Bool
defers word = bytes_eq word (codes "D")

-- what keeps a word from being a number, told of the word's field
abbrev pub told_of : Field → NumberFlaw → Flaw
told_of f number.Empty = Missing f
told_of f number.NoDigits = NoNumber f
told_of f number.LeadingZero = LeadingZero f
told_of f number.TooLarge = TooLarge f

abbrev pub flaw_of : Field → Option NumberFlaw → Option Flaw
flaw_of f None = None
flaw_of f (Some flaw) = Some (told_of f flaw)

abbrev pub field_flaw : Field → List ℕ → Option Flaw
field_flaw f word = flaw_of f (number_flaw word)

-- the flaws of a line from left to right, and last that it has more than seven words
abbrev pub line_flaws : List (List ℕ) → List (Option Flaw)
line_flaws words =
    class_flaw (word_at 0 words) ∷ field_flaw field.Daily (word_at 1 words) ∷ field_flaw field.Price (word_at 2 words)
    ∷ field_flaw field.Quantity (word_at 3 words) ∷ field_flaw field.Execution (word_at 4 words) ∷ field_flaw field.Clock (word_at 5 words)
    ∷ mark_flaw (word_at 6 words) ∷ flaw_if (nat_lt 7 (length words)) TooManyWords ∷ []

-- what a line without a flaw says
abbrev pub asked_in : List (List ℕ) → Asked
asked_in words = record {
  trade = record {
    class = class_of (word_at 0 words);
    daily = decimal_value (word_at 1 words);
    price = decimal_value (word_at 2 words);
    quantity = decimal_value (word_at 3 words);
    execution = decimal_value (word_at 4 words);
    deferrable = defers (word_at 6 words);
  };
  clock = decimal_value (word_at 5 words);
}

-- a line read: its first flaw, or the trade and the clock that it says
unfoldable pub line_read : List ℕ → Result Asked Flaw
line_read line = unless (first_flaw (line_flaws (words_of line))) (asked_in (words_of line))
