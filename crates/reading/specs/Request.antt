-- The words after the name of a program that prints trading years: `YEAR`, `YEAR --days` or `FIRST LAST --days`.
use Rattle.std.specs.Prelude.{ℕ, Bool, cond, not, ◌&&◌, List, [], ◌∷◌, Some, None, Err, codes, Option, Result, nat_le, nat_lt}
use Rattle.std.specs.Str.{bytes_eq}
use Rattle.reading.specs.declared.number.NumberFlaw.{NumberFlaw}
use Rattle.reading.specs.declared.request.Fault.{Fault}
use Rattle.reading.specs.declared.request.Fault.TheVariants.{NoYear, NoNumber, OutOfRange, Backwards, TooManyWords}
use Rattle.reading.specs.declared.request.Request.{Request}
use Rattle.reading.specs.declared.request.Request.TheVariants.{Page, Days}
use Rattle.refusal.specs.Grounds.{unless}
use Rattle.reading.specs.Flaws.{flaw_if, first_flaw}
use Rattle.reading.specs.Number.{number_flaw, decimal_value}

-- the years of the calendar by rule
abbrev pub is_year : ℕ → Bool
is_year n = nat_le 2000 n && nat_le n 2199

-- whatever keeps a word from being a number is told alike
abbrev pub no_number : Option NumberFlaw → Option Fault
no_number None = None
no_number (Some flaw) = Some NoNumber

abbrev pub year_fault : List ℕ → Option Fault
year_fault word =
    first_flaw (no_number (number_flaw word) ∷ flaw_if (not (is_year (decimal_value word))) (OutOfRange (decimal_value word)) ∷ [])

-- a page for one year
abbrev pub page_read : List ℕ → Result Request Fault
page_read word = unless (year_fault word) (Page (decimal_value word))

-- the first year is not after the last
abbrev pub span_fault : ℕ → ℕ → Option Fault
span_fault first last = flaw_if (nat_lt last first) (Backwards first last)

-- a line for each day, from the first year to the last
abbrev pub days_read : List ℕ → List ℕ → Result Request Fault
days_read first last =
    unless (first_flaw (year_fault first ∷ year_fault last ∷ span_fault (decimal_value first) (decimal_value last) ∷ [])) (Days (decimal_value first) (decimal_value last))

-- the mark that asks for days
abbrev pub asks_days : List ℕ → Bool
asks_days word = bytes_eq word (codes "--days")

-- a single word
abbrev pub one_read : List ℕ → Result Request Fault
one_read word = cond (asks_days word) (Err NoYear) (page_read word)

-- two years, and the word behind them
abbrev pub marked_read : List ℕ → List ℕ → List ℕ → Result Request Fault
marked_read first last mark = cond (asks_days mark) (days_read first last) (Err TooManyWords)

-- what the words ask for; a single year with the mark is the first and the last
unfoldable pub request_read : List (List ℕ) → Result Request Fault
request_read [] = Err NoYear
request_read (word ∷ []) = one_read word
request_read (year ∷ mark ∷ []) = marked_read year year mark
request_read (first ∷ last ∷ mark ∷ []) = marked_read first last mark
request_read (first ∷ last ∷ mark ∷ further ∷ words) = Err TooManyWords
