-- What is found of a line: a word that says what the text after it should be, one space, and the text.
use Rattle.std.specs.Prelude.{ℕ, ◌+◌, ◌-◌, cond, not, List, ◌++◌, length, take, drop, replicate, codes, Err, Result, ◌==◌}
use Rattle.std.specs.List.{prefix_len}
use Rattle.std.specs.Str.{bytes_eq}
use Rattle.identifier.specs.Characters.{between, is_space}
use Rattle.identifier.specs.Counterparty.{counterparty_answer}
use Rattle.identifier.specs.Isin.{isin_answer}
use Rattle.identifier.specs.declared.counterparty.Counterparty.TheVariants.{Lei, Code}
use Rattle.identifier.specs.Verdict.{verdict_of}
use Rattle.identifier.specs.declared.flaw.Flaw.{Flaw}
use Rattle.identifier.specs.declared.flaw.Flaw.TheVariants.{WrongLength, WrongWord}

-- how many bytes stand before the first space
abbrev pub word_length : List ℕ → ℕ
word_length line = prefix_len (λ c. not (is_space c)) line

-- the bytes before the first space
abbrev pub word_of : List ℕ → List ℕ
word_of line = take (word_length line) line

-- the bytes after the first space
abbrev pub text_of : List ℕ → List ℕ
text_of line = drop (word_length line + 1) line

-- a text, then spaces up to size bytes
abbrev pub filled_up : ℕ → List ℕ → List ℕ
filled_up size text = text ++ replicate (size - length text) 32

-- an ISIN has 12 bytes
abbrev pub isin_verdict : List ℕ → Result Unit Flaw
isin_verdict text = cond (length text == 12) (verdict_of (isin_answer text)) (Err WrongLength)

-- an LEI has 20 bytes
abbrev pub lei_verdict : List ℕ → Result Unit Flaw
lei_verdict text = cond (length text == 20) (verdict_of (counterparty_answer (Lei text))) (Err WrongLength)

-- a personal code has 1 to 20 bytes
abbrev pub code_verdict : List ℕ → Result Unit Flaw
code_verdict text = cond (between 1 20 (length text)) (verdict_of (counterparty_answer (Code (filled_up 20 text)))) (Err WrongLength)

-- the word says what the text should be
abbrev pub judged_as : List ℕ → List ℕ → Result Unit Flaw
judged_as word text =
    cond (bytes_eq word (codes "ISIN")) (isin_verdict text)
    (cond (bytes_eq word (codes "LEI")) (lei_verdict text)
    (cond (bytes_eq word (codes "CODE")) (code_verdict text) (Err WrongWord)))

-- what is found of a line
abbrev pub judged : List ℕ → Result Unit Flaw
judged line = judged_as (word_of line) (text_of line)
