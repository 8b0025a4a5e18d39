-- Worked examples of how numbers, lines and requests are read.
use Rattle.std.specs.Prelude.{◌≡◌, true, [], ◌∷◌, Ok, Err, codes}
use Rattle.deferral.specs.declared.question.Class.TheVariants.{Equity}
use Rattle.reading.specs.declared.flaw.Field.TheVariants.{Daily, Execution, Mark}
use Rattle.reading.specs.declared.flaw.Flaw.TheVariants as flaw
use Rattle.reading.specs.declared.number.NumberFlaw.TheVariants as number
use Rattle.reading.specs.declared.request.Fault.TheVariants as fault
use Rattle.reading.specs.declared.request.Request.TheVariants.{Page, Days}
use Rattle.reading.specs.Line.{line_read}
use Rattle.reading.specs.Number.{number_read}
use Rattle.reading.specs.Request.{request_read}
use Rattle.reading.specs.Words.{words_of}

pub record Examples : Type 0 where
  pub zero_alone : number_read (codes "0") ≡ Ok 0
  pub largest : number_read (codes "18446744073709551615") ≡ Ok 18446744073709551615
  pub one_more : number_read (codes "18446744073709551616") ≡ Err number.TooLarge
  pub padded : number_read (codes "050") ≡ Err number.LeadingZero
  pub signed : number_read (codes "+1") ≡ Err number.NoDigits
  pub nothing : number_read [] ≡ Err number.Empty
  pub two_spaces : words_of (codes "a  b") ≡ codes "a" ∷ [] ∷ codes "b" ∷ []
  pub no_byte : words_of [] ≡ [] ∷ []
  pub trade : line_read (codes "E 50000 10000 15000 60 120 D") ≡ Ok (record { trade = record { class = Equity; daily = 50000; price = 10000; quantity = 15000; execution = 60; deferrable = true }; clock = 120 })
  pub leftmost : line_read (codes "E 050 10000 -1 60 120 X") ≡ Err (flaw.LeadingZero Daily)
  pub empty_word : line_read (codes "E 50000 10000 15000  60 120 D") ≡ Err (flaw.Missing Execution)
  pub too_few : line_read (codes "E 50000 10000 15000 60 120") ≡ Err (flaw.Missing Mark)
  pub too_many : line_read (codes "E 50000 10000 15000 60 120 D ") ≡ Err flaw.TooManyWords
  pub page : request_read (codes "2018" ∷ []) ≡ Ok (Page 2018)
  pub days : request_read (codes "2018" ∷ codes "--days" ∷ []) ≡ Ok (Days 2018 2018)
  pub span : request_read (codes "2018" ∷ codes "2020" ∷ codes "--days" ∷ []) ≡ Ok (Days 2018 2020)
  pub backwards : request_read (codes "2020" ∷ codes "2018" ∷ codes "--days" ∷ []) ≡ Err (fault.Backwards 2020 2018)
  pub too_late : request_read (codes "2200" ∷ []) ≡ Err (fault.OutOfRange 2200)
