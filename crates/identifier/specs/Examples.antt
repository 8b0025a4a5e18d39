-- Worked examples of the rules.
use Rattle.std.specs.Prelude.{◌≡◌, ℕ, ◌%◌, Some, None, Ok, Err, codes, Option, Result}
use Rattle.refusal.specs.Numbers.{number_of}
use Rattle.refusal.specs.declared.Refusal.{Refusal}
use Rattle.identifier.specs.Counterparty.{as_number, counterparty_answer}
use Rattle.identifier.specs.Isin.{isin_answer}
use Rattle.identifier.specs.declared.counterparty.Counterparty.TheVariants.{Lei, Code}

-- the number of the refusal, where it is one
abbrev pub refused_with : Result Unit Refusal → Option ℕ
refused_with (Ok _) = None
refused_with (Err refusal) = Some (number_of refusal)

pub record Examples : Type 0 where
  pub isin_right : refused_with (isin_answer (codes "IE0000000004")) ≡ None
  pub isin_wrong_digit : refused_with (isin_answer (codes "IE0000000005")) ≡ Some 5
  pub isin_wrong_country : refused_with (isin_answer (codes "I00000000004")) ≡ Some 5
  pub isin_letters_exchanged : refused_with (isin_answer (codes "EI0000000004")) ≡ None
  pub lei_right : refused_with (counterparty_answer (Lei (codes "0000000000000000A089"))) ≡ None
  pub lei_wrong_digit : refused_with (counterparty_answer (Lei (codes "0000000000000000A088"))) ≡ Some 19
  pub lei_digits_97 : refused_with (counterparty_answer (Lei (codes "00000000000000006597"))) ≡ None
  pub lei_digits_00 : refused_with (counterparty_answer (Lei (codes "00000000000000006500"))) ≡ Some 19
  pub leaves_one_with_00 : as_number (codes "00000000000000006500") % 97 ≡ 1
  pub code_right : refused_with (counterparty_answer (Code (codes "IE19800101MARYOBRIEN"))) ≡ None
  pub code_filled_up : refused_with (counterparty_answer (Code (codes "7                   "))) ≡ None
  pub code_empty : refused_with (counterparty_answer (Code (codes "                    "))) ≡ Some 19
  pub code_broken : refused_with (counterparty_answer (Code (codes "MARY OBRIEN         "))) ≡ Some 19
