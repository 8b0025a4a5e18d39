-- Numbers as they are written.
use Rattle.std.proofs.Common.{◌≡◌, ℕ, ◌^◌, ◌<◌, Bool, true, false, not, eqb, List, [], ◌∷◌, map, length, get_or, Ok, decimal, Result, sym, refl, ap, ◌∙◌, ⊎_elim, arith, rules}
use Rattle.std.proofs.lemmas.Fmt as decimals
use Rattle.std.proofs.lemmas.Str.Parse.{IsNumeralModel, numerals_by_fold}
use Rattle.std.proofs.lemmas.Bool.{cases_lt}
use Rattle.std.proofs.lemmas.Bool.Decides.{nat_tests}
use Rattle.std.specs.Int.Digits.{number_from_digits_after}
use Rattle.std.specs.List.{list_all}
use Rattle.reading.specs.declared.number.NumberFlaw.{NumberFlaw}
use Rattle.reading.specs.declared.number.NumberFlaw.TheVariants.{Empty, NoDigits, LeadingZero, TooLarge}
use Rattle.refusal.specs.Grounds.{unless}
use Rattle.reading.specs.Flaws.{flaw_if, first_flaw}
use Rattle.reading.specs.Number.{is_digit, digit_of, decimal_value, leads_with_zero, fits, number_read}

-- digits and their value, in the words of the library
own : IsNumeralModel (λ word. list_all is_digit word ≡ true) decimal_value
own = numerals_by_fold _ (search rules) (λ n word. number_from_digits_after 10 n (map digit_of word)) (search rules)

-- what is told of a word, by its four flaws
abbrev by_flaws : Bool → Bool → Bool → Bool → ℕ → Result ℕ NumberFlaw
by_flaws empty digits zero small value =
    unless (first_flaw (flaw_if empty Empty ∷ flaw_if (not digits) NoDigits ∷ flaw_if zero LeadingZero ∷ flaw_if (not small) TooLarge ∷ [])) value

-- a number has none of them
flawless : (empty digits zero small : Bool) (value n : ℕ) → by_flaws empty digits zero small value ≡ Ok n → (empty ≡ false) × (digits ≡ true) × (zero ≡ false) × (small ≡ true) × (value ≡ n)
flawless true digits zero small value n h = cc
flawless false false zero small value n h = cc
flawless false true true small value n h = cc
flawless false true false false value n h = cc
flawless false true false true value n h = (refl, refl, refl, refl, cc)

-- what has none of them is a number
flawed_by : (empty digits zero small : Bool) (value : ℕ) → empty ≡ false → digits ≡ true → zero ≡ false → small ≡ true → by_flaws empty digits zero small value ≡ Ok value
flawed_by empty digits zero small value e d z s = rw (e, d, z, s) refl

pub read_is_written : (word : List ℕ) (n : ℕ) → number_read word ≡ Ok n → word ≡ decimal n
read_is_written word n h =
    let f = flawless (eqb (length word) 0) (list_all is_digit word) (leads_with_zero word) (fits (decimal_value word)) (decimal_value word) n h in
    let empty = f.0 in
    let zero = f.2 in
    let fit = f.3 in
    let some : 0 < length word = grind (arith, nat_tests) in
    let alone : get_or word 0 0 ≡ 48 → length word ≡ 1 = λ e. grind (arith, nat_tests) in
    let small : decimal_value word < 2 ^ 64 = grind (arith, nat_tests) in
    sym (decimals.decimal-digits_value own word f.1 some alone small) ∙ ap decimal f.4

leads_not : (n : ℕ) → n < 2 ^ 64 → leads_with_zero (decimal n) ≡ false
leads_not n h =
    ⊎_elim
    (λ few. ap leads_with_zero (decimals.decimal_digit n few))
    (λ many. let first = decimals.first_decimal n (omega arith) h in grind (arith, nat_tests))
    (cases_lt n 10)

pub written_is_read : (n : ℕ) → n < 2 ^ 64 → number_read (decimal n) ≡ Ok n
written_is_read n h =
    let value = decimals.digits_value-decimal own n h in
    let some = decimals.decimal_nonempty n h in
    let empty : eqb (length (decimal n)) 0 ≡ false = grind (arith, nat_tests) in
    let small : fits (decimal_value (decimal n)) ≡ true = grind (arith, nat_tests) in
    flawed_by _ _ _ _ _ empty (decimals.digits_decimal own n h) (leads_not n h) small ∙ ap Ok value
