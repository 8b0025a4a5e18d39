-- What is written in two places at least.
use Rattle.std.proofs.Common.{◌≡◌, ℕ, ◌+◌, ◌-◌, ◌<◌, ◌≤◌, ◌^◌, ◌/◌, ◌%◌, length, false, List, [], ◌∷◌, ◌++◌, sym, ap, ◌∙◌, inl, inr, arith, rules}
use mathlib.Core.List.{append_assoc, append-nil}
use Rattle.std.specs.Fmt.{decimal, format_spec, char_count, padded_integral, styled_decimal}
use Rattle.std.proofs.lemmas.Fmt.{decimal_digit, decimal_step, decimal_nonempty}
use Rattle.std.proofs.lemmas.List.{length_push}
use Rattle.std.proofs.lemmas.Bool.{cases_order}
use Rattle.civil.specs.Dates.{place}
use Rattle.civil.specs.declared.date.Date.{Date}
use Rattle.civil.specs.Text.{two_digits, date_text}

abbrev in_places : List ℕ → List ℕ
in_places = padded_integral (format_spec 32 0 4 2 (2 ^ 64 - 1)) false []

wide : (ds : List ℕ) → 2 ≤ length ds → in_places ds ≡ ds
unfolding padded_integral char_count
wide ds h = let none : 2 - length ds ≡ 0 = omega arith in rw (none, append-nil ds)

one_digit : (n : ℕ) → n < 10 → in_places (decimal n) ≡ two_digits n
unfolding padded_integral char_count
one_digit n one =
    let high : n / 10 ≡ 0 = omega arith in
    let low : n % 10 ≡ n = omega arith in
    ap in_places (decimal_digit n one) ∙ sym (ap (λ ds. ds ++ decimal (n % 10)) (ap decimal high ∙ decimal_digit 0 (omega arith)) ∙ ap (λ ds. 48 ∷ ds) (ap decimal low ∙ decimal_digit n one))

more_digits : (n : ℕ) → 10 ≤ n → n < 2 ^ 64 → in_places (decimal n) ≡ two_digits n
more_digits n more small =
    let split = decimal_step n more small in
    let before = decimal_nonempty (n / 10) (omega arith) in
    let long : 2 ≤ length (decimal n) = omega (arith, before, ap length split, length_push (decimal (n / 10)) (48 + n % 10)) in
    wide (decimal n) long ∙ split ∙ ap (λ ds. decimal (n / 10) ++ ds) (sym (decimal_digit (n % 10) (omega arith)))

two_places : (n : ℕ) → n < 2 ^ 64 → styled_decimal (format_spec 32 0 4 2 (2 ^ 64 - 1)) n ≡ two_digits n
two_places n small = elim (cases_order n 10) [
  | inl same ↦ more_digits n (omega arith) small
  | inr (inl less) ↦ one_digit n less
  | inr (inr more) ↦ more_digits n (omega arith) small
]

in_pieces : (a b c : List ℕ) → a ++ 45 ∷ (b ++ 45 ∷ c) ≡ a ++ (45 ∷ []) ++ b ++ (45 ∷ []) ++ c
in_pieces a b c = search (rules, append_assoc)

pub date_written : (t : Date) (m : ℕ) → m < 2 ^ 64 → t.day < 2 ^ 64 → m ≡ place t.month + 1
    → decimal t.year ++ 45 ∷ (styled_decimal (format_spec 32 0 4 2 (2 ^ 64 - 1)) m ++ 45 ∷ styled_decimal (format_spec 32 0 4 2 (2 ^ 64 - 1)) t.day) ≡ date_text t
date_written t m few small is =
    ap (λ ds. decimal t.year ++ 45 ∷ (ds ++ 45 ∷ styled_decimal (format_spec 32 0 4 2 (2 ^ 64 - 1)) t.day)) (two_places m few ∙ ap two_digits is)
    ∙ ap (λ ds. decimal t.year ++ 45 ∷ (two_digits (place t.month + 1) ++ 45 ∷ ds)) (two_places t.day small)
    ∙ in_pieces (decimal t.year) (two_digits (place t.month + 1)) (two_digits t.day)
