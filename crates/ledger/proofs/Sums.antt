-- The totals of trades of which there is one more or one less.
use Rattle.std.proofs.Common.{◌≡◌, ℕ, ◌+◌, ◌-◌, ◌^◌, ◌<◌, ◌≤◌, Bool, true, false, cond, List, [], ◌∷◌, ◌++◌, length, sum_by, filter, sym, refl, ap, ◌∙◌, ⊎_elim, arith}
use Rattle.std.proofs.lemmas.List.Elements.{filter-append}
use Rattle.std.proofs.ByRecursion.{All-weaker, all_kept_by, sum_by_le}
use Rattle.std.proofs.lemmas.List.{length-append}
use Rattle.std.proofs.lemmas.List.Sums.{sum_by-append, sum_by-cons, length-filter, count_by-le-length}
use Rattle.std.proofs.lemmas.Bool.{cases_Bool, cond-false, true≢false}
use Rattle.rulebook.specs.declared.record.Record.{Record}
use Rattle.ledger.specs.declared.totals.Totals.{Totals}
use Rattle.ledger.specs.Totalled.{Small, Few}
use Rattle.ledger.specs.Totals.{totals_of, turnover_of, with_report, without_report}

same_totals : (a b : Totals) → a.number ≡ b.number → a.volume ≡ b.volume → a.turnover ≡ b.turnover → a ≡ b
same_totals a b p q r = λ i. record { number = p i; volume = q i; turnover = r i }

-- one more in the middle of some
sum_by_middle : (f : Record → ℕ) (xs ys : List Record) (t : Record) → sum_by f (xs ++ t ∷ ys) ≡ sum_by f (xs ++ ys) + f t
sum_by_middle f xs ys t =
    let a = sum_by-append f xs (t ∷ ys) in
    let b = sum_by-append f xs ys in
    let e = sum_by-cons f t ys in
    omega arith

length_middle : (xs ys : List Record) (t : Record) → length (xs ++ t ∷ ys) ≡ length (xs ++ ys) + 1
length_middle xs ys t = simp length-append (omega arith)

-- none of the sums of few trades is near its bound
few_volume : (rs : List Record) → Few rs → sum_by (λ t. t.report.quantity) rs < 2 ^ 64 - 1
few_volume rs few =
    let le = sum_by_le (λ t. t.report.quantity) (2 ^ 32) rs
    (All-weaker Small (λ t. t.report.quantity ≤ 2 ^ 32) (λ t s. omega arith) rs few.1) in
    omega arith

few_turnover : (rs : List Record) → Few rs → sum_by (λ t. turnover_of t.report) rs < 2 ^ 64 - 1
few_turnover rs few =
    let le = sum_by_le (λ t. turnover_of t.report) 1000000000000000 rs
    (All-weaker Small (λ t. turnover_of t.report ≤ 1000000000000000) (λ t s. s.1) rs few.1) in
    omega arith

pub few_kept : (p : Record → Bool) (rs : List Record) → Few rs → Few (filter p rs)
few_kept p rs few = (omega (arith, length-filter p rs, count_by-le-length p rs), all_kept_by p Small rs few.1)

pub totals_with : (xs ys : List Record) (t : Record) → Few (xs ++ t ∷ ys) → with_report (totals_of (xs ++ ys)) t.report ≡ totals_of (xs ++ t ∷ ys)
totals_with xs ys t few =
    let v = few_volume (xs ++ t ∷ ys) few in
    let w = few_turnover (xs ++ t ∷ ys) few in
    let n = length_middle xs ys t in
    let v' = sum_by_middle (λ t. t.report.quantity) xs ys t in
    let w' = sum_by_middle (λ t. turnover_of t.report) xs ys t in
    same_totals (with_report (totals_of (xs ++ ys)) t.report) (totals_of (xs ++ t ∷ ys)) (omega arith) (omega arith) (omega arith)

pub totals_without : (xs ys : List Record) (t : Record) → without_report (totals_of (xs ++ t ∷ ys)) t.report ≡ totals_of (xs ++ ys)
totals_without xs ys t =
    let n = length_middle xs ys t in
    let v = sum_by_middle (λ t. t.report.quantity) xs ys t in
    let w = sum_by_middle (λ t. turnover_of t.report) xs ys t in
    same_totals (without_report (totals_of (xs ++ t ∷ ys)) t.report) (totals_of (xs ++ ys)) (omega arith) (omega arith) (omega arith)

-- of two trades with one report either may stand there
pub totals_same : (xs ys : List Record) (t u : Record) → t.report ≡ u.report → totals_of (xs ++ t ∷ ys) ≡ totals_of (xs ++ u ∷ ys)
totals_same xs ys t u e =
    same_totals (totals_of (xs ++ t ∷ ys)) (totals_of (xs ++ u ∷ ys))
    (length_middle xs ys t ∙ sym (length_middle xs ys u))
    (sum_by_middle (λ t. t.report.quantity) xs ys t
    ∙ ap (λ r. sum_by (λ t. t.report.quantity) (xs ++ ys) + r.quantity) e
    ∙ sym (sum_by_middle (λ t. t.report.quantity) xs ys u))
    (sum_by_middle (λ t. turnover_of t.report) xs ys t
    ∙ ap (λ r. sum_by (λ t. turnover_of t.report) (xs ++ ys) + turnover_of r) e
    ∙ sym (sum_by_middle (λ t. turnover_of t.report) xs ys u))

-- what a test keeps of trades around one
pub kept_with : (p : Record → Bool) (xs ys : List Record) (t : Record) → p t ≡ true → filter p (xs ++ t ∷ ys) ≡ filter p xs ++ t ∷ filter p ys
kept_with p xs ys t e =
    filter-append p xs (t ∷ ys) ∙ ap (λ b. filter p xs ++ cond b (t ∷ filter p ys) (filter p ys)) e

pub kept_without : (p : Record → Bool) (xs ys : List Record) (t : Record) → p t ≡ false → filter p (xs ++ t ∷ ys) ≡ filter p (xs ++ ys)
kept_without p xs ys t e =
    filter-append p xs (t ∷ ys)
    ∙ ap (λ b. filter p xs ++ cond b (t ∷ filter p ys) (filter p ys)) e
    ∙ sym (filter-append p xs ys)

-- a test that passes less keeps the same of what another keeps
pub kept_twice : (p q : Record → Bool) (rs : List Record) → ((t : Record) → p t ≡ true → q t ≡ true) → filter p (filter q rs) ≡ filter p rs
kept_twice p q [] h = refl
kept_twice p q (t ∷ rs) h =
    elim (q t) as (λ b. (p t ≡ true → b ≡ true) → filter p (cond b (t ∷ filter q rs) (filter q rs)) ≡ cond (p t) (t ∷ filter p rs) (filter p rs)) [
      | true ↦ λ e. ap (λ ts. cond (p t) (t ∷ ts) ts) (kept_twice p q rs h)
      | false ↦ λ e. kept_twice p q rs h ∙ sym (cond-false (p t) _ _ (⊎_elim (λ (y : p t ≡ true). absurd (true≢false (sym (e y)))) (λ (y : p t ≡ false). y) (cases_Bool (p t))))
    ] (h t)
