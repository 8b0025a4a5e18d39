-- How many lines have told of the trades held: the number never falls, and rises with each line.
use Rattle.std.proofs.Common.{◌≡◌, ℕ, ◌+◌, ◌≤◌, Bool, true, false, cond, ◌&&◌, leb, List, [], ◌∷◌, map, length, Some, sum_by, count_by, filter, refl, ap, ◌∙◌, arith}
use Rattle.std.specs.List.{find, AllByRecursion as All}
use Rattle.std.proofs.lemmas.List.{length-map}
use Rattle.std.proofs.lemmas.List.Sums.{sum_by-cons, length-filter}
use Rattle.std.proofs.lemmas.Bool.{cond_both}
use Rattle.std.proofs.lemmas.Bool.Decides.{nat_tests}
use Rattle.report.specs.declared.line.Place.{Place}
use Rattle.report.specs.declared.report.Code.{Code}
use Rattle.report.specs.declared.state.Event.TheVariants.{Due, Withdrawn}
use Rattle.report.specs.declared.state.State.{State}
use Rattle.report.specs.States.{after}
use Rattle.rulebook.specs.declared.record.Record.{Record}
use Rattle.rulebook.specs.Lists.{where_some, put_in, in_order}
use Rattle.rulebook.specs.Notebook.{Notebook, same_code, waits, is_published, is_due, latest_day, published_before}
use Rattle.rulebook.specs.Lines.{due_now, due_lines, told_from, recalled}
use Rattle.rulebook.specs.Sound.{told_of}
use Rattle.rulebook.specs.Taken.{changed, met, withdrawn, published_from, settled}
use Rattle.rulebook.proofs.Settled.{none_due_settled}
use Rattle.rulebook.proofs.Sieves.{kept_none}
use Rattle.rulebook.proofs.LinesWritten.{one_or_none}

-- an order changes no length
length_put_in : {X : Type 0} (before : X → X → Bool) (x : X) (ys : List X) → length (put_in before x ys) ≡ length ys + 1
length_put_in before x [] = refl
length_put_in before x (y ∷ ys) = grind (arith, nat_tests, length_put_in before x ys)

pub length_in_order : {X : Type 0} (before : X → X → Bool) (xs : List X) → length (in_order before xs) ≡ length xs
length_in_order before [] = refl
length_in_order before (x ∷ xs) = omega (arith, length_put_in before x (in_order before xs), length_in_order before xs)

-- a sum rises where no number falls
sum_rises : {X : Type 0} (f : X → ℕ) (g : X → X) → ((x : X) → f x ≤ f (g x)) → (xs : List X) → sum_by f xs ≤ sum_by f (map g xs)
sum_rises f g rises [] = omega arith
sum_rises f g rises (x ∷ xs) =
    omega (arith, sum_by-cons f x xs, sum_by-cons f (g x) (map g xs), rises x, sum_rises f g rises xs)

abbrev pub told : Record → ℕ
told t = told_of t.state

withdrawal_tells : (s : State) → told_of s + cond (is_published s) 1 0 ≤ told_of (after s Withdrawn)
withdrawal_tells s = grind (arith, nat_tests)

withdrawal_rises : (code : Code) (ts : List Record) → sum_by told ts ≤ sum_by told (changed code withdrawn ts)
withdrawal_rises code ts =
    sum_rises told (λ t. cond (same_code t.code code) (withdrawn t) t)
    (λ t. cond_both (same_code t.code code) (withdrawn t) t (λ u. told t ≤ told u)
    (λ e. omega (arith, withdrawal_tells t.state)) (λ e. omega arith)) ts

recalled_length : (nb : Notebook) (t : Record) → length (recalled nb t) ≡ cond (is_published t.state) 1 0
recalled_length nb t = one_or_none (is_published t.state) _

-- a withdrawal that writes a line counts it
pub recalled_told : (nb : Notebook) (code : Code) (ts : List Record)
    → sum_by told ts + length (where_some (find (λ t. same_code t.code code) ts) (recalled nb)) ≤ sum_by told (changed code withdrawn ts)
recalled_told nb code [] = omega arith
recalled_told nb code (t ∷ ts) = by_test (same_code t.code code) (recalled_told nb code ts)
  where
    by_test : (b : Bool)
        → sum_by told ts + length (where_some (find (λ u. same_code u.code code) ts) (recalled nb)) ≤ sum_by told (changed code withdrawn ts)
        → sum_by told (t ∷ ts) + length (where_some (cond b (Some t) (find (λ u. same_code u.code code) ts)) (recalled nb))
        ≤ sum_by told (cond b (withdrawn t) t ∷ changed code withdrawn ts)
    by_test true rest =
        omega (
          arith,
          sum_by-cons told t ts,
          sum_by-cons told (withdrawn t) (changed code withdrawn ts),
          withdrawal_rises code ts,
          recalled_length nb t,
          withdrawal_tells t.state,
        )
    by_test false rest = omega (arith, sum_by-cons told t ts, sum_by-cons told t (changed code withdrawn ts))

-- the lines of a trade, with the one that is to be written now
abbrev told_soon : ℕ → Record → ℕ
told_soon clock t = told t + cond (is_due clock t) 1 0

due_tells : (clock : ℕ) (p : Place) (t : Record) → told_soon clock t ≤ told_soon clock (met Due p t)
due_tells clock p t = by_state t.state (leb t.moment clock)
  where
    by_state : (s : State) (b : Bool)
        → told_of s + cond (waits s && b) 1 0 ≤ told_of (after s Due) + cond (waits (after s Due) && b) 1 0
    by_state s b = grind (arith, nat_tests)

published_rises : (clock day number : ℕ) (ds ts : List Record) → sum_by (told_soon clock) ts ≤ sum_by (told_soon clock) (published_from day number ds ts)
published_rises clock day number [] ts = omega arith
published_rises clock day number (d ∷ ds) ts =
    let place : Place = record { day = day; number = number } in
    let first : sum_by (told_soon clock) ts ≤ sum_by (told_soon clock) (changed d.code (met Due place) ts) =
    sum_rises (told_soon clock) (λ t. cond (same_code t.code d.code) (met Due place t) t)
    (λ t. cond_both (same_code t.code d.code) (met Due place t) t (λ u. told_soon clock t ≤ told_soon clock u)
    (λ e. due_tells clock place t) (λ e. omega arith)) ts in
    omega (arith, published_rises clock day (number + 1) ds (changed d.code (met Due place) ts))

told_and_due : (clock : ℕ) (ts : List Record) → sum_by (told_soon clock) ts ≡ sum_by told ts + count_by (is_due clock) ts
told_and_due clock [] = refl
told_and_due clock (t ∷ ts) =
    omega (arith, sum_by-cons (told_soon clock) t ts, sum_by-cons told t ts, sum_by-cons (λ u. cond (is_due clock u) 1 0) t ts, told_and_due clock ts)

-- every line that tells of a trade that is due is counted
pub settled_told : (nb : Notebook) → sum_by told nb.records + length (due_now nb) ≤ sum_by told (settled nb).records
settled_told nb =
    let clock : ℕ = nb.clock in
    let rises = published_rises clock (latest_day nb.days) (nb.written + 1) (due_now nb) nb.records in
    let none : length (filter (is_due clock) (settled nb).records) ≡ 0 =
    ap length (kept_none (is_due clock) (settled nb).records (none_due_settled nb)) in
    omega (
      arith,
      rises,
      none,
      told_and_due clock nb.records,
      told_and_due clock (settled nb).records,
      length-filter (is_due clock) (settled nb).records,
      length-filter (is_due clock) nb.records,
      length_in_order published_before (filter (is_due clock) nb.records),
    )

-- where nothing is due, no line is written
pub none_due_lines : (nb : Notebook) → All (λ t. is_due nb.clock t ≡ false) nb.records → due_lines nb ≡ []
none_due_lines nb all =
    ap (λ (ts : List Record). told_from (latest_day nb.days) (nb.written + 1) (in_order published_before ts))
    (kept_none (is_due nb.clock) nb.records all)

-- neither publication nor withdrawal changes how many trades are held
pub length_published : (day number : ℕ) (ds ts : List Record) → length (published_from day number ds ts) ≡ length ts
length_published day number [] ts = refl
length_published day number (d ∷ ds) ts =
    length_published day (number + 1) ds (changed d.code (met Due (record { day = day; number = number })) ts)
    ∙ length-map ts (λ t. cond (same_code t.code d.code) (met Due (record { day = day; number = number }) t) t)
