-- What is due is published trade by trade: the first of them, and then what is due after it.
use Rattle.std.proofs.Common.{◌≡◌, ℕ, zero, suc, ◌+◌, ◌<◌, Bool, true, false, cond, not, List, [], ◌∷◌, length, get_or, filter, sym, refl, ap, ◌∙◌, subst, inl, inr, arith}
use Rattle.std.specs.List.{AllByRecursion as All}
use Rattle.std.proofs.ByRecursion.{All-weaker, All-get_or, all_kept_by}
use Rattle.std.proofs.lemmas.Bool.{cases_Bool, not_from_false}
use Rattle.std.proofs.lemmas.Bool.Decides.{nat_tests}
use Rattle.report.specs.declared.line.Place.{Place}
use Rattle.report.specs.declared.report.Code.{Code}
use Rattle.report.specs.declared.state.Event.TheVariants.{Due}
use Rattle.rulebook.specs.declared.record.Record.{Record}
use Rattle.rulebook.specs.Lists.{in_order}
use Rattle.rulebook.specs.Notebook.{Notebook, same_code, is_due, latest_day, published_before}
use Rattle.rulebook.specs.Lines.{due_now, due_line, due_lines, told_from, place_at}
use Rattle.rulebook.specs.Taken.{changed, met, settled, one_published}
use Rattle.rulebook.specs.Sound.{Different}
use Rattle.rulebook.proofs.Different.{same_code_sym, different_kept_by, different_in_order}
use Rattle.rulebook.proofs.Ordered.{all_in_order, put_first, in_order_kept, publication_orders, published_after}
use Rattle.rulebook.proofs.Settled.{same_code_refl, due_waits_not}
use Rattle.rulebook.proofs.Settling.{settled_by}
use Rattle.rulebook.proofs.Sieves.{kept_all}

-- has the trade another code?
abbrev pub other_than : Code → Record → Bool
other_than code u = not (same_code u.code code)

-- one that is published is due no more, and the others as before
pub due_without : (clock : ℕ) (code : Code) (place : Place) (ts : List Record)
    → filter (is_due clock) (changed code (met Due place) ts) ≡ filter (other_than code) (filter (is_due clock) ts)
due_without clock code place [] = refl
due_without clock code place (t ∷ ts) = grind (arith, nat_tests, due_waits_not, due_without clock code place ts)

pub due_after_one : (nb : Notebook) (t : Record)
    → due_now (one_published t nb) ≡ in_order published_before (filter (other_than t.code) (filter (is_due nb.clock) nb.records))
due_after_one nb t =
    ap (in_order published_before) (due_without nb.clock t.code (place_at nb (nb.written + 1)) nb.records)

others : (t : Record) (ts : List Record) → All (λ u. same_code t.code u.code ≡ false) ts → filter (other_than t.code) ts ≡ ts
others t ts all =
    kept_all (other_than t.code) ts (All-weaker _ _ (λ u e. not_from_false _ (same_code_sym u.code t.code ∙ e)) ts all)

-- the first that is due, and what is due after it
module _ (nb : Notebook) (t : Record) (ts : List Record) (different : Different nb.records) (first : due_now nb ≡ t ∷ ts) where
  pub rest_due : due_now (one_published t nb) ≡ ts
  rest_due =
      let kept = different_kept_by (is_due nb.clock) nb.records different in
      let d : Different (t ∷ ts) = subst Different first (different_in_order published_before _ kept) in
      due_after_one nb t
      ∙ in_order_kept published_before publication_orders (other_than t.code) (filter (is_due nb.clock) nb.records)
      ∙ ap (filter (other_than t.code)) first
      ∙ ap (λ (b : Bool). cond (not b) (t ∷ filter (other_than t.code) ts) (filter (other_than t.code) ts)) (same_code_refl t.code)
      ∙ others t ts d.0

  pub settled_one : settled nb ≡ settled (one_published t nb)
  settled_one =
      ap (settled_by nb) first
      ∙ ap (λ (n : ℕ). record {
        clock = nb.clock;
        securities = nb.securities;
        days = nb.days;
        records = (settled_by (one_published t nb) ts).records;
        written = n;
      }) (moved_one nb.written (length ts))
      ∙ ap (settled_by (one_published t nb)) (sym rest_due)
    where
      moved_one : (m n : ℕ) → m + suc n ≡ m + 1 + n
      moved_one m n = omega arith

  pub lines_one : due_lines nb ≡ due_line (place_at nb (nb.written + 1)) t ∷ due_lines (one_published t nb)
  lines_one =
      ap (told_from (latest_day nb.days) (nb.written + 1)) first
      ∙ ap (λ (us : List Record). due_line (place_at nb (nb.written + 1)) t ∷ told_from (latest_day nb.days) (nb.written + 1 + 1) us) (sym rest_due)

  pub count_one : length (due_now nb) ≡ length (due_now (one_published t nb)) + 1
  count_one = simp (first, rest_due) (omega arith)

-- what is due of some trades, in order
abbrev due_of : ℕ → List Record → List Record
due_of clock ts = in_order published_before (filter (is_due clock) ts)

-- and without those of a code
abbrev due_of_others : ℕ → Code → List Record → List Record
due_of_others clock code ts = in_order published_before (filter (other_than code) (filter (is_due clock) ts))

-- a trade is published before another that is due
abbrev pub Ahead : ℕ → Record → Record → Type 0
Ahead clock t u = is_due clock u ≡ true → same_code u.code t.code ≡ false → published_before t u ≡ true

module _ (clock : ℕ) (t : Record) (due : is_due clock t ≡ true) where
  kept_ahead : (us : List Record) → All (λ u. same_code t.code u.code ≡ false) us → All (Ahead clock t) us
      → All (λ u. published_before t u ≡ true) (filter (is_due clock) us)
  kept_ahead [] new ahead = tt
  kept_ahead (u ∷ us) new ahead =
      elim (cases_Bool (is_due clock u)) [
        | inl e ↦ simp e (ahead.0 e (same_code_sym u.code t.code ∙ new.0), kept_ahead us new.1 ahead.1)
        | inr e ↦ simp e (kept_ahead us new.1 ahead.1)
      ]

  first_here : (us : List Record) → All (λ u. same_code t.code u.code ≡ false) us → All (Ahead clock t) us
      → due_of clock (t ∷ us) ≡ t ∷ due_of_others clock t.code (t ∷ us)
  first_here us new ahead =
      simp (due, same_code_refl t.code, others t (filter (is_due clock) us) (all_kept_by (is_due clock) _ us new))
      (put_first published_before t (due_of clock us) (all_in_order _ published_before (filter (is_due clock) us) (kept_ahead us new ahead)))

  first_among : (ts : List Record) (i : ℕ) → i < length ts → t ≡ get_or ts i t → Different ts → All (Ahead clock t) ts
      → due_of clock ts ≡ t ∷ due_of_others clock t.code ts
  first_among [] i h e d ahead = absurd (omega arith)
  first_among (u ∷ us) zero h e d ahead =
      subst (λ (x : Record). due_of clock (x ∷ us) ≡ t ∷ due_of_others clock t.code (x ∷ us)) e
      (first_here us (subst (λ (x : Record). All (λ v. same_code x.code v.code ≡ false) us) (sym e) d.0) ahead.1)
  first_among (u ∷ us) (suc i) h e d ahead =
      let later : i < length us = omega arith in
      let there = All-get_or (λ v. same_code u.code v.code ≡ false) us i t later d.0 in
      let other : same_code u.code t.code ≡ false = subst (λ (x : Record). same_code u.code x.code ≡ false) (sym e) there in
      let rest = first_among us i later e d.1 ahead.1 in
      elim (cases_Bool (is_due clock u)) [
        | inl f ↦
            let not_before : published_before u t ≡ false = publication_orders.one_way t u (ahead.0 f other) in
            simp (f, other, rest, not_before)
        | inr f ↦ simp f rest
      ]

module _ (nb : Notebook) (t : Record) (i : ℕ) (inside : i < length nb.records) (is : t ≡ get_or nb.records i t)
    (due : is_due nb.clock t ≡ true) (different : Different nb.records) where
  -- a trade that is due is published first if every other that is due comes after it
  pub first_due : All (Ahead nb.clock t) nb.records → due_now nb ≡ t ∷ due_now (one_published t nb)
  first_due ahead =
      first_among nb.clock t due nb.records i inside is different ahead
      ∙ ap (λ (us : List Record). t ∷ us) (sym (due_after_one nb t))

  -- or if none that is due comes before it
  pub first_due_if_none_before : All (λ u. is_due nb.clock u ≡ true → published_before u t ≡ false) nb.records
      → due_now nb ≡ t ∷ due_now (one_published t nb)
  first_due_if_none_before none =
      first_due (All-weaker _ _ (λ u f e other. published_after t u other (f e)) nb.records none)
