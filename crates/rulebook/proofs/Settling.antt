-- What is published where nothing was due before: nothing, or the new trade alone.
use Rattle.std.proofs.Common.{◌≡◌, ℕ, ◌+◌, Bool, true, false, cond, leb, List, [], ◌∷◌, ◌++◌, length, refl, ap, ◌∙◌, add-zero, rules}
use Rattle.std.specs.List.{AllByRecursion as All}
use Rattle.std.proofs.lemmas.List.Elements.{filter-append}
use Rattle.std.proofs.lemmas.Bool.{and_left}
use Rattle.report.specs.declared.report.Code.{Code}
use Rattle.report.specs.declared.state.Event.TheVariants.{Withdrawn}
use Rattle.report.specs.declared.state.State.{State}
use Rattle.report.specs.States.{after}
use Rattle.rulebook.specs.declared.record.Record.{Record}
use Rattle.rulebook.specs.Lists.{in_order}
use Rattle.rulebook.specs.Notebook.{Notebook, waits, is_due, latest_day, published_before}
use Rattle.rulebook.specs.Lines.{due_now, due_line, due_lines, told_from, place_at}
use Rattle.rulebook.specs.Taken.{withdrawn, published_from, settled, one_published, added, without}
use Rattle.rulebook.proofs.Changes.{all_changed}
use Rattle.rulebook.proofs.Sieves.{kept_none}

-- no trade that waits is due
abbrev pub Undue : Notebook → Type 0
Undue nb = All (λ t. is_due nb.clock t ≡ false) nb.records

-- the notebook where these trades fall due
abbrev pub settled_by : Notebook → List Record → Notebook
settled_by nb ds =
    record {
      clock = nb.clock;
      securities = nb.securities;
      days = nb.days;
      records = published_from (latest_day nb.days) (nb.written + 1) ds nb.records;
      written = nb.written + length ds;
    }

settled_by_none : (nb : Notebook) → settled_by nb [] ≡ nb
settled_by_none nb =
    ap (λ (n : ℕ). record { clock = nb.clock; securities = nb.securities; days = nb.days; records = nb.records; written = n })
    (add-zero nb.written)

pub undue_none : (nb : Notebook) → Undue nb → due_now nb ≡ []
undue_none nb all = ap (in_order published_before) (kept_none (is_due nb.clock) nb.records all)

pub undue_settled : (nb : Notebook) → Undue nb → settled nb ≡ nb
undue_settled nb all = ap (settled_by nb) (undue_none nb all) ∙ settled_by_none nb

pub undue_lines : (nb : Notebook) → Undue nb → due_lines nb ≡ []
undue_lines nb all = ap (told_from (latest_day nb.days) (nb.written + 1)) (undue_none nb all)

-- of a new trade and others that are not due, the new one alone may be due
pub due_with_new : (nb : Notebook) (t : Record) → Undue nb → due_now (added t nb) ≡ cond (is_due nb.clock t) (t ∷ []) []
due_with_new nb t all =
    ap (in_order published_before)
    (filter-append (is_due nb.clock) nb.records (t ∷ [])
    ∙ ap (λ (us : List Record). us ++ cond (is_due nb.clock t) (t ∷ []) []) (kept_none (is_due nb.clock) nb.records all))
    ∙ alone (is_due nb.clock t)
  where
    alone : (b : Bool) → in_order published_before (cond b (t ∷ []) []) ≡ cond b (t ∷ []) []
    alone b = search rules

pub lines_with_new : (nb : Notebook) (t : Record) → Undue nb
    → due_lines (added t nb) ≡ cond (is_due nb.clock t) (due_line (place_at nb (nb.written + 1)) t ∷ []) []
lines_with_new nb t all =
    ap (told_from (latest_day nb.days) (nb.written + 1)) (due_with_new nb t all) ∙ told (is_due nb.clock t)
  where
    told : (b : Bool) → told_from (latest_day nb.days) (nb.written + 1) (cond b (t ∷ []) [])
        ≡ cond b (due_line (place_at nb (nb.written + 1)) t ∷ []) []
    told b = search rules

pub settled_with_new : (nb : Notebook) (t : Record) → Undue nb
    → settled (added t nb) ≡ cond (is_due nb.clock t) (one_published t (added t nb)) (added t nb)
settled_with_new nb t all = ap (settled_by (added t nb)) (due_with_new nb t all) ∙ by_test (is_due nb.clock t)
  where
    by_test : (b : Bool) → settled_by (added t nb) (cond b (t ∷ []) []) ≡ cond b (one_published t (added t nb)) (added t nb)
    by_test true = refl
    by_test false = settled_by_none (added t nb)

withdrawn_waits_not : (s : State) → waits (after s Withdrawn) ≡ false
withdrawn_waits_not s = search rules

pub undue_without : (nb : Notebook) (code : Code) → Undue nb → Undue (without code nb)
undue_without nb code all =
    all_changed (λ t. is_due nb.clock t ≡ false) (λ t. is_due nb.clock t ≡ false) code withdrawn
    (λ t e f. and_left _ (leb t.moment nb.clock) (withdrawn_waits_not t.state)) (λ t e f. f) nb.records all
