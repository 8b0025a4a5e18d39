-- What lasts where trades meet events: all that depends neither on state nor on place.
use Rattle.std.proofs.Common.{◌≡◌, ℕ, ◌+◌, true, false, cond, List, [], ◌∷◌}
use Rattle.std.specs.List.{AllByRecursion as All}
use Rattle.std.proofs.ByRecursion.{All-weaker, All-map}
use Rattle.std.proofs.lemmas.Bool.{cond_both}
use Rattle.report.specs.declared.line.Place.{Place}
use Rattle.report.specs.declared.report.Code.{Code}
use Rattle.report.specs.declared.state.Event.{Event}
use Rattle.report.specs.declared.state.Event.TheVariants.{Due, Withdrawn}
use Rattle.rulebook.specs.declared.record.Record.{Record}
use Rattle.rulebook.specs.Notebook.{Notebook, same_code, latest_day}
use Rattle.rulebook.specs.Lines.{due_now}
use Rattle.rulebook.specs.Taken.{changed, met, withdrawn, published_from, settled}

pub all_changed : (P Q : Record → Type 0) (code : Code) (f : Record → Record)
    → ((t : Record) → same_code t.code code ≡ true → P t → Q (f t)) → ((t : Record) → same_code t.code code ≡ false → P t → Q t)
    → (ts : List Record) → All P ts → All Q (changed code f ts)
all_changed P Q code f same other ts all =
    All-map Q (λ t. cond (same_code t.code code) (f t) t) ts
    (All-weaker P (λ t. Q (cond (same_code t.code code) (f t) t))
    (λ t p. cond_both (same_code t.code code) (f t) t Q (λ e. same t e p) (λ e. other t e p)) ts all)

module _ (P : Record → Type 0) (lasts : (e : Event) (p : Place) (t : Record) → P t → P (met e p t)) where
  pub lasts_published : (day number : ℕ) (ds ts : List Record) → All P ts → All P (published_from day number ds ts)
  lasts_published day number [] ts all = all
  lasts_published day number (d ∷ ds) ts all =
      lasts_published day (number + 1) ds _
      (all_changed P P d.code (met Due (record { day = day; number = number })) (λ t e p. lasts Due _ t p) (λ t e p. p) ts all)

  pub lasts_settled : (nb : Notebook) → All P nb.records → All P (settled nb).records
  lasts_settled nb all = lasts_published (latest_day nb.days) (nb.written + 1) (due_now nb) nb.records all

  pub lasts_withdrawn : (code : Code) (ts : List Record) → All P ts → All P (changed code withdrawn ts)
  lasts_withdrawn code ts all = all_changed P P code withdrawn (λ t e p. lasts Withdrawn t.place t p) (λ t e p. p) ts all
