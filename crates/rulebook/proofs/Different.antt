-- Trades of which no two have one code: what keeps them so.
use Rattle.std.proofs.Common.{◌≡◌, ℕ, ◌+◌, Bool, false, cond, ◌&&◌, eqb, List, [], ◌∷◌, ◌++◌, filter, refl, ◌∙◌, inl, inr, arith}
use Rattle.std.specs.List.{AllByRecursion as All}
use Rattle.std.proofs.ByRecursion.{all_kept_by, All-push}
use Rattle.std.proofs.lemmas.Bool.{cases_Bool}
use Rattle.std.proofs.lemmas.Bool.Decides.{nat_tests}
use Rattle.report.specs.declared.report.Code.{Code}
use Rattle.report.specs.declared.state.Event.TheVariants.{Due}
use Rattle.rulebook.specs.declared.record.Record.{Record}
use Rattle.rulebook.specs.Lists.{put_in, in_order}
use Rattle.rulebook.specs.Notebook.{Notebook, same_code, latest_day}
use Rattle.rulebook.specs.Lines.{due_now, place_at}
use Rattle.rulebook.specs.Taken.{changed, met, withdrawn, published_from, settled, one_published, without}
use Rattle.rulebook.specs.Sound.{Different}
use Rattle.rulebook.proofs.Changes.{all_changed}
use Rattle.rulebook.proofs.Ordered.{all_put_in, all_in_order}

pub same_code_sym : (c d : Code) → same_code c d ≡ same_code d c
same_code_sym c d = by_numbers c.day c.serial d.day d.serial
  where
    by_numbers : (a b x y : ℕ) → (eqb a x && eqb b y) ≡ (eqb x a && eqb y b)
    by_numbers a b x y = grind (arith, nat_tests)

-- a change that keeps codes
pub different_changed : (code : Code) (f : Record → Record) → ((t : Record) → (f t).code ≡ t.code) → (ts : List Record) → Different ts
    → Different (changed code f ts)
different_changed code f keeps [] d = tt
different_changed code f keeps (t ∷ ts) d = (
  all_changed (λ u. same_code t.code u.code ≡ false) (λ u. same_code (cond (same_code t.code code) (f t) t).code u.code ≡ false)
      code f (λ u e g. simp (kept, keeps u) g) (λ u e g. simp kept g) ts d.0,
  different_changed code f keeps ts d.1,
)
  where
    kept : (cond (same_code t.code code) (f t) t).code ≡ t.code
    kept = grind (arith, nat_tests, keeps t)

pub different_kept_by : (p : Record → Bool) (ts : List Record) → Different ts → Different (filter p ts)
different_kept_by p [] d = tt
different_kept_by p (t ∷ ts) d =
    elim (cases_Bool (p t)) [
      | inl e ↦ simp e (all_kept_by p _ ts d.0, different_kept_by p ts d.1)
      | inr e ↦ simp e (different_kept_by p ts d.1)
    ]

-- a trade is added whose code is no other's
pub different_push : (t : Record) (ts : List Record) → All (λ u. same_code u.code t.code ≡ false) ts → Different ts
    → Different (ts ++ t ∷ [])
different_push t [] new d = (tt, tt)
different_push t (u ∷ us) new d =
    (All-push (λ v. same_code u.code v.code ≡ false) us t d.0 new.0, different_push t us new.1 d.1)

different_put_in : (before : Record → Record → Bool) (t : Record) (ts : List Record) → All (λ u. same_code t.code u.code ≡ false) ts
    → Different ts → Different (put_in before t ts)
different_put_in before t [] new d = (tt, tt)
different_put_in before t (u ∷ us) new d =
    elim (cases_Bool (before t u)) [
      | inl e ↦ simp e (new, d)
      | inr e ↦ simp e (
        all_put_in (λ v. same_code u.code v.code ≡ false) before t us (same_code_sym u.code t.code ∙ new.0) d.0,
        different_put_in before t us new.1 d.1,
      )
    ]

pub different_in_order : (before : Record → Record → Bool) (ts : List Record) → Different ts → Different (in_order before ts)
different_in_order before [] d = tt
different_in_order before (t ∷ ts) d =
    different_put_in before t (in_order before ts) (all_in_order _ before ts d.0) (different_in_order before ts d.1)

pub different_one_published : (t : Record) (nb : Notebook) → Different nb.records → Different (one_published t nb).records
different_one_published t nb d = different_changed t.code (met Due (place_at nb (nb.written + 1))) (λ u. refl) nb.records d

pub different_without : (code : Code) (nb : Notebook) → Different nb.records → Different (without code nb).records
different_without code nb d = different_changed code withdrawn (λ u. refl) nb.records d

pub different_published : (day number : ℕ) (ds ts : List Record) → Different ts → Different (published_from day number ds ts)
different_published day number [] ts d = d
different_published day number (u ∷ us) ts d =
    different_published day (number + 1) us _ (different_changed u.code (met Due (record { day = day; number = number })) (λ t. refl) ts d)

pub different_settled : (nb : Notebook) → Different nb.records → Different (settled nb).records
different_settled nb d = different_published (latest_day nb.days) (nb.written + 1) (due_now nb) nb.records d
