-- Once what is due is published, no trade that waits is due.
use Rattle.std.proofs.Common.{◌≡◌, ◌||◌, ℕ, ◌+◌, Bool, true, false, cond, leb, List, [], ◌∷◌, filter, refl, ap, ◌∙◌, subst, inl, inr, arith, rules}
use Rattle.std.specs.List.{list_any, AllByRecursion as All}
use Rattle.std.proofs.ByRecursion.{All-weaker}
use Rattle.std.proofs.lemmas.Bool.{and_left, and_from, eq-eqb, cases_Bool, both_ways, cond_both, or_left, or_right}
use Rattle.std.proofs.lemmas.Bool.Decides.{nat_tests}
use Rattle.report.specs.declared.line.Place.{Place}
use Rattle.report.specs.declared.report.Code.{Code}
use Rattle.report.specs.declared.state.Event.TheVariants.{Due}
use Rattle.report.specs.declared.state.State.{State}
use Rattle.report.specs.States.{after}
use Rattle.rulebook.specs.declared.record.Record.{Record}
use Rattle.rulebook.specs.Lists.{put_in, in_order}
use Rattle.rulebook.specs.Notebook.{Notebook, same_code, waits, is_due, latest_day, published_before}
use Rattle.rulebook.specs.Lines.{due_now}
use Rattle.rulebook.specs.Taken.{met, published_from, settled}
use Rattle.rulebook.proofs.Changes.{all_changed}

-- an order changes nothing about what is there
pub some_put_in : {X : Type 0} (before : X → X → Bool) (q : X → Bool) (x : X) (ys : List X)
    → list_any q (put_in before x ys) ≡ (q x || list_any q ys)
some_put_in before q x [] = refl
some_put_in before q x (y ∷ ys) = grind (arith, nat_tests, some_put_in before q x ys)

pub some_in_order : {X : Type 0} (before : X → X → Bool) (q : X → Bool) (xs : List X) → list_any q (in_order before xs) ≡ list_any q xs
some_in_order before q [] = refl
some_in_order before q (x ∷ xs) =
    some_put_in before q x (in_order before xs) ∙ ap (λ (c : Bool). q x || c) (some_in_order before q xs)

-- is the trade's code among those of these trades?
abbrev pub named : List Record → Record → Bool
named ds t = list_any (λ d. same_code t.code d.code) ds

pub same_code_refl : (c : Code) → same_code c c ≡ true
same_code_refl c = and_from _ _ (eq-eqb c.day c.day refl) (eq-eqb c.serial c.serial refl)

-- what is named among some trades is named among more
passing_named : (p : Record → Bool) (t : Record) (ds : List Record) (ts : List Record) → All (λ u. p u ≡ true → named ds u ≡ true) ts
    → All (λ u. p u ≡ true → named (cond (p t) (t ∷ ds) ds) u ≡ true) ts
passing_named p t ds ts all =
    All-weaker _ _ (λ u f e. cond_both (p t) (t ∷ ds) ds (λ x. named x u ≡ true) (λ g. or_right (same_code u.code t.code) _ (f e)) (λ g. f e)) ts all

-- a trade that passes is named among those kept
pub kept_named : (p : Record → Bool) (ts : List Record) → All (λ t. p t ≡ true → named (filter p ts) t ≡ true) ts
kept_named p [] = tt
kept_named p (t ∷ ts) = (here (p t), passing_named p t (filter p ts) ts (kept_named p ts))
  where
    here : (b : Bool) → b ≡ true → named (cond b (t ∷ filter p ts) (filter p ts)) t ≡ true
    here true e = or_left _ _ (same_code_refl t.code)
    here false e = absurd cc

pub due_waits_not : (s : State) → waits (after s Due) ≡ false
due_waits_not s = search rules

-- where every trade that is due is among those that fall due, none is due after
pub none_due : (clock day number : ℕ) (ds ts : List Record) → All (λ t. is_due clock t ≡ true → named ds t ≡ true) ts
    → All (λ t. is_due clock t ≡ false) (published_from day number ds ts)
none_due clock day number [] ts all =
    All-weaker _ _ (λ t f. elim (cases_Bool (is_due clock t)) [ inl e ↦ absurd (both_ways _ refl (f e)) | inr e ↦ e ]) ts all
none_due clock day number (d ∷ ds) ts all =
    let place : Place = record { day = day; number = number } in
    none_due clock day (number + 1) ds _
    (all_changed (λ t. is_due clock t ≡ true → named (d ∷ ds) t ≡ true) (λ t. is_due clock t ≡ true → named ds t ≡ true) d.code (met Due place)
    (λ t e f g. absurd (both_ways _ (and_left _ (leb t.moment clock) (due_waits_not t.state)) g))
    (λ t e f g. subst (λ (c : Bool). (c || named ds t) ≡ true) e (f g)) ts all)

pub none_due_settled : (nb : Notebook) → All (λ t. is_due (settled nb).clock t ≡ false) (settled nb).records
none_due_settled nb =
    none_due nb.clock (latest_day nb.days) (nb.written + 1) (due_now nb) nb.records
    (All-weaker _ _ (λ t f e. some_in_order published_before (λ d. same_code t.code d.code) (filter (is_due nb.clock) nb.records) ∙ f e)
    nb.records (kept_named (is_due nb.clock) nb.records))
