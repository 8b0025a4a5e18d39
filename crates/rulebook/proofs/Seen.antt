-- What publishing does to each trade, and that a trade which falls due is then seen.
use Rattle.std.proofs.Common.{◌≡◌, ◌||◌, ℕ, ◌+◌, Bool, true, false, cond, ◌&&◌, List, [], ◌∷◌, map, filter, sym, refl, ap, ◌∙◌, subst, rules}
use Rattle.std.specs.List.{list_any, ContainsAt as Has, AllByRecursion as All}
use Rattle.std.proofs.lemmas.Bool.{false≢true, both_ways, and_parts}
use Rattle.std.proofs.ByRecursion.{All-weaker, all-has, all_has_itself}
use Rattle.report.specs.declared.report.Code.{Code}
use Rattle.report.specs.declared.state.Event.TheVariants.{Due}
use Rattle.report.specs.declared.state.State.{State}
use Rattle.report.specs.States.{after}
use Rattle.rulebook.specs.declared.record.Record.{Record}
use Rattle.rulebook.specs.Notebook.{Notebook, same_code, waits, is_due, published_before, latest_day}
use Rattle.rulebook.specs.Lines.{due_now}
use Rattle.rulebook.specs.Taken.{changed, met, published_from, settled}
use Rattle.rulebook.specs.Trace.{was_shown, shows}
use Rattle.rulebook.proofs.Settled.{named, same_code_refl, some_in_order, kept_named}
use Rattle.rulebook.proofs.Sieves.{some_none}

-- the test of which `shows` asks whether any passes
abbrev pub shown_as : Code → Record → Bool
shown_as code t = same_code t.code code && was_shown t.state

-- codes that nothing shows are those of trades that were not seen
pub unshown : (P : Code → Type 0) (xs : List Record) → ((c : Code) → P c → list_any (shown_as c) xs ≡ false) → All (λ t. P t.code → was_shown t.state ≡ false) xs
unshown P xs h =
    All-weaker (Has xs) (λ t. P t.code → was_shown t.state ≡ false) (λ t has p.
    let off : shown_as t.code t ≡ false = all-has (λ u. shown_as t.code u ≡ false) xs t (some_none (shown_as t.code) xs (h t.code p)) has in
    subst (λ (b : Bool). (b && was_shown t.state) ≡ false) (same_code_refl t.code) off)
    xs (all_has_itself xs)

-- what publishing does to one trade
abbrev pub one_published : ℕ → ℕ → List Record → Record → Record
one_published day number [] x = x
one_published day number (d ∷ ds) x =
    one_published day (number + 1) ds (cond (same_code x.code d.code) (met Due (record { day = day; number = number }) x) x)

pub published_each : (day number : ℕ) (ds xs : List Record) → published_from day number ds xs ≡ map (one_published day number ds) xs
published_each day number [] xs = go xs where
  go : (ys : List Record) → ys ≡ map (one_published day number []) ys
  go [] = refl
  go (y ∷ ys) = ap (λ (zs : List Record). y ∷ zs) (go ys)
published_each day number (d ∷ ds) xs = published_each day (number + 1) ds (changed d.code (met Due (record { day = day; number = number })) xs) ∙ go xs where
  go : (ys : List Record) → map (one_published day (number + 1) ds) (changed d.code (met Due (record { day = day; number = number })) ys) ≡ map (one_published day number (d ∷ ds)) ys
  go [] = refl
  go (y ∷ ys) = ap (λ (zs : List Record). one_published day number (d ∷ ds) y ∷ zs) (go ys)

one_code : (day number : ℕ) (ds : List Record) (x : Record) → (one_published day number ds x).code ≡ x.code
one_code day number [] x = refl
one_code day number (d ∷ ds) x = one_code day (number + 1) ds _ ∙ go (same_code x.code d.code) where
  go : (b : Bool) → (cond b (met Due (record { day = day; number = number }) x) x).code ≡ x.code
  go b = search rules

shown_still : (s : State) → was_shown s ≡ true → was_shown (after s Due) ≡ true
shown_still s e = search rules

shown_due : (s : State) → waits s ≡ true → was_shown (after s Due) ≡ true
shown_due s e = search rules

-- a trade that was seen stays seen
one_still : (day number : ℕ) (ds : List Record) (x : Record) → was_shown x.state ≡ true → was_shown (one_published day number ds x).state ≡ true
one_still day number [] x e = e
one_still day number (d ∷ ds) x e = one_still day (number + 1) ds _ (go (same_code x.code d.code)) where
  go : (b : Bool) → was_shown (cond b (met Due (record { day = day; number = number }) x) x).state ≡ true
  go true = shown_still x.state e
  go false = e

-- a trade that waits is seen once the trade of its code has fallen due
one_seen : (day number : ℕ) (ds : List Record) (x : Record) → waits x.state ≡ true → named ds x ≡ true
    → was_shown (one_published day number ds x).state ≡ true
one_seen day number [] x w e = absurd (false≢true e)
one_seen day number (d ∷ ds) x w e =
    go (same_code x.code d.code) e (λ k. one_seen day (number + 1) ds x w k) where
      go : (b : Bool) → (b || named ds x) ≡ true
          → (named ds x ≡ true → was_shown (one_published day (number + 1) ds x).state ≡ true)
          → was_shown (one_published day (number + 1) ds (cond b (met Due (record { day = day; number = number }) x) x)).state ≡ true
      go true i k = one_still day (number + 1) ds _ (shown_due x.state w)
      go false i k = k i

not_due : (P : Code → Type 0) (clock day number : ℕ) (ds xs : List Record) → All (λ t. P t.code → was_shown t.state ≡ false) (map (one_published day number ds) xs)
    → All (λ x. is_due clock x ≡ true → named ds x ≡ true) xs → All (λ t. P t.code → is_due clock t ≡ false) xs
not_due P clock day number ds [] u v = tt
not_due P clock day number ds (x ∷ xs) u v =
    (λ p. go (is_due clock x) refl (u.0 (subst P (sym (one_code day number ds x)) p)), not_due P clock day number ds xs u.1 v.1) where
      go : (b : Bool) → is_due clock x ≡ b → was_shown (one_published day number ds x).state ≡ false → is_due clock x ≡ false
      go true e k = absurd (both_ways _ k (one_seen day number ds x (and_parts _ _ e).0 (v.0 e)))
      go false e k = e

-- where nothing shows a code once all that is due is published, no trade of that code is due
pub none_due : (P : Code → Type 0) (nb : Notebook) → ((c : Code) → P c → shows (settled nb) c ≡ false) → All (λ t. P t.code → is_due nb.clock t ≡ false) nb.records
none_due P nb h =
    not_due P nb.clock (latest_day nb.days) (nb.written + 1) (due_now nb) nb.records
    (subst (λ (ts : List Record). All (λ t. P t.code → was_shown t.state ≡ false) ts)
    (published_each (latest_day nb.days) (nb.written + 1) (due_now nb) nb.records) (unshown P (settled nb).records h))
    (All-weaker _ _ (λ x k e. some_in_order published_before (λ d. same_code x.code d.code) (filter (is_due nb.clock) nb.records) ∙ k e)
    nb.records (kept_named (is_due nb.clock) nb.records))
