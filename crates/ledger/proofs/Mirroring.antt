-- A register follows the trades: what a change of the trades does to the keys.
use Rattle.std.proofs.Common.{◌≡◌, Bool, true, false, cond, not, ◌&&◌, ◌||◌, List, [], ◌∷◌, ◌++◌, Some, None, filter, Option, sym, refl, ap, ◌∙◌, subst, ⊎_elim, arith}
use Rattle.std.proofs.ByRecursion.{All-weaker}
use Rattle.std.proofs.lemmas.Bool.{cases_Bool}
use Rattle.std.proofs.lemmas.Bool.Decides.{nat_tests}
use Rattle.std.specs.List.{list_any, AllByRecursion as All}
use Rattle.register.specs.Laws.{Laws}
use Rattle.register.specs.Lists.{from, with_key, without}
use Rattle.register.specs.Order.{same}
use Rattle.report.specs.declared.report.Code.{Code}
use Rattle.rulebook.specs.declared.record.Record.{Record}
use Rattle.rulebook.specs.Notebook.{same_code}
use Rattle.rulebook.specs.Taken.{changed}
use Rattle.ledger.specs.Mirrors.{is_key, Mirrors}
use Rattle.ledger.proofs.Somewhere.{some_push, some_map, some_kept, some_and, some_or}

module _ {K : Type 0} {lt : K → K → Bool} (laws : Laws lt) (f : Record → Option K) where
  -- the key of a trade is k, and no other
  is_only : (o : Option K) (k j : K) → o ≡ Some k → is_key lt o j ≡ same lt k j
  is_only o k j e = ap (λ x. is_key lt x j) e

  is_none : (o : Option K) (j : K) → o ≡ None → is_key lt o j ≡ false
  is_none o j e = ap (λ x. is_key lt x j) e

  -- ---- a trade is added
  pub mirrors_added_without_key : (rs : List Record) (ks : List K) (t : Record) → f t ≡ None → Mirrors lt f rs ks → Mirrors lt f (rs ++ t ∷ []) ks
  mirrors_added_without_key rs ks t e m j =
      m j ∙ sym (some_push (λ u. is_key lt (f u) j) rs t ∙ ap (λ b. b || list_any (λ u. is_key lt (f u) j) rs) (is_none (f t) j e))

  pub mirrors_added : (rs : List Record) (ks : List K) (t : Record) (k : K) → f t ≡ Some k → Mirrors lt f rs ks → Mirrors lt f (rs ++ t ∷ []) (with_key lt k ks)
  mirrors_added rs ks t k e m j =
      laws.has_with k j ks
      ∙ ap (λ b. same lt k j || b) (m j)
      ∙ sym (some_push (λ u. is_key lt (f u) j) rs t ∙ ap (λ b. b || list_any (λ u. is_key lt (f u) j) rs) (is_only (f t) k j e))

  -- ---- the trade of a code changes: t, and all others of that code are t
  module _ (code : Code) (g : Record → Record) (t : Record) (rs : List Record) (ks : List K)
      (only : All (λ u. same_code u.code code ≡ true → u ≡ t) rs) (m : Mirrors lt f rs ks)
    where
      each_changed : (R : Bool → Record → Record → Type 0) → R true t (g t) → ((u : Record) → same_code u.code code ≡ false → R false u u) → All (λ u. R (same_code u.code code) u (cond (same_code u.code code) (g u) u)) rs
      each_changed R at_t other =
          All-weaker
          (λ u. same_code u.code code ≡ true → u ≡ t)
          (λ u. R (same_code u.code code) u (cond (same_code u.code code) (g u) u))
          (λ u is-t. either u (same_code u.code code) is-t (other u))
          rs
          only
        where
          either : (u : Record) (b : Bool) → (b ≡ true → u ≡ t) → (b ≡ false → R false u u) → R b u (cond b (g u) u)
          either u true is-t o = subst (λ v. R true v (g v)) (sym (is-t refl)) at_t
          either u false is-t o = o refl

      some_changed : (j : K) → list_any (λ u. is_key lt (f u) j) (changed code g rs) ≡ list_any (λ u. is_key lt (f (cond (same_code u.code code) (g u) u)) j) rs
      some_changed j = some_map (λ u. is_key lt (f u) j) (λ u. cond (same_code u.code code) (g u) u) rs

      pub mirrors_same : f (g t) ≡ f t → Mirrors lt f (changed code g rs) ks
      mirrors_same e j =
          m j
          ∙ sym (some_changed j
          ∙ some_and
          true
          (λ u. is_key lt (f (cond (same_code u.code code) (g u) u)) j)
          (λ u. is_key lt (f u) j)
          rs
          (each_changed (λ b u v. is_key lt (f v) j ≡ is_key lt (f u) j) (ap (λ o. is_key lt o j) e) (λ u o. refl)))

      -- only trades of the code have its key, which goes
      pub mirrors_gone : (k : K) → f t ≡ Some k → f (g t) ≡ None → ((u : Record) → is_key lt (f u) k ≡ true → same_code u.code code ≡ true) → Mirrors lt f (changed code g rs) (without lt k ks)
      mirrors_gone k had has-none tells j =
          laws.has_without k j ks
          ∙ ap (λ b. not (same lt k j) && b) (m j)
          ∙ sym (some_changed j
          ∙ some_and
          (not (same lt k j))
          (λ u. is_key lt (f (cond (same_code u.code code) (g u) u)) j)
          (λ u. is_key lt (f u) j)
          rs
          (each_changed (λ b u v. is_key lt (f v) j ≡ (not (same lt k j) && is_key lt (f u) j)) at_t other))
        where
          at_t : is_key lt (f (g t)) j ≡ (not (same lt k j) && is_key lt (f t) j)
          at_t = grind (arith, nat_tests, is_none (f (g t)) j has-none, is_only (f t) k j had)

          other : (u : Record) → same_code u.code code ≡ false → is_key lt (f u) j ≡ (not (same lt k j) && is_key lt (f u) j)
          other u o =
              ⊎_elim
              (λ (e : same lt k j ≡ true).
              let its : is_key lt (f u) j ≡ true → same_code u.code code ≡ true = λ y. tells u (ap (λ i. is_key lt (f u) i) (laws.same_is k j e) ∙ y) in
              grind (arith, nat_tests, its, o, e))
              (λ (e : same lt k j ≡ false). ap (λ b. not b && is_key lt (f u) j) (sym e))
              (cases_Bool (same lt k j))

      -- a trade has the code, and its key comes
      pub mirrors_come : (k : K) → list_any (λ u. same_code u.code code) rs ≡ true → f t ≡ None → f (g t) ≡ Some k → Mirrors lt f (changed code g rs) (with_key lt k ks)
      mirrors_come k there had-none has-k j =
          laws.has_with k j ks
          ∙ ap (λ b. same lt k j || b) (m j)
          ∙ ap (λ b. (b && same lt k j) || list_any (λ u. is_key lt (f u) j) rs) (sym there)
          ∙ sym (some_changed j
          ∙ some_or
          (same lt k j)
          (λ u. is_key lt (f (cond (same_code u.code code) (g u) u)) j)
          (λ u. same_code u.code code)
          (λ u. is_key lt (f u) j)
          rs
          (each_changed
          (λ b u v. is_key lt (f v) j ≡ ((b && same lt k j) || is_key lt (f u) j))
          (grind (arith, nat_tests, is_only (f (g t)) k j has-k, is_none (f t) j had-none))
          (λ u o. refl)))

  -- ---- trades are struck out, those whose keys are before a bound
  pub mirrors_kept : (p : Record → Bool) (low : K) (rs : List Record) (ks : List K) → All (λ t. (k : K) → f t ≡ Some k → p t ≡ not (lt k low)) rs → Mirrors lt f rs ks → Mirrors lt f (filter p rs) (from lt low ks)
  mirrors_kept p low rs ks passes m j =
      laws.has_from low j ks
      ∙ ap (λ b. not (lt j low) && b) (m j)
      ∙ sym (some_kept p (λ u. is_key lt (f u) j) rs
      ∙ some_and
      (not (lt j low))
      (λ u. p u && is_key lt (f u) j)
      (λ u. is_key lt (f u) j)
      rs
      (All-weaker
      (λ t. (k : K) → f t ≡ Some k → p t ≡ not (lt k low))
      (λ t. (p t && is_key lt (f t) j) ≡ (not (lt j low) && is_key lt (f t) j))
      (λ t h. at (f t) (p t) h)
      rs
      passes))
    where
      at : (o : Option K) (b : Bool) → ((k : K) → o ≡ Some k → b ≡ not (lt k low)) → (b && is_key lt o j) ≡ (not (lt j low) && is_key lt o j)
      at None b h = grind (arith, nat_tests)
      at (Some k) b h =
          ⊎_elim
          (λ (e : same lt k j ≡ true). ap (λ b. b && same lt k j) (h k refl ∙ ap (λ i. not (lt i low)) (laws.same_is k j e)))
          (λ (e : same lt k j ≡ false). grind (arith, nat_tests, e))
          (cases_Bool (same lt k j))
