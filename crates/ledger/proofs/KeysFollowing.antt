-- A register follows the trades where it is told of each change: a key put if there is one, or taken out if there is one.
use Rattle.std.proofs.Common.{◌≡◌, ℕ, ◌<◌, ◌≤◌, Bool, true, false, not, ◌||◌, List, [], ◌∷◌, ◌++◌, length, is_some, Some, None, Option, sym, refl, ap, ◌∙◌, ⊎_elim, arith}
use Rattle.std.proofs.ByRecursion.{All-weaker}
use Rattle.std.proofs.lemmas.Bool.Decides.{nat_tests}
use Rattle.std.proofs.lemmas.Bool.{cases_Bool, lt-ltb}
use Rattle.std.specs.List.{list_any, AllByRecursion as All}
use Rattle.register.specs.Laws.{Laws}
use Rattle.register.specs.Lists.{Rising, has, with_key}
use Rattle.register.specs.Order.{same}
use Rattle.report.specs.declared.report.Code.{Code}
use Rattle.rulebook.specs.declared.record.Record.{Record}
use Rattle.rulebook.specs.Notebook.{same_code}
use Rattle.rulebook.specs.Taken.{changed}
use Rattle.ledger.specs.Mirrors.{is_key, Mirrors}
use Rattle.ledger.specs.SheetKeys.{put_some, out_some}
use Rattle.ledger.proofs.Mirroring.{mirrors_added, mirrors_added_without_key, mirrors_same, mirrors_come, mirrors_gone}
use Rattle.ledger.proofs.Rooms.{keys_within, kept_most, kept_fewer}
use Rattle.ledger.proofs.Somewhere.{some_where}

-- a key that is not in, and for which there is a place, enters
pub put_enters : {K : Type 0} (lt : K → K → Bool) (k : K) (places : ℕ) (ks : List K) → has lt k ks ≡ false → length ks < places → put_some lt (Some k) places ks ≡ with_key lt k ks
put_enters lt k places ks absent room = rw (absent, lt-ltb (length ks) places room)

module _ {K : Type 0} {lt : K → K → Bool} (laws : Laws lt) (f : Record → Option K) where
  -- where there is a place, a key is in after it was put
  put_has : (k : K) (places : ℕ) (ks : List K) → length ks < places → (j : K) → has lt j (put_some lt (Some k) places ks) ≡ has lt j (with_key lt k ks)
  put_has k places ks room j =
      ⊎_elim
      (λ (e : has lt k ks ≡ true). rw e (sym (laws.has_with k j ks ∙ already e)))
      (λ (e : has lt k ks ≡ false). ap (has lt j) (put_enters lt k places ks e room))
      (cases_Bool (has lt k ks))
    where
      already : has lt k ks ≡ true → (same lt k j || has lt j ks) ≡ has lt j ks
      already e = grind (arith, nat_tests, e, laws.same_is k j)

  module _ (rs : List Record) (ks : List K) (rising : Rising lt ks) (m : Mirrors lt f rs ks) (places : ℕ) where
    -- a trade is added, and its key put if it has one
    pub follows_added : (t : Record) (o : Option K) → f t ≡ o → length rs < places → Mirrors lt f (rs ++ t ∷ []) (put_some lt o places ks)
    follows_added t None e room = mirrors_added_without_key laws f rs ks t e m
    follows_added t (Some k) e room = λ j. put_has k places ks few j ∙ mirrors_added laws f rs ks t k e m j
      where
        few : length ks < places
        few =
            let a = keys_within laws f rs ks rising m in
            let b = kept_most (λ u. is_some (f u)) rs in
            omega arith

    module _ (code : Code) (g : Record → Record) (t : Record) (only : All (λ u. same_code u.code code ≡ true → u ≡ t) rs) where
      -- the trade of a code changes, and its key is put if it comes to have one
      pub follows_come : (o : Option K) → list_any (λ u. same_code u.code code) rs ≡ true → f t ≡ None → f (g t) ≡ o → length rs ≤ places → Mirrors lt f (changed code g rs) (put_some lt o places ks)
      follows_come None there had-none has-none room = mirrors_same laws f code g t rs ks only m (has-none ∙ sym had-none)
      follows_come (Some k) there had-none has-k room =
          λ j. put_has k places ks few j ∙ mirrors_come laws f code g t rs ks only m k there had-none has-k j
        where
          one_without : list_any (λ u. not (is_some (f u))) rs ≡ true
          one_without =
              some_where
              (λ u. same_code u.code code)
              (λ u. not (is_some (f u)))
              rs
              (All-weaker
              (λ u. same_code u.code code ≡ true → u ≡ t)
              (λ u. same_code u.code code ≡ true → not (is_some (f u)) ≡ true)
              (λ u is-t e. ap (λ v. not (is_some (f v))) (is-t e) ∙ ap (λ o. not (is_some o)) had-none)
              rs
              only)
              there

          few : length ks < places
          few =
              let a = keys_within laws f rs ks rising m in
              let b = kept_fewer (λ u. is_some (f u)) rs one_without in
              omega arith

      -- and is taken out if it had one and has it no more
      pub follows_gone : (o : Option K) → f t ≡ o → f (g t) ≡ None → ((k : K) → o ≡ Some k → (u : Record) → is_key lt (f u) k ≡ true → same_code u.code code ≡ true) → Mirrors lt f (changed code g rs) (out_some lt o ks)
      follows_gone None had-none has-none tells = mirrors_same laws f code g t rs ks only m (has-none ∙ sym had-none)
      follows_gone (Some k) had-k has-none tells = mirrors_gone laws f code g t rs ks only m k had-k has-none (tells k refl)
