-- A register has no more keys than there are trades kept under one.
use Rattle.std.proofs.Common.{◌≡◌, ℕ, ◌+◌, ◌<◌, ◌≤◌, Bool, true, false, cond, not, ◌||◌, List, [], ◌∷◌, length, is_some, Some, None, filter, Option, sym, refl, ap, ◌∙◌, subst, ⊎_elim, arith}
use Rattle.std.specs.List.{list_any}
use Rattle.std.proofs.lemmas.List.Sums.{length-filter, count_by-le-length}
use Rattle.std.proofs.lemmas.Bool.Decides.{nat_tests}
use Rattle.std.proofs.lemmas.Bool.{cases_Bool, both_ways, and_parts, not-true}
use Rattle.register.specs.Laws.{Laws}
use Rattle.register.specs.Lists.{Rising, has, without}
use Rattle.register.specs.Order.{same}
use Rattle.register.proofs.Rises.{rising_kept_by}
use Rattle.rulebook.specs.declared.record.Record.{Record}
use Rattle.ledger.specs.Mirrors.{is_key, Mirrors}

pub kept_most : {X : Type 0} (p : X → Bool) (xs : List X) → length (filter p xs) ≤ length xs
kept_most p xs = omega (arith, length-filter p xs, count_by-le-length p xs)

module _ {K : Type 0} {lt : K → K → Bool} (laws : Laws lt) where
  no_keys : (ks : List K) → ((k : K) → has lt k ks ≡ true → false ≡ true) → length ks ≤ 0
  no_keys [] none = omega arith
  no_keys (k ∷ ks) none = absurd (both_ways false refl (none k (ap (λ b. b || has lt k ks) (laws.same_self k))))

  -- one more trade, kept under a key or under none, where n bounds what the others cover
  one_more : (o : Option K) (held : K → Bool) (n : ℕ) → ((ks : List K) → Rising lt ks → ((k : K) → has lt k ks ≡ true → held k ≡ true) → length ks ≤ n) → (ks : List K) → Rising lt ks → ((k : K) → has lt k ks ≡ true → (is_key lt o k || held k) ≡ true) → length ks ≤ cond (is_some o) 1 0 + n
  one_more None held n others ks r covered = let h = others ks r covered in omega arith
  one_more (Some j) held n others ks r covered =
      ⊎_elim
      (λ (e : has lt j ks ≡ true).
      let fewer = others (without lt j ks) (rising_kept_by lt (λ x. not (same lt x j)) ks r) left in
      let one = laws.length_without j ks r e in
      omega arith)
      (λ (e : has lt j ks ≡ false).
      let same-many = others ks r (λ k h. held_by k (is_not k e h) h) in
      omega arith)
      (cases_Bool (has lt j ks))
    where
      held_by : (k : K) → same lt j k ≡ false → has lt k ks ≡ true → held k ≡ true
      held_by k n h = subst (λ b. (b || held k) ≡ true) n (covered k h)

      left : (k : K) → has lt k (without lt j ks) ≡ true → held k ≡ true
      left k h =
          let parts = and_parts (not (same lt j k)) (has lt k ks) (sym (laws.has_without j k ks) ∙ h) in
          held_by k (not-true (same lt j k) parts.0) parts.1

      is_not : (k : K) → has lt j ks ≡ false → has lt k ks ≡ true → same lt j k ≡ false
      is_not k e h = grind (arith, nat_tests, e, h, laws.same_is j k)

  module _ (f : Record → Option K) where
    covers : (rs : List Record) (ks : List K) → Rising lt ks → ((k : K) → has lt k ks ≡ true → list_any (λ t. is_key lt (f t) k) rs ≡ true) → length ks ≤ length (filter (λ t. is_some (f t)) rs)
    covers [] ks r covered = no_keys ks covered
    covers (t ∷ rs) ks r covered =
        let rest = filter (λ u. is_some (f u)) rs in
        let h = one_more (f t) (λ k. list_any (λ u. is_key lt (f u) k) rs) (length rest) (covers rs) ks r covered in
        let e = counted (is_some (f t)) rest in
        omega arith
      where
        counted : (b : Bool) (l : List Record) → length (cond b (t ∷ l) l) ≡ cond b 1 0 + length l
        counted true l = omega arith
        counted false l = omega arith

    pub keys_within : (rs : List Record) (ks : List K) → Rising lt ks → Mirrors lt f rs ks → length ks ≤ length (filter (λ t. is_some (f t)) rs)
    keys_within rs ks r m = covers rs ks r (λ k h. sym (m k) ∙ h)

-- fewer pass where one does not
pub kept_fewer : {X : Type 0} (p : X → Bool) (xs : List X) → list_any (λ x. not (p x)) xs ≡ true → length (filter p xs) < length xs
kept_fewer p [] e = absurd (both_ways false refl e)
kept_fewer p (x ∷ xs) e =
    elim (p x) as (λ b. (not b || list_any (λ y. not (p y)) xs) ≡ true → length (cond b (x ∷ filter p xs) (filter p xs)) < length (x ∷ xs)) [
      | true ↦ (λ h. let fewer = kept_fewer p xs h in omega arith)
      | false ↦ (λ h. let most = kept_most p xs in omega arith)
    ] e
