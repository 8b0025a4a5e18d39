-- The place of a key among keys that rise.
use Rattle.std.proofs.Common.{◌≡◌, ℕ, zero, suc, ◌+◌, ◌<◌, ◌≤◌, Bool, true, false, not, List, [], ◌∷◌, length, get_or, take, drop, filter, refl, sym, ap, ◌∙◌, add-one, arith}
use Rattle.std.specs.List.Sorted.{IsPartitionPoint, IsPartitionedBy}
use Rattle.std.specs.List.{AllByRecursion as All}
use Rattle.std.proofs.lemmas.List.{take-append-drop, drop_more, drop_all}
use Rattle.std.proofs.lemmas.List.Elements.{filter-append}
use Rattle.std.proofs.ByRecursion.{kept_by_passes}
use Rattle.std.proofs.lemmas.Bool.{not-true}
use Rattle.register.specs.Order.{Total, same}
use Rattle.register.specs.Lists.{Rising, has, without}
use Rattle.register.specs.Places.{Cut, Here, Gap}
use Rattle.register.proofs.Totals.{apart_after, same_self}
use Rattle.register.proofs.Members.{above_absent, after_absent, has_from, has_before}
use Rattle.register.proofs.Rises.{rising_at, rising_drop, above_more, without_absent}

-- where what passes stands in front of a place, and what does not from there on
parted : {X : Type 0} (p : X → Bool) (xs : List X) (at : ℕ) → IsPartitionPoint (λ x. p x ≡ true) (λ x. p x ≡ false) xs at → (filter p xs ≡ take at xs) × (filter (λ x. not (p x)) xs ≡ drop at xs)
parted p [] zero h = (refl, refl)
parted p [] (suc at) h = (refl, refl)
parted p (x ∷ xs) zero h =
    let e : p x ≡ false = h.1 0 x (omega arith) (omega arith) in
    let rest = parted p xs zero (λ i d l m. absurd (omega arith), λ i d l m. h.1 (suc i) d (omega arith) (omega arith)) in
    rw e (rest.0, ap (λ l. x ∷ l) rest.1)
parted p (x ∷ xs) (suc at) h =
    let e : p x ≡ true = h.0 0 x (omega arith) (omega arith) in
    let rest = parted p xs at (λ i d l m. h.0 (suc i) d (omega arith) (omega arith), λ i d l m. h.1 (suc i) d (omega arith) (omega arith)) in
    rw e (ap (λ l. x ∷ l) rest.0, rest.1)

-- a key that is read at a place begins what stands from there on
pub from_read : {X : Type 0} (xs : List X) (at : ℕ) (x : X) → at < length xs → x ≡ get_or xs at x → drop at xs ≡ x ∷ drop (at + 1) xs
from_read xs at x h is = drop_more xs at x h ∙ ap (λ y. y ∷ drop (at + 1) xs) (sym is)

module _ {K : Type 0} (lt : K → K → Bool) (k : K) (xs : List K) where
  pub cut_at : (at : ℕ) → IsPartitionPoint (λ x. lt x k ≡ true) (λ x. lt x k ≡ false) xs at → Cut lt k xs at
  cut_at at h = let parts = parted (λ x. lt x k) xs at h in record { low = parts.0; high = parts.1 }

  module _ (o : Total lt) where
    -- k is in the list if it is among the keys from its place on
    has_rest : (at : ℕ) → Cut lt k xs at → has lt k xs ≡ has lt k (drop at xs)
    has_rest at c = sym (rw (c.high, o.never k) at (has_from lt o k k xs))

    absent_low : (at : ℕ) → Cut lt k xs at → has lt k (take at xs) ≡ false
    absent_low at c = rw (c.low, o.never k) at (has_before lt o k k xs)

    gap_from_absent : (at : ℕ) → Cut lt k xs at → has lt k xs ≡ false → Gap lt k xs at
    gap_from_absent at c n = record { none = n; more = rw (after_absent lt o k xs n, c.low, c.high) }

    pub gap_end : (at : ℕ) → Cut lt k xs at → length xs ≤ at → Gap lt k xs at
    gap_end at c e = gap_from_absent at c (has_rest at c ∙ ap (has lt k) (drop_all at xs e))

    -- those before k stand in front
    pub partitioned : Rising lt xs → IsPartitionedBy (λ x. lt x k) xs
    partitioned u i j d h l e = grind (arith, o.onward (get_or xs i d) (get_or xs j d) k, rising_at lt xs u i j d)

    module _ (at : ℕ) (x : K) (c : Cut lt k xs at) (u : Rising lt xs) (h : at < length xs) (is : x ≡ get_or xs at x) where
      front : Rising lt (x ∷ drop (at + 1) xs)
      front = rw (from_read xs at x h is) at (rising_drop lt at xs u)

      pub gap_at : lt k x ≡ true → Gap lt k xs at
      gap_at e = gap_from_absent at c (grind (arith, has_rest at c, from_read xs at x h is, apart_after lt x k e, above_absent lt k (drop (at + 1) xs) (above_more lt o k x (drop (at + 1) xs) e front.0)))

      pub here_at : lt k x ≡ false → Here lt k xs at
      here_at e =
          let rest = drop (at + 1) xs in
          let high : All (λ y. not (lt y k) ≡ true) (x ∷ rest) = rw (c.high, from_read xs at x h is) at (kept_by_passes (λ y. not (lt y k)) xs) in
          let f : x ≡ k = o.one x k (not-true (lt x k) high.0) e in
          let s : same lt x k ≡ true = rw f (same_self lt o k) in
          let out : has lt k rest ≡ false = rw (sym f) (above_absent lt x rest front.0) in
          record {
            there = has_rest at c ∙ ap (has lt k) (from_read xs at x h is) ∙ rw s;
            rest = ap (without lt k) (sym (take-append-drop at xs)) ∙ filter-append (λ y. not (same lt y k)) (take at xs) (drop at xs) ∙ rw (without_absent lt k (take at xs) (absent_low at c), from_read xs at x h is, s, without_absent lt k rest out, add-one);
          }
