-- What a search for an ISIN's place finds, and what a listing leaves.
use Rattle.std.proofs.Common.{◌≡◌, ℕ, zero, suc, ◌+◌, ◌<◌, ◌≤◌, true, false, cond, ltb, ◌⊎◌, List, [], ◌∷◌, ◌++◌, map, length, get_or, take, set, is_some, Some, None, Option, sym, refl, ap, ◌∙◌, inl, inr, arith}
use lib.Seq.{take-set-lt}
use Rattle.std.specs.List.{find, position_from, AllByRecursion as All}
use Rattle.std.proofs.lemmas.List.{get_or_default, get_or-take, length-take-le, take_more_set}
use Rattle.std.proofs.lemmas.Iterator.Adapters.{position_from-zero}
use Rattle.std.proofs.lemmas.List.Quantifiers.{position-Some}
use Rattle.std.proofs.lemmas.Bool.{true≢false, lt-ltb, cond-true, cond-false}
use Rattle.identifier.specs.declared.isin.Isin.{Isin}
use Rattle.report.specs.declared.security.Security.{Security}
use Rattle.rulebook.specs.declared.record.Record.{Record}
use Rattle.rulebook.specs.Notebook.{same_isin}
use Rattle.rulebook.specs.Taken.{with_security}
use Rattle.ledger.specs.declared.listed.Listed.{Listed}
use Rattle.ledger.specs.Listing.{untraded, written_over, with_listing, place_among, slice_at, slice_listing, count_at, count_listing, Listing}
use Rattle.ledger.specs.Places.{place_of}
use Rattle.ledger.specs.Totalled.{StandsAt}
use Rattle.ledger.proofs.Isins.{isin_sym}

-- the first that has the ISIN is the one that a search finds, and that a listing writes over
first_security :
    (isin : Isin) (xs : List Listed) (i : ℕ) (d : Listed) → i < length xs → same_isin (get_or xs i d).security.isin isin ≡ true
    → ((k : ℕ) → k < i → same_isin (get_or xs k d).security.isin isin ≡ false)
    → find (λ s. same_isin s.isin isin) (map (λ l. l.security) xs) ≡ Some (get_or xs i d).security
first_security isin [] i d h is none = absurd (omega arith)
first_security isin (x ∷ xs) zero d h is none = cond-true _ _ _ is
first_security isin (x ∷ xs) (suc i) d h is none =
    cond-false _ _ _ (none 0 (omega arith)) ∙ first_security isin xs i d (omega arith) is (λ k l. none (suc k) (omega arith))

first_over :
    (s : Security) (xs : List Listed) (i : ℕ) (d : Listed) → i < length xs → same_isin (get_or xs i d).security.isin s.isin ≡ true
    → ((k : ℕ) → k < i → same_isin (get_or xs k d).security.isin s.isin ≡ false)
    → with_listing s xs ≡ set xs i (written_over s (get_or xs i d))
first_over s [] i d h is none = absurd (omega arith)
first_over s (x ∷ xs) zero d h is none = cond-true _ _ _ is
first_over s (x ∷ xs) (suc i) d h is none =
    cond-false _ _ _ (none 0 (omega arith))
    ∙ ap (λ ys. x ∷ ys) (first_over s xs i d (omega arith) is (λ k l. none (suc k) (omega arith)))

-- found at a place
pub record FoundAt (isin : Isin) (xs : List Listed) (place : ℕ) : Type 0 where
  pub within : place < length xs
  pub same : (d : Listed) → same_isin (get_or xs place d).security.isin isin ≡ true
  pub security : (d : Listed) → find (λ s. same_isin s.isin isin) (map (λ l. l.security) xs) ≡ Some (get_or xs place d).security
  pub over : (s : Security) (d : Listed) → s.isin ≡ isin → with_listing s xs ≡ set xs place (written_over s (get_or xs place d))

pub found : (isin : Isin) (xs : List Listed) (place : ℕ) → place_of xs isin ≡ Some place → FoundAt isin xs place
found isin [] place h = absurd cc
found isin (x ∷ tail) place h =
    let xs = x ∷ tail in
    let f = λ (d : Listed). position-Some (λ l. same_isin l.security.isin isin) xs place d h in
    record {
      within = (f x).0;
      same = λ d. (f d).1;
      security = λ d. first_security isin xs place d (f d).0 (f d).1 (f d).2;
      over = λ s d is. first_over s xs place d (f d).0 (ap (same_isin _) is ∙ (f d).1) (λ k l. ap (same_isin _) is ∙ (f d).2 k l);
    }

-- so a trade of that ISIN stands there
pub stands_at :
    (ls : List Listed) (days : List ℕ) (t : Record) (place slot : ℕ) → place_of ls t.report.isin ≡ Some place
    → slot < length days → t.code.day ≡ get_or days slot 0 → StandsAt ls days t place slot
stands_at ls days t place slot h held day =
    let f = found t.report.isin ls place h in
    record {
      placed = f.within;
      held = held;
      isin = λ d. isin_sym (get_or ls place d).security.isin t.report.isin (f.same d);
      day = day;
    }

-- not found, so none has the ISIN
unlisted_from :
    (isin : Isin) (k : ℕ) (xs : List Listed) → position_from (λ l. same_isin l.security.isin isin) k xs ≡ None
    → All (λ l. same_isin l.security.isin isin ≡ false) xs
unlisted_from isin k [] h = tt
unlisted_from isin k (x ∷ xs) h =
    elim (same_isin x.security.isin isin) as
    (λ b. cond b (Some k) (position_from (λ l. same_isin l.security.isin isin) (k + 1) xs) ≡ None → (b ≡ false) × All (λ l. same_isin l.security.isin isin ≡ false) xs) [
      | true ↦ λ e. absurd cc
      | false ↦ λ e. (refl, unlisted_from isin (k + 1) xs e)
    ] h

pub unlisted : (isin : Isin) (xs : List Listed) → place_of xs isin ≡ None → All (λ l. same_isin l.security.isin isin ≡ false) xs
unlisted isin xs h = unlisted_from isin 0 xs (sym (position_from-zero (λ l. same_isin l.security.isin isin) xs) ∙ h)

pub no_security :
    (isin : Isin) (xs : List Listed) → All (λ l. same_isin l.security.isin isin ≡ false) xs
    → find (λ s. same_isin s.isin isin) (map (λ l. l.security) xs) ≡ None
no_security isin [] a = refl
no_security isin (x ∷ xs) a =
    ap (λ b. cond b (Some x.security) (find (λ s. same_isin s.isin isin) (map (λ l. l.security) xs))) a.0
    ∙ no_security isin xs a.1

-- a security that is not listed comes last
listing_last :
    (s : Security) (xs : List Listed) → All (λ l. same_isin l.security.isin s.isin ≡ false) xs
    → with_listing s xs ≡ xs ++ untraded s ∷ []
listing_last s [] a = refl
listing_last s (x ∷ xs) a =
    ap (λ t. cond t (written_over s x ∷ xs) (x ∷ with_listing s xs)) a.0 ∙ ap (λ ys. x ∷ ys) (listing_last s xs a.1)

-- the securities alone
pub securities_listing : (s : Security) (xs : List Listed) → map (λ l. l.security) (with_listing s xs) ≡ with_security s (map (λ l. l.security) xs)
securities_listing s [] = refl
securities_listing s (x ∷ xs) =
    elim (same_isin x.security.isin s.isin) as
    (λ b.
    map (λ l. l.security) (cond b (written_over s x ∷ xs) (x ∷ with_listing s xs)) ≡ cond b (s ∷ map (λ l. l.security) xs) (x.security ∷ with_security s (map (λ l. l.security) xs))) [
      | true ↦ refl
      | false ↦ ap (λ ys. x.security ∷ ys) (securities_listing s xs)
    ]

-- the first of the slice
module _ (s : Security) (count : ℕ) (ls : List Listed) (fits : count ≤ length ls) where
  pub place_below : (place : ℕ) → place_among s count ls ≡ Some place → place < count
  place_below place h =
      let w = (found s.isin (take count ls) place h).within in
      omega (arith, length-take-le count ls fits)

  front_found : (place : ℕ) → place_among s count ls ≡ Some place → take count (slice_at s count ls (Some place)) ≡ with_listing s (take count ls)
  front_found place h =
      let below = place_below place h in
      take-set-lt count ls place (written_over s (get_or ls place (untraded s))) below
      ∙ ap (λ l. set (take count ls) place (written_over s l)) (sym (get_or-take count ls place (untraded s) below))
      ∙ sym ((found s.isin (take count ls) place h).over s (untraded s) refl)

  front_new : place_among s count ls ≡ None → count < length ls → take (count + 1) (slice_at s count ls None) ≡ with_listing s (take count ls)
  front_new h room = take_more_set ls count (untraded s) room ∙ sym (listing_last s (take count ls) (unlisted s.isin (take count ls) h))

  front_at :
      (o : Option ℕ) → place_among s count ls ≡ o → (is_some (place_among s count ls) ≡ true) ⊎ (count < length ls)
      → take (count_at count (length ls) o) (slice_at s count ls o) ≡ with_listing s (take count ls)
  front_at (Some place) e room = front_found place e
  front_at None e (inl h) = let z : true ≡ false = sym h ∙ ap is_some e in absurd (true≢false z)
  front_at None e (inr h) =
      ap (λ n. take n (slice_at s count ls None)) (cond-true (ltb count (length ls)) (count + 1) count (lt-ltb count (length ls) h))
      ∙ front_new e h

  is_listing : (after : List Listed) (answer : ℕ) → after ≡ slice_listing s count ls → answer ≡ count_listing s count ls → Listing s count ls after answer
  is_listing after answer p q =
      let front : (is_some (place_among s count ls) ≡ true) ⊎ (count < length ls) → take answer after ≡ with_listing s (take count ls) =
      λ room. ap (λ n. take n after) q ∙ ap (λ l. take (count_listing s count ls) l) p ∙ front_at (place_among s count ls) refl room in
      record {
        slice = p;
        answered = q;
        front = front;
        securities = λ room. ap (map (λ l. l.security)) (front room) ∙ securities_listing s (take count ls);
      }

  -- as the code writes it: over the one of its ISIN, behind the last, or not at all
  pub lists_over : (place : ℕ) (d y : Listed) → place_among s count ls ≡ Some place → y ≡ written_over s (get_or ls place d) → Listing s count ls (set ls place y) count
  lists_over place d y e is =
      let within : place < length ls = omega (arith, place_below place e) in
      is_listing (set ls place y) count
      (ap (λ l. set ls place l) (is ∙ ap (written_over s) (get_or_default ls place d (untraded s) within))
      ∙ ap (slice_at s count ls) (sym e))
      (ap (count_at count (length ls)) (sym e))

  pub lists_behind : (y : Listed) → place_among s count ls ≡ None → count < length ls → y ≡ untraded s → Listing s count ls (set ls count y) (count + 1)
  lists_behind y e h is =
      is_listing (set ls count y) (count + 1) (ap (λ l. set ls count l) is ∙ ap (slice_at s count ls) (sym e))
      (sym (cond-true (ltb count (length ls)) (count + 1) count (lt-ltb count (length ls) h)) ∙ ap (count_at count (length ls)) (sym e))
