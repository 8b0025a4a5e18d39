-- ISINs of the same bytes, and securities that are apart.
use Rattle.std.proofs.Common.{◌≡◌, ℕ, zero, suc, ◌<◌, Bool, true, false, List, [], ◌∷◌, map, length, get_or, sym, refl, ap, ◌∙◌, arith}
use Rattle.std.specs.List.{AllByRecursion as All}
use Rattle.std.specs.Str.{bytes_eq}
use Rattle.std.proofs.ByRecursion.{All-get_or, All-weaker}
use Rattle.std.proofs.lemmas.Slice.Eq.{bytes_eq-Decides}
use Rattle.std.proofs.lemmas.List.{get_or-map, length-map}
use Rattle.std.proofs.lemmas.Bool.Decides.{nat_tests}
use Rattle.std.proofs.lemmas.Bool.{cond_both}
use Rattle.identifier.specs.declared.isin.Isin.{Isin}
use Rattle.report.specs.declared.security.Security.{Security}
use Rattle.rulebook.specs.Notebook.{same_isin}
use Rattle.rulebook.specs.Taken.{with_security}
use Rattle.ledger.specs.declared.listed.Listed.{Listed}
use Rattle.ledger.specs.Totalled.{Apart}

pub isin_bytes : (a b : Isin) → same_isin a b ≡ true → a.bytes ≡ b.bytes
isin_bytes a b e = (bytes_eq-Decides a.bytes b.bytes).0 e

pub isin_sym : (a b : Isin) → same_isin a b ≡ true → same_isin b a ≡ true
isin_sym a b e = (bytes_eq-Decides b.bytes a.bytes).1 (sym (isin_bytes a b e))

isin_sym_not : (a b : Isin) → same_isin a b ≡ false → same_isin b a ≡ false
isin_sym_not a b e = grind (arith, nat_tests, isin_sym b a)

-- what is said of one holds of the other
pub isin_moved : (a b c : Isin) (r : Bool) → same_isin a b ≡ true → same_isin b c ≡ r → same_isin a c ≡ r
isin_moved a b c r e h = ap (λ x. bytes_eq x c.bytes) (isin_bytes a b e) ∙ h

apart_at :
    (ss : List Security) (i j : ℕ) (d : Security) → Apart ss → i < length ss → j < length ss → (i ≡ j → ⊥)
    → same_isin (get_or ss i d).isin (get_or ss j d).isin ≡ false
apart_at [] i j d a h k ne = absurd (omega arith)
apart_at (s ∷ ss) zero zero d a h k ne = absurd (ne refl)
apart_at (s ∷ ss) zero (suc j) d a h k ne = All-get_or (λ x. same_isin s.isin x.isin ≡ false) ss j d (omega arith) a.0
apart_at (s ∷ ss) (suc i) zero d a h k ne =
    isin_sym_not s.isin (get_or ss i d).isin (All-get_or (λ x. same_isin s.isin x.isin ≡ false) ss i d (omega arith) a.0)
apart_at (s ∷ ss) (suc i) (suc j) d a h k ne =
    apart_at ss i j d a.1 (omega arith) (omega arith) (λ e. ne (ap suc e))

-- two places have two ISINs
pub apart_places :
    (ls : List Listed) (i j : ℕ) (d : Listed) → Apart (map (λ l. l.security) ls) → i < length ls → j < length ls → (i ≡ j → ⊥)
    → same_isin (get_or ls i d).security.isin (get_or ls j d).security.isin ≡ false
apart_places ls i j d a h k ne =
    let at : (n : ℕ) → n < length ls → get_or (map (λ l. l.security) ls) n d.security ≡ (get_or ls n d).security =
    λ n l. get_or-map (λ l. l.security) ls n d d.security l in
    let e = apart_at (map (λ l. l.security) ls) i j d.security a (simp length-map h) (simp length-map k) ne in
    ap (λ s. same_isin s.isin (get_or ls j d).security.isin) (sym (at i h))
    ∙ ap (λ s. same_isin (get_or (map (λ l. l.security) ls) i d.security).isin s.isin) (sym (at j k))
    ∙ e

-- a listing keeps the securities apart
all_with_security :
    (P : Security → Type 0) (s : Security) (ss : List Security) → All P ss → P s → All P (with_security s ss)
all_with_security P s [] a p = (p, tt)
all_with_security P s (x ∷ xs) a p =
    cond_both (same_isin x.isin s.isin) (s ∷ xs) (x ∷ with_security s xs) (All P) (λ e. (p, a.1)) (λ e. (a.0, all_with_security P s xs a.1 p))

pub apart_listing : (s : Security) (ss : List Security) → Apart ss → Apart (with_security s ss)
apart_listing s [] a = (tt, tt)
apart_listing s (x ∷ xs) a =
    cond_both (same_isin x.isin s.isin) (s ∷ xs) (x ∷ with_security s xs) Apart
    (λ e. (
      All-weaker (λ y. same_isin x.isin y.isin ≡ false) (λ y. same_isin s.isin y.isin ≡ false)
          (λ y h. isin_moved s.isin x.isin y.isin false (isin_sym x.isin s.isin e) h) xs a.0,
      a.1,
    ))
    (λ e. (all_with_security (λ y. same_isin x.isin y.isin ≡ false) s xs a.0 e, apart_listing s xs a.1))
