-- Codes that count each day's trades are all different.
use Rattle.std.proofs.Common.{◌≡◌, ℕ, zero, suc, ◌+◌, ◌<◌, ◌≤◌, Bool, true, false, cond, eqb, ◌⊎◌, List, [], ◌∷◌, ◌++◌, map, length, filter, sym, refl, ap, ◌∙◌, subst, inl, inr, arith}
use Rattle.std.specs.List.{range_with_len, ContainsAt as Has, AllByRecursion as All}
use Rattle.std.proofs.ByRecursion.{all-has, All-weaker, has_push}
use Rattle.std.proofs.lemmas.Bool.{eqb-true, eq-eqb, and_parts}
use Rattle.report.specs.declared.report.Code.{Code}
use Rattle.rulebook.specs.declared.record.Record.{Record}
use Rattle.rulebook.specs.Notebook.{same_code}
use Rattle.rulebook.specs.Gaps.{Counting}
use Rattle.rulebook.proofs.Codes.{codes_of, all_coded}
use Rattle.rulebook.proofs.Reaching.{serials_on}
use Rattle.rulebook.proofs.Sieves.{has_cases}

-- of two codes of a day the later has the higher serial
abbrev pub Under : Code → Code → Type 0
Under a b = a.day ≡ b.day → a.serial < b.serial

abbrev pub Apart : List Code → Type 0
Apart [] = Unit {0}
Apart (c ∷ cs) = All (Under c) cs × Apart cs

-- serials go on from some number
GoingOn : List ℕ → Type 0
GoingOn ns = (first : ℕ) × (ns ≡ range_with_len first (length ns))

numbers_above : (first n m : ℕ) → m ≤ first → All (λ x. m ≤ x) (range_with_len first n)
numbers_above first zero m h = tt
numbers_above first (suc n) m h = (h, numbers_above (first + 1) n m (omega arith))

heads : {x y : ℕ} {xs ys : List ℕ} → x ∷ xs ≡ y ∷ ys → (x ≡ y) × (xs ≡ ys)
heads e = (cc, cc)

going_on_rest : (n : ℕ) (ns : List ℕ) → GoingOn (n ∷ ns) → All (λ x. n < x) ns × GoingOn ns
unfolding GoingOn
going_on_rest n ns (first, e) =
    let both = heads e in
    let above : All (λ x. first + 1 ≤ x) ns = subst (All (λ x. first + 1 ≤ x)) (sym both.1) (numbers_above (first + 1) (length ns) (first + 1) (omega arith)) in
    (All-weaker (λ x. first + 1 ≤ x) (λ x. n < x) (λ x h. omega (arith, both.0)) ns above, (first + 1, both.1))

read_off : (n d : ℕ) (cs : List Code) → All (λ x. n < x) (serials_on cs d) → All (λ c. d ≡ c.day → n < c.serial) cs
read_off n d [] h = tt
read_off n d (c ∷ cs) h = let both = either (eqb c.day d) refl h in (both.0, read_off n d cs both.1)
  where
    either : (b : Bool) → eqb c.day d ≡ b
        → All (λ x. n < x) (map (λ x. x.serial) (cond b (c ∷ filter (λ x. eqb x.day d) cs) (filter (λ x. eqb x.day d) cs)))
        → (d ≡ c.day → n < c.serial) × All (λ x. n < x) (serials_on cs d)
    either true e (p, h) = ((λ f. p), h)
    either false e h = ((λ f. let z : ◌≡◌ {A = Bool} false true = sym e ∙ eq-eqb c.day d (sym f) in absurd cc), h)

apart_from : (cs : List Code) → ((d : ℕ) → GoingOn (serials_on cs d)) → Apart cs
apart_from [] h = tt
apart_from (c ∷ cs) h = (
  read_off c.serial c.day cs (here (eqb c.day c.day) (eq-eqb c.day c.day refl) (h c.day)),
  apart_from cs (λ d. rest (eqb c.day d) d (h d)),
)
  where
    here : (b : Bool) → b ≡ true
        → GoingOn (map (λ x. x.serial) (cond b (c ∷ filter (λ x. eqb x.day c.day) cs) (filter (λ x. eqb x.day c.day) cs)))
        → All (λ x. c.serial < x) (serials_on cs c.day)
    here true e g = (going_on_rest c.serial (serials_on cs c.day) g).0
    here false e g = absurd cc

    rest : (b : Bool) (d : ℕ) → GoingOn (map (λ x. x.serial) (cond b (c ∷ filter (λ x. eqb x.day d) cs) (filter (λ x. eqb x.day d) cs)))
        → GoingOn (serials_on cs d)
    rest true d g = (going_on_rest c.serial (serials_on cs d) g).1
    rest false d g = g

pub counted_apart : (cs : List Code) → ((d : ℕ) → Counting (serials_on cs d)) → Apart cs
unfolding GoingOn
counted_apart cs h = apart_from cs (λ d. (1, h d))

-- codes that are tested the same are
pub same_code_is : (a b : Code) → same_code a b ≡ true → a ≡ b
same_code_is a b e =
    let both = and_parts (eqb a.day b.day) (eqb a.serial b.serial) e in
    ap {B = Code} (λ (d : ℕ). record { day = d; serial = a.serial }) (eqb-true _ _ both.0)
    ∙ ap {B = Code} (λ (n : ℕ). record { day = b.day; serial = n }) (eqb-true _ _ both.1)

-- so each code has one trade
pub one_of : (ts : List Record) → Apart (codes_of ts) → (u v : Record) → Has ts u → Has ts v → u.code ≡ v.code → u ≡ v
one_of [] h u v (k, lt, at) q e = absurd (omega arith)
one_of (t ∷ ts) (under, h) u v p q e = by_cases (has_cases t ts u p) (has_cases t ts v q) (λ p q. one_of ts h u v p q e)
  where
    by_cases : (t ≡ u) ⊎ Has ts u → (t ≡ v) ⊎ Has ts v → (Has ts u → Has ts v → u ≡ v) → u ≡ v
    by_cases (inl a) (inl b) rest = sym a ∙ b
    by_cases (inl a) (inr b) rest =
        let lower : Under t.code v.code = all-has (λ x. Under t.code x.code) ts v (all_coded (Under t.code) ts under) b in
        let lower-too : Under u.code v.code = subst (λ (x : Record). Under x.code v.code) a lower in
        absurd (omega (arith, lower-too (ap (λ (c : Code). c.day) e), ap (λ (c : Code). c.serial) e))
    by_cases (inr a) (inl b) rest =
        let lower : Under t.code u.code = all-has (λ x. Under t.code x.code) ts u (all_coded (Under t.code) ts under) a in
        let lower-too : Under v.code u.code = subst (λ (x : Record). Under x.code u.code) b lower in
        absurd (omega (arith, lower-too (ap (λ (c : Code). c.day) (sym e)), ap (λ (c : Code). c.serial) e))
    by_cases (inr a) (inr b) rest = rest a b

-- the last of them is above all others
pub apart_last : (cs : List Code) (c : Code) → Apart (cs ++ c ∷ []) → All (λ x. Under x c) cs
apart_last [] c h = tt
apart_last (x ∷ xs) c (under, h) = (all-has (Under x) (xs ++ c ∷ []) c under (has_push xs c), apart_last xs c h)
