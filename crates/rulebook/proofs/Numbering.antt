-- Numbers that count the entries of each day from 1.
use Rattle.std.proofs.Common.{◌≡◌, ℕ, zero, suc, ◌+◌, Bool, cond, eqb, ◌⊎◌, List, [], ◌∷◌, ◌++◌, map, length, filter, sym, refl, ap, ◌∙◌, subst, inl, inr, append-nil, arith, length-append}
use Rattle.std.specs.List.{range_with_len, AllByRecursion as All}
use Rattle.std.proofs.lemmas.List.Elements.{filter-append}
use Rattle.std.proofs.lemmas.List.{length-map, map-append}
use Rattle.std.proofs.lemmas.Bool.{ne_eqb, cases_eq, cond_both}
use Rattle.std.proofs.lemmas.Bool.Decides.{nat_tests}
use Rattle.std.proofs.ByRecursion.{All-weaker}
use Rattle.rulebook.specs.Gaps.{Counting}

-- the numbers of the entries of a day
abbrev pub numbers_on : {X : Type 0} → (X → ℕ) → (X → ℕ) → List X → ℕ → List ℕ
numbers_on day number xs d = map number (filter (λ x. eqb (day x) d) xs)

pub numbers_append : (first m n : ℕ) → range_with_len first m ++ range_with_len (first + m) n ≡ range_with_len first (m + n)
numbers_append first zero n =
    let e : first + 0 ≡ first = omega arith in
    let f : 0 + n ≡ n = omega arith in
    simp (e, f)
numbers_append first (suc m) n =
    let e : first + suc m ≡ (first + 1) + m = omega arith in
    let f : suc m + n ≡ suc (m + n) = omega arith in
    simp (e, f) (ap (λ (ns : List ℕ). first ∷ ns) (numbers_append (first + 1) m n))

counting_append : (ns ms : List ℕ) → Counting ns → ms ≡ range_with_len (length ns + 1) (length ms) → Counting (ns ++ ms)
counting_append ns ms e f =
    let one : length ns + 1 ≡ 1 + length ns = omega arith in
    let joined : ns ++ ms ≡ range_with_len 1 (length ns) ++ range_with_len (1 + length ns) (length ms) =
    ap (λ (x : List ℕ). x ++ ms) e ∙ ap (λ (x : List ℕ). range_with_len 1 (length ns) ++ x) (f ∙ ap (λ (x : ℕ). range_with_len x (length ms)) one) in
    joined ∙ numbers_append 1 (length ns) (length ms) ∙ ap (range_with_len 1) (sym (length-append ns ms))

module _ {X : Type 0} (day number : X → ℕ) where
  pub numbers_on_append : (xs ys : List X) (d : ℕ) → numbers_on day number (xs ++ ys) d ≡ numbers_on day number xs d ++ numbers_on day number ys d
  numbers_on_append xs ys d =
      ap (map number) (filter-append (λ x. eqb (day x) d) xs ys) ∙ map-append number (filter (λ x. eqb (day x) d) xs) (filter (λ x. eqb (day x) d) ys)

  -- entries all of one day
  pub all_on : (xs : List X) (d : ℕ) → All (λ x. day x ≡ d) xs → numbers_on day number xs d ≡ map number xs
  all_on [] d h = refl
  all_on (x ∷ xs) d (e, h) = grind (arith, nat_tests, e, all_on xs d h)

  pub none_on : (xs : List X) (d : ℕ) → All (λ x. day x ≡ d → ⊥) xs → numbers_on day number xs d ≡ []
  none_on [] d h = refl
  none_on (x ∷ xs) d (e, h) = grind (arith, nat_tests, ne_eqb (day x) d e, none_on xs d h)

  others : (xs : List X) (d e : ℕ) → (d ≡ e → ⊥) → All (λ x. day x ≡ d) xs → All (λ x. day x ≡ e → ⊥) xs
  others xs d e n h = All-weaker (λ x. day x ≡ d) (λ x. day x ≡ e → ⊥) (λ x p q. n (sym p ∙ q)) xs h

  -- entries of one day go on with its numbers
  pub counting_on : (xs ys : List X) (d : ℕ) → ((e : ℕ) → Counting (numbers_on day number xs e)) → All (λ y. day y ≡ d) ys
      → map number ys ≡ range_with_len (length (numbers_on day number xs d) + 1) (length ys) → (e : ℕ) → Counting (numbers_on day number (xs ++ ys) e)
  counting_on xs ys d h of-d go e = by_cases (cases_eq d e)
    where
      by_cases : (d ≡ e) ⊎ (d ≡ e → ⊥) → Counting (numbers_on day number (xs ++ ys) e)
      by_cases (inl same) =
          let on : numbers_on day number ys d ≡ map number ys = all_on ys d of-d in
          let long : length (numbers_on day number ys d) ≡ length ys = ap length on ∙ length-map ys number in
          let go_on : numbers_on day number ys d ≡ range_with_len (length (numbers_on day number xs d) + 1) (length (numbers_on day number ys d)) =
          on ∙ go ∙ ap (range_with_len (length (numbers_on day number xs d) + 1)) (sym long) in
          subst (λ (x : ℕ). Counting (numbers_on day number (xs ++ ys) x)) same
          (subst Counting (sym (numbers_on_append xs ys d)) (counting_append (numbers_on day number xs d) (numbers_on day number ys d) (h d) go_on))
      by_cases (inr other) =
          let none : numbers_on day number ys e ≡ [] = none_on ys e (others ys d e other of-d) in
          subst Counting (sym (numbers_on_append xs ys e ∙ ap (λ (ns : List ℕ). numbers_on day number xs e ++ ns) none ∙ append-nil (numbers_on day number xs e))) (h e)

  -- what is kept by a test on the day alone
  pub kept_days : (p : ℕ → Bool) (xs : List X) (d : ℕ) → numbers_on day number (filter (λ x. p (day x)) xs) d ≡ cond (p d) (numbers_on day number xs d) []
  kept_days p [] d = grind (arith, nat_tests)
  kept_days p (x ∷ xs) d = grind (arith, nat_tests, kept_days p xs d)

  -- and so it keeps each day's count
  pub counting_kept : (p : ℕ → Bool) (xs : List X) → ((d : ℕ) → Counting (numbers_on day number xs d))
      → (d : ℕ) → Counting (numbers_on day number (filter (λ x. p (day x)) xs) d)
  counting_kept p xs h d = subst Counting (sym (kept_days p xs d)) (cond_both (p d) (numbers_on day number xs d) [] Counting (λ e. h d) (λ e. refl))

  -- numbers read off what the entries carry
  pub numbers_on_map : {Y : Type 0} (f : Y → X) (ys : List Y) (d : ℕ) → numbers_on (λ y. day (f y)) (λ y. number (f y)) ys d ≡ numbers_on day number (map f ys) d
  numbers_on_map {Y = Y} f [] d = refl
  numbers_on_map {Y = Y} f (y ∷ ys) d = grind (arith, nat_tests, numbers_on_map f ys d)
