-- What comes first by a test that ranks, and the key that ends a list of keys.
use Rattle.std.proofs.Common.{◌≡◌, ℕ, Bool, true, false, List, [], ◌∷◌, Some, None, Option, sym, refl, ap, ◌∙◌, subst, ⊎_elim, inl, inr}
use Rattle.std.proofs.ByRecursion.{All-weaker}
use Rattle.std.proofs.lemmas.Bool.{cases_Bool, both_ways, cond_both, or_cases, or_left, or_right}
use Rattle.std.specs.Cmp.{IsStrictWeakOrder}
use Rattle.std.specs.List.{list_any, AllByRecursion as All}
use Rattle.std.specs.Option.{option_map}
use Rattle.register.specs.Laws.{Laws}
use Rattle.register.specs.Order.{same}
use Rattle.rulebook.specs.Lists.{earlier_of, first_by}

module _ {X : Type 0} (before : X → X → Bool) where
  -- what holds of all holds of the first
  pub of_first : (P : X → Type 0) (x : X) (xs : List X) → All P (x ∷ xs) → P (earlier_of before x (first_by before xs))
  of_first P x [] h = h.0
  of_first P x (y ∷ ys) h =
      let m = earlier_of before y (first_by before ys) in
      cond_both (before m x) m x P (λ e. of_first P y ys h.1) (λ e. h.0)

  module _ (ranks : IsStrictWeakOrder before) where
    never_itself : (x : X) → before x x ≡ false
    never_itself x = ⊎_elim (λ (e : before x x ≡ true). ranks.one_way x x e) (λ (e : before x x ≡ false). e) (cases_Bool (before x x))

    pub none_before : (x : X) (xs : List X) → All (λ u. before u (earlier_of before x (first_by before xs)) ≡ false) (x ∷ xs)
    none_before x [] = (never_itself x, tt)
    none_before x (y ∷ ys) =
        let m = earlier_of before y (first_by before ys) in
        cond_both
        (before m x)
        m
        x
        (λ v. All (λ u. before u v ≡ false) (x ∷ y ∷ ys))
        (λ e. (ranks.one_way m x e, none_before y ys))
        (λ e.
        (never_itself x, All-weaker (λ u. before u m ≡ false) (λ u. before u x ≡ false) (λ u n. ranks.chain u m x n e) (y ∷ ys) (none_before y ys)))

-- one that passes, with what holds of all
some_found : {X : Type 0} (p : X → Bool) (P Q : X → Type 0) (xs : List X) → list_any p xs ≡ true → All P xs → All Q xs → (x : X) × (p x ≡ true) × P x × Q x
some_found p P Q [] e h k = absurd (both_ways false refl e)
some_found p P Q (x ∷ xs) e h k =
    elim (or_cases (p x) (list_any p xs) e) [
      | inl t ↦ (x, t, h.0, k.0)
      | inr t ↦ some_found p P Q xs t h.1 k.1
    ]

-- each is like one of them, itself
each_there : {X : Type 0} (alike : X → X → Bool) → ((x : X) → alike x x ≡ true) → (xs : List X) → All (λ m. list_any (λ t. alike t m) xs ≡ true) xs
each_there alike self [] = tt
each_there alike self (x ∷ xs) = (
  or_left (alike x x) (list_any (λ t. alike t x) xs) (self x),
  All-weaker
      (λ m. list_any (λ t. alike t m) xs ≡ true)
      (λ m. list_any (λ t. alike t m) (x ∷ xs) ≡ true)
      (λ m e. or_right (alike x m) (list_any (λ t. alike t m) xs) e)
      xs
      (each_there alike self xs),
)

-- a key that is held, with none that is held before it
abbrev pub Ends : {K : Type 0} → (K → K → Bool) → (K → Bool) → Option K → Type 0
Ends {K} lt held None = (k : K) → held k ≡ false
Ends {K} lt held (Some x) = (held x ≡ true) × ((k : K) → held k ≡ true → lt k x ≡ false)

-- the key that ends the keys of some trades shows what the first trade's key shows
module _ {X K : Type 0} {order : K → K → Bool} (laws : Laws order) (lt : K → K → Bool) (key : X → K) (shown : K → ℕ)
    (before : X → X → Bool) (ranks : IsStrictWeakOrder before) (D : X → Type 0)
    (level : (t u : X) → D t → D u → before t u ≡ false → lt (key u) (key t) ≡ false → shown (key t) ≡ shown (key u))
  where
    pub shown_first : (ts : List X) (found : Option K) → All D ts → Ends lt (λ k. list_any (λ t. same order (key t) k) ts) found → option_map shown found ≡ option_map (λ t. shown (key t)) (first_by before ts)
    shown_first [] None d e = refl
    shown_first [] (Some x) d e = absurd (both_ways false refl e.0)
    shown_first (t ∷ ts) None d e =
        absurd (both_ways (list_any (λ u. same order (key u) (key t)) (t ∷ ts)) (e (key t)) (each_there (λ u v. same order (key u) (key v)) (λ u. laws.same_self (key u)) (t ∷ ts)).0)
    shown_first (t ∷ ts) (Some x) d e =
        let m : X = earlier_of before t (first_by before ts) in
        let there : list_any (λ u. same order (key u) (key m)) (t ∷ ts) ≡ true =
        of_first before (λ v. list_any (λ u. same order (key u) (key v)) (t ∷ ts) ≡ true) t ts (each_there (λ u v. same order (key u) (key v)) (λ u. laws.same_self (key u)) (t ∷ ts)) in
        let w = some_found (λ u. same order (key u) x) D (λ u. before u m ≡ false) (t ∷ ts) e.0 d (none_before before ranks t ts) in
        let q : key w.0 ≡ x = laws.same_is (key w.0) x w.1 in
        let n : lt (key m) (key w.0) ≡ false = subst (λ k. lt (key m) k ≡ false) (sym q) (e.1 (key m) there) in
        ap Some (ap shown (sym q) ∙ level w.0 m w.2 (of_first before D t ts d) w.3 n)
