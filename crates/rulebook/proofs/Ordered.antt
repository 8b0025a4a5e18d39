-- Lists in the order of a test: what comes first, what is left out, and the order in which trades are published.
use Rattle.std.proofs.Common.{◌≡◌, ℕ, Bool, true, false, ◌&&◌, ◌||◌, eqb, ltb, List, [], ◌∷◌, filter, sym, refl, ap, ◌∙◌, inl, inr, arith}
use Rattle.std.specs.List.{AllByRecursion as All}
use Rattle.std.proofs.ByRecursion.{All-weaker, all_kept_by}
use Rattle.std.proofs.lemmas.Bool.{cases_Bool, and_right}
use Rattle.std.proofs.lemmas.Bool.Decides.{nat_tests}
use Rattle.rulebook.specs.declared.record.Record.{Record}
use Rattle.rulebook.specs.Lists.{put_in, in_order}
use Rattle.rulebook.specs.Notebook.{same_code, published_before}

-- what holds of all holds of them in order
pub all_put_in : {X : Type 0} (P : X → Type 0) (before : X → X → Bool) (x : X) (ys : List X) → P x → All P ys → All P (put_in before x ys)
all_put_in P before x [] p all = (p, tt)
all_put_in P before x (y ∷ ys) p all =
    elim (cases_Bool (before x y)) [
      | inl e ↦ simp e (p, all)
      | inr e ↦ simp e (all.0, all_put_in P before x ys p all.1)
    ]

pub all_in_order : {X : Type 0} (P : X → Type 0) (before : X → X → Bool) (xs : List X) → All P xs → All P (in_order before xs)
all_in_order P before [] all = tt
all_in_order P before (x ∷ xs) all = all_put_in P before x (in_order before xs) all.0 (all_in_order P before xs all.1)

-- one that comes before all others is put first
pub put_first : {X : Type 0} (before : X → X → Bool) (x : X) (ys : List X) → All (λ y. before x y ≡ true) ys → put_in before x ys ≡ x ∷ ys
put_first before x [] all = refl
put_first before x (y ∷ ys) all = simp all.0

-- a test that orders: no two come before each other, and what comes before one comes before all that do not come before that one
pub record Orders {X : Type 0} (before : X → X → Bool) : Type 0 where
  pub one_way : (x y : X) → before x y ≡ true → before y x ≡ false
  pub onward : (x y z : X) → before x y ≡ true → before z y ≡ false → before x z ≡ true

-- none comes before one that stands ahead of it
abbrev pub Rising : {X : Type 0} → (X → X → Bool) → List X → Type 0
Rising before [] = Unit {0}
Rising before (x ∷ xs) = All (λ y. before y x ≡ false) xs × Rising before xs

module _ {X : Type 0} (before : X → X → Bool) (order : Orders before) where
  before_all : (x y : X) (ys : List X) → before x y ≡ true → All (λ z. before z y ≡ false) ys → All (λ z. before x z ≡ true) ys
  before_all x y ys e all = All-weaker _ _ (λ z f. order.onward x y z e f) ys all

  pub rising_put_in : (x : X) (ys : List X) → Rising before ys → Rising before (put_in before x ys)
  rising_put_in x [] up = (tt, tt)
  rising_put_in x (y ∷ ys) up =
      elim (cases_Bool (before x y)) [
        | inl e ↦ simp e
            ((order.one_way x y e, All-weaker _ _ (λ z f. order.one_way x z f) ys (before_all x y ys e up.0)), up)
        | inr e ↦ simp e (all_put_in (λ z. before z y ≡ false) before x ys e up.0, rising_put_in x ys up.1)
      ]

  pub rising_in_order : (xs : List X) → Rising before (in_order before xs)
  rising_in_order [] = tt
  rising_in_order (x ∷ xs) = rising_put_in x (in_order before xs) (rising_in_order xs)

  -- what is left out leaves the order of the others as it was
  put_in_left_out : (q : X → Bool) (x : X) (ys : List X) → q x ≡ false → filter q (put_in before x ys) ≡ filter q ys
  put_in_left_out q x [] f = simp f
  put_in_left_out q x (y ∷ ys) f = grind (arith, nat_tests, f, put_in_left_out q x ys f)

  put_in_kept : (q : X → Bool) (x : X) (ys : List X) → q x ≡ true → Rising before ys
      → filter q (put_in before x ys) ≡ put_in before x (filter q ys)
  put_in_kept q x [] f up = simp f
  put_in_kept q x (y ∷ ys) f up =
      elim (cases_Bool (before x y)) [
        | inl e ↦
            let after = all_kept_by q (λ z. before x z ≡ true) (y ∷ ys) (e, before_all x y ys e up.0) in
            simp (e, f) (sym (put_first before x (filter q (y ∷ ys)) after))
        | inr e ↦ grind (arith, nat_tests, e, f, put_in_kept q x ys f up.1)
      ]

  pub in_order_kept : (q : X → Bool) (xs : List X) → in_order before (filter q xs) ≡ filter q (in_order before xs)
  in_order_kept q [] = refl
  in_order_kept q (x ∷ xs) =
      elim (cases_Bool (q x)) [
        | inl f ↦ simp f (ap (put_in before x) (in_order_kept q xs) ∙ sym (put_in_kept q x (in_order before xs) f (rising_in_order xs)))
        | inr f ↦ simp f (in_order_kept q xs ∙ sym (put_in_left_out q x (in_order before xs) f))
      ]

-- three numbers, the first that differs telling
abbrev lower : ℕ → ℕ → ℕ → ℕ → ℕ → ℕ → Bool
lower a b c x y z = ltb a x || (eqb a x && (ltb b y || (eqb b y && ltb c z)))

lower_one_way : (a b c x y z : ℕ) → lower a b c x y z ≡ true → lower x y z a b c ≡ false
lower_one_way a b c x y z e = grind (arith, nat_tests)

lower_onward : (a b c x y z i j k : ℕ) → lower a b c x y z ≡ true → lower i j k x y z ≡ false → lower a b c i j k ≡ true
lower_onward a b c x y z i j k e f = grind (arith, nat_tests)

lower_other : (a b c x y z : ℕ) → (eqb x a && (eqb y b && eqb z c)) ≡ false → lower x y z a b c ≡ false → lower a b c x y z ≡ true
lower_other a b c x y z e f = grind (arith, nat_tests)

pub publication_orders : Orders published_before
publication_orders =
    record {
      one_way = λ t u e. lower_one_way t.moment t.code.day t.code.serial u.moment u.code.day u.code.serial e;
      onward = λ t u v e f.
          lower_onward t.moment t.code.day t.code.serial u.moment u.code.day u.code.serial
          v.moment v.code.day v.code.serial e f;
    }

-- of two trades with different codes, one is published before the other
pub published_after : (t u : Record) → same_code u.code t.code ≡ false → published_before u t ≡ false → published_before t u ≡ true
published_after t u e f =
    lower_other t.moment t.code.day t.code.serial u.moment u.code.day u.code.serial
    (and_right (eqb u.moment t.moment) _ e) f
