-- Lists of keys under an order: which keys they hold, and the parts of them that calls speak of.
use Rattle.std.specs.Prelude.{◌≡◌, Bool, true, false, cond, not, ◌||◌, List, [], ◌∷◌, ◌++◌, Some, None, filter, Option}
use Rattle.std.specs.List.{AllByRecursion}
use Rattle.register.specs.Order.{same}

-- each key is before all that follow it
abbrev pub Rising : {K : Type 0} → (K → K → Bool) → List K → Type 0
Rising lt [] = Unit {0}
Rising lt (x ∷ xs) = AllByRecursion (λ y. lt x y ≡ true) xs × Rising lt xs

-- the key is in the list
abbrev pub has : {K : Type 0} → (K → K → Bool) → K → List K → Bool
has lt k [] = false
has lt k (x ∷ xs) = same lt x k || has lt k xs

-- the keys before k, those from k on, and those after it
abbrev pub before : {K : Type 0} → (K → K → Bool) → K → List K → List K
before lt k = filter (λ x. lt x k)

abbrev pub from : {K : Type 0} → (K → K → Bool) → K → List K → List K
from lt k = filter (λ x. not (lt x k))

abbrev pub after : {K : Type 0} → (K → K → Bool) → K → List K → List K
after lt k = filter (λ x. lt k x)

-- a stretch: the keys from `low` on that are before `high`
abbrev pub between : {K : Type 0} → (K → K → Bool) → K → K → List K → List K
between lt low high xs = before lt high (from lt low xs)

-- the list with k in its place, and the list without k
abbrev pub with_key : {K : Type 0} → (K → K → Bool) → K → List K → List K
with_key lt k xs = before lt k xs ++ k ∷ after lt k xs

abbrev pub without : {K : Type 0} → (K → K → Bool) → K → List K → List K
without lt k = filter (λ x. not (same lt x k))

abbrev pub first : {K : Type 0} → List K → Option K
first [] = None
first (x ∷ xs) = Some x

abbrev pub last : {K : Type 0} → List K → Option K
last [] = None
last (x ∷ []) = Some x
last (x ∷ y ∷ ys) = last (y ∷ ys)

-- the key that was found, if it is before `high`; and if it is not before `low`
abbrev pub if_before : {K : Type 0} → (K → K → Bool) → K → Option K → Option K
if_before lt high None = None
if_before lt high (Some x) = cond (lt x high) (Some x) None

abbrev pub if_from : {K : Type 0} → (K → K → Bool) → K → Option K → Option K
if_from lt low None = None
if_from lt low (Some x) = cond (lt x low) None (Some x)

-- a key in the list with none in the list before it; none where the list has none
abbrev pub Least : {K : Type 0} → (K → K → Bool) → List K → Option K → Type 0
Least {K} lt xs None = (k : K) → has lt k xs ≡ false
Least {K} lt xs (Some x) = (has lt x xs ≡ true) × ((k : K) → has lt k xs ≡ true → lt k x ≡ false)

-- a key in the list with none in the list after it; none where the list has none
abbrev pub Greatest : {K : Type 0} → (K → K → Bool) → List K → Option K → Type 0
Greatest {K} lt xs None = (k : K) → has lt k xs ≡ false
Greatest {K} lt xs (Some x) = (has lt x xs ≡ true) × ((k : K) → has lt k xs ≡ true → lt x k ≡ false)
