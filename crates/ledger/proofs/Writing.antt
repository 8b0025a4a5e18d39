-- What a write at one place leaves of a slice.
use Rattle.std.proofs.Common.{◌≡◌, ℕ, ◌+◌, ◌<◌, ◌≤◌, min, List, ◌++◌, map, length, get_or, take, drop, set, sym, ap, ◌∙◌}
use lib.Seq.{take-set-lt}
use Rattle.std.proofs.lemmas.List.{append-nil, take_min, drop_min, get_or_default, get_or-take, length-map, length-take-le, take_all, take_at, drop_all}
use Rattle.std.proofs.lemmas.List.Edits.{map_over_more}

-- each of the first i + 1 is mapped, once the first i are
pub mapped_more : {X : Type 0} (f : X → X) (xs ys : List X) (i : ℕ) (e y : X) → i < length xs → i < length ys → ys ≡ map f (take i xs) ++ drop i xs → y ≡ f (get_or ys i e) → set ys i y ≡ map f (take (i + 1) xs) ++ drop (i + 1) xs
mapped_more f xs ys i e y h k so is =
    ap (λ z. set ys i z) is ∙ map_over_more f xs ys i (get_or ys i e) h so (get_or_default ys i e (get_or ys i e) k)

-- all are, once there are no more
pub mapped_all : {X : Type 0} (f : X → X) (xs : List X) (i : ℕ) → length xs ≤ i → map f (take i xs) ++ drop i xs ≡ map f xs
mapped_all f xs i h = rw (take_all i xs h, drop_all i xs h) (append-nil (map f xs))

-- no more are mapped than there are
pub mapped_front :
    {X : Type 0} (f : X → X) (xs : List X) (n m : ℕ) → m ≡ min n (length xs) → map f (take m xs) ++ drop m xs ≡ map f (take n xs) ++ drop n xs
mapped_front f xs n m is = rw (is, take_min n xs, drop_min n xs)

-- what stands in the first n after a write there
pub take_set_by : {X : Type 0} (f : X → X) (xs : List X) (n i : ℕ) (d : X) → i < n → take n (set xs i (f (get_or xs i d))) ≡ set (take n xs) i (f (get_or (take n xs) i d))
take_set_by f xs n i d h =
    take-set-lt n xs i (f (get_or xs i d)) h ∙ ap (λ x. set (take n xs) i (f x)) (sym (get_or-take n xs i d h))

-- and after each of them is mapped
pub take_mapped : {X : Type 0} (f : X → X) (xs : List X) (n : ℕ) → n ≤ length xs → take n (map f (take n xs) ++ drop n xs) ≡ map f (take n xs)
take_mapped f xs n h = take_at (map f (take n xs)) (drop n xs) n (length-map (take n xs) f ∙ length-take-le n xs h)
