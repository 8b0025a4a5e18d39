-- What a move of keys leaves.
use Rattle.std.proofs.Common.{◌≡◌, ℕ, ◌+◌, ◌-◌, ◌≤◌, List, ◌++◌, length, get_or, take, drop, set, sym, ap, ◌∙◌, arith, append_assoc}
use lib.Seq.{paste}
use Rattle.std.specs.List.{insert, remove_range}
use Rattle.std.proofs.lemmas.List.{append-nil, length-drop, length-take-le, drop-take, drop_all, take-take, take_all, take_more, set_at}
use Rattle.std.proofs.lemmas.List.Edits.{take-paste}

-- k is written at `at` after those from there on made room
pub opened :
    {K : Type 0} (xs : List K) (n at : ℕ) (k : K) → n + 1 ≡ length xs → at ≤ n
    → set (paste xs (at + 1) (drop at xs) (n - at)) at k ≡ insert (take n xs) at k
opened xs n at k l h =
    let moved = take (n - at) (drop at xs) in
    let rest = drop (at + 1 + (n - at)) xs in
    let back : drop at (take n xs) ≡ moved = let e : at + (n - at) ≡ n = omega arith in ap (λ m. drop at (take m xs)) (sym e) ∙ drop-take at (n - at) xs in
    ap (λ ks. set (ks ++ moved ++ rest) at k) (take_more xs at k (omega arith))
    ∙ ap (λ ks. set ks at k) (simp append_assoc)
    ∙ set_at (take at xs) (get_or xs at k) (moved ++ rest) k at (length-take-le at xs (omega arith))
    ∙ rw (drop_all (at + 1 + (n - at)) xs (omega arith), append-nil moved, back, take-take at n xs h)

-- those from `past` on move down to `at`
pub removed :
    {K : Type 0} (xs : List K) (at past : ℕ) → at ≤ past → past ≤ length xs
    → take (length xs - (past - at)) (paste xs at (drop past xs) (length xs - past)) ≡ remove_range xs at past
removed xs at past a b =
    let n = length xs - past in
    let e : length xs - (past - at) ≡ at + n = omega arith in
    ap (λ m. take m (paste xs at (drop past xs) n)) e
    ∙ take-paste xs at (drop past xs) n (omega arith) (omega (arith, length-drop past xs))
    ∙ rw (take_all n (drop past xs) (omega (arith, length-drop past xs)))
