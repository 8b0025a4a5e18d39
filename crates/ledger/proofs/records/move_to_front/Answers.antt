use Rattle.std.proofs.Common.{◌≡◌, ℕ, ◌+◌, ◌-◌, ◌≤◌, min, List, length, take, drop, sym, ap, ◌∙◌, arith}
use lib.Seq.{paste}
use Rattle.std.proofs.lemmas.List.{take_min, drop_min, drop-take, length-drop, length-take}
use Rattle.std.proofs.lemmas.List.Edits.{take-paste}
use Rattle.ledger.proofs.records.move_to_front.Goals as goal

closed : {X : Type 0} (xs : List X) (m n : ℕ) → n ≤ m → m ≤ length xs → take (0 + (m - n)) (paste xs 0 (drop n xs) (m - n)) ≡ drop n (take m xs)
closed xs m n h l =
    let e : n + (m - n) ≡ m = omega arith in
    take-paste xs 0 (drop n xs) (m - n) (omega arith) (omega (arith, length-drop n xs)) ∙ sym (drop-take n (m - n) xs) ∙ ap (λ k. drop n (take k xs)) e

moved_from : {X : Type 0} (xs ys : List X) (gone count m n : ℕ) → m ≡ min count (length xs) → n ≡ min gone m → ys ≡ paste xs 0 (drop n xs) (m - n) → take (min count (length xs) - gone) ys ≡ drop gone (take count xs)
moved_from xs ys gone count m n m-is n-is is =
    let k : min count (length xs) - gone ≡ 0 + (m - n) = omega arith in
    let long : n ≡ min gone (length (take m xs)) = omega (arith, length-take m xs) in
    ap (λ i. take i ys) k
    ∙ ap (take (0 + (m - n))) is
    ∙ closed xs m n (omega arith) (omega arith)
    ∙ ap (λ i. drop i (take m xs)) long
    ∙ drop_min gone (take m xs)
    ∙ ap (λ i. drop gone (take i xs)) m-is
    ∙ ap (drop gone) (take_min count xs)

pub returns : goal.returns
returns c =
    record {
      moved = moved_from c.args.records.now c.copy_within.new.self c.args.gone c.args.count c.min-count.result c.min-gone.result c.min-count.ensures c.min-gone.ensures c.copy_within.ensures.after;
      long = c.copy_within.ensures.len;
    }
