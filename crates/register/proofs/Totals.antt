-- Facts of a total order.
use Rattle.std.proofs.Common.{◌≡◌, Bool, true, false, not, arith}
use Rattle.register.specs.Order.{Total, same}

module _ {K : Type 0} (lt : K → K → Bool) where
  pub same_sym : (x y : K) → same lt x y ≡ same lt y x
  same_sym x y = grind arith

  pub apart_after : (x y : K) → lt y x ≡ true → same lt x y ≡ false
  apart_after x y e = grind arith

  pub same_not_before : (x y : K) → same lt x y ≡ true → lt x y ≡ false
  same_not_before x y s = grind arith

  pub same_not_after : (x y : K) → same lt x y ≡ true → lt y x ≡ false
  same_not_after x y s = grind arith

  module _ (o : Total lt) where
    pub one_way : (x y : K) → lt x y ≡ true → lt y x ≡ false
    one_way x y e = grind (arith, o.never x, o.onward x y x e)

    -- what is not before k is not after a key before k
    pub past : (x y k : K) → lt x y ≡ true → lt x k ≡ false → lt y k ≡ false
    past x y k e n = grind (arith, o.onward x y k e)

    pub same_self : (x : K) → same lt x x ≡ true
    same_self x = rw (o.never x)

    pub same_is : (x y : K) → same lt x y ≡ true → x ≡ y
    same_is x y s = o.one x y (same_not_before x y s) (same_not_after x y s)

    -- keys that are not the same: each is either before or after the other
    pub after_is : (x k : K) → same lt x k ≡ false → not (lt x k) ≡ lt k x
    after_is x k n = grind (arith, one_way x k)
