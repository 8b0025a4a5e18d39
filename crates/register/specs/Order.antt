-- A total order of keys, as the test whether one key is before another.
use Rattle.std.specs.Prelude.{◌≡◌, Bool, true, false, not, ◌&&◌}

-- no key is before itself, before is passed on, and two keys of which neither is before the other are equal
pub record Total {K : Type 0} (lt : K → K → Bool) : Type 0 where
  pub never : (x : K) → lt x x ≡ false
  pub onward : (x y z : K) → lt x y ≡ true → lt y z ≡ true → lt x z ≡ true
  pub one : (x y : K) → lt x y ≡ false → lt y x ≡ false → x ≡ y

-- neither is before the other
abbrev pub same : {K : Type 0} → (K → K → Bool) → K → K → Bool
same lt x y = not (lt x y) && not (lt y x)
