-- A place among keys that rise, and what stands there.
use Rattle.std.specs.Prelude.{◌≡◌, ℕ, Bool, true, false, List, take, drop, Result, Ok, Err}
use Rattle.std.specs.List.{insert, remove}
use Rattle.register.specs.Lists.{before, from, has, with_key, without}

-- the keys before k stand in front of the place, and the others from there on
pub record Cut {K : Type 0} (lt : K → K → Bool) (k : K) (xs : List K) (at : ℕ) : Type 0 where
  pub low : before lt k xs ≡ take at xs
  pub high : from lt k xs ≡ drop at xs

-- k stands at the place
pub record Here {K : Type 0} (lt : K → K → Bool) (k : K) (xs : List K) (at : ℕ) : Type 0 where
  pub there : has lt k xs ≡ true
  pub rest : without lt k xs ≡ remove xs at

-- k is not in the list, and would stand at the place
pub record Gap {K : Type 0} (lt : K → K → Bool) (k : K) (xs : List K) (at : ℕ) : Type 0 where
  pub none : has lt k xs ≡ false
  pub more : with_key lt k xs ≡ insert xs at k

-- k stands at the place that is answered, or else would stand there
abbrev pub Spotted : {K : Type 0} → (K → K → Bool) → K → List K → Result ℕ ℕ → Type 0
Spotted lt k xs (Ok at) = Here lt k xs at
Spotted lt k xs (Err at) = Gap lt k xs at
