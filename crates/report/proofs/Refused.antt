-- The first ground of a list is the first of a longer one.
use Rattle.std.proofs.Common.{◌≡◌, Bool, true, false, cond, List, [], ◌∷◌, ◌++◌, Some, Option, Err}
use Rattle.refusal.specs.declared.Refusal.{Refusal}
use Rattle.refusal.specs.Grounds.{Ground, first_ground, unless}

module _ {A : Type 0} (a : A) (e : Refusal) where
  step : (there : Bool) (refusal : Refusal) (first longer : Option Refusal) → (unless first a ≡ Err e → unless longer a ≡ Err e)
      → unless (cond there (Some refusal) first) a ≡ Err e → unless (cond there (Some refusal) longer) a ≡ Err e
  step true refusal first longer next refused = refused
  step false refusal first longer next refused = next refused

  -- what is refused for one of the first grounds is refused for it, whatever stands behind
  pub refused_first : (gs hs : List Ground) → unless (first_ground gs) a ≡ Err e → unless (first_ground (gs ++ hs)) a ≡ Err e
  refused_first [] hs refused = absurd cc
  refused_first (g ∷ gs) hs refused = step g.there g.refusal (first_ground gs) (first_ground (gs ++ hs)) (refused_first gs hs) refused
