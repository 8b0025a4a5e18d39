-- What is known where no ground is there.
use Rattle.std.proofs.Common.{◌≡◌, Bool, false, cond, List, [], ◌∷◌, Some, None, Option, arith}
use Rattle.std.specs.List.{AllByRecursion as All}
use Rattle.std.proofs.lemmas.Bool.Decides.{nat_tests}
use Rattle.std.proofs.lemmas.Option.{option_and_then_some}
use Rattle.refusal.specs.declared.Refusal.{Refusal}
use Rattle.refusal.specs.Grounds.{Ground, first_ground}
use Rattle.rulebook.specs.Lists.{and_then}

first_not_there : (b : Bool) (r : Refusal) (rest : Option Refusal) → cond b (Some r) rest ≡ None → (b ≡ false) × (rest ≡ None)
first_not_there b r rest e = grind (arith, nat_tests, e)

-- where there is no first ground, none is there
pub none_there : (gs : List Ground) → first_ground gs ≡ None → All (λ g. g.there ≡ false) gs
none_there [] e = tt
none_there (g ∷ gs) e =
    let here = first_not_there g.there g.refusal (first_ground gs) e in
    (here.0, none_there gs here.1)

-- a value that follows another
pub record Followed {X Y : Type 0} (x : Option X) (f : X → Option Y) (y : Y) : Type 0 where
  pub value : X
  pub is : x ≡ Some value
  pub gives : f value ≡ Some y

pub followed : {X Y : Type 0} (x : Option X) (f : X → Option Y) (y : Y) → and_then x f ≡ Some y → Followed x f y
followed x f y e = option_and_then_some f x y e (λ v is gives. record { value = v; is = is; gives = gives })
