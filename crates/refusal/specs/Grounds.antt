-- Grounds of refusal in their order, and the first that is there.
use Rattle.std.specs.Prelude.{Bool, cond, List, [], ◌∷◌, Some, None, Option, Ok, Err, Result}
use Rattle.refusal.specs.declared.Refusal.{Refusal}

pub record Ground : Type 0 where
  pub there : Bool
  pub refusal : Refusal

abbrev pub first_ground : List Ground → Option Refusal
first_ground [] = None
first_ground (g ∷ gs) = cond g.there (Some g.refusal) (first_ground gs)

-- the answer, unless something stands against it
abbrev pub unless : {A E : Type 0} → Option E → A → Result A E
unless None a = Ok a
unless (Some e) a = Err e
