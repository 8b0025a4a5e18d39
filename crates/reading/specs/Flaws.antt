-- Flaws in their order, and the first that is there.
use Rattle.std.specs.Prelude.{Bool, cond, List, [], ◌∷◌, Some, None, Option}

-- a flaw that is there where the test holds
abbrev pub flaw_if : {F : Type 0} → Bool → F → Option F
flaw_if there flaw = cond there (Some flaw) None

abbrev pub first_of : {F : Type 0} → Option F → Option F → Option F
first_of (Some flaw) later = Some flaw
first_of None later = later

-- the first that is there
abbrev pub first_flaw : {F : Type 0} → List (Option F) → Option F
first_flaw [] = None
first_flaw (flaw ∷ later) = first_of flaw (first_flaw later)
