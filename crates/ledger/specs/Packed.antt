-- Three places, of which the empty ones come last.
use Rattle.std.specs.Prelude.{Bool, true, not, ◌&&◌, ◌==◌, List, [], ◌∷◌, length, is_some, Some, None, Option}
use Rattle.std.specs.List.{list_any}

abbrev pub in_front : {X : Type 0} → List (Option X) → Bool
in_front [] = true
in_front (None ∷ os) = not (list_any is_some os)
in_front (Some x ∷ os) = in_front os

abbrev pub packed : {X : Type 0} → List (Option X) → Bool
packed os = (length os == 3) && in_front os
