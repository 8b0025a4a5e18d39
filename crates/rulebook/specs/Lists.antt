-- Words about lists and choices that the rules share.
use Rattle.std.specs.Prelude.{Bool, false, cond, List, [], ◌∷◌, Some, None, Option}
use Rattle.std.specs.Option.{option_and_then, option_map_or}

-- what follows where there is a value
abbrev pub and_then : {X Y : Type 0} → Option X → (X → Option Y) → Option Y
and_then o f = option_and_then f o

-- what is listed where there is a value
abbrev pub where_some : {X Y : Type 0} → Option X → (X → List Y) → List Y
where_some o f = option_map_or f o []

-- does a value pass, where there is one?
abbrev pub passes : {X : Type 0} → (X → Bool) → Option X → Bool
passes p o = option_map_or p o false

-- the one that comes first by an order; of two of which neither is before the other, the one that stands first
abbrev pub earlier_of : {X : Type 0} → (X → X → Bool) → X → Option X → X
earlier_of before x None = x
earlier_of before x (Some y) = cond (before y x) y x

abbrev pub first_by : {X : Type 0} → (X → X → Bool) → List X → Option X
first_by before [] = None
first_by before (x ∷ xs) = Some (earlier_of before x (first_by before xs))

-- in the order of a test that says which comes first
abbrev pub put_in : {X : Type 0} → (X → X → Bool) → X → List X → List X
put_in before x [] = x ∷ []
put_in before x (y ∷ ys) = cond (before x y) (x ∷ y ∷ ys) (y ∷ put_in before x ys)

abbrev pub in_order : {X : Type 0} → (X → X → Bool) → List X → List X
in_order before [] = []
in_order before (x ∷ xs) = put_in before x (in_order before xs)
