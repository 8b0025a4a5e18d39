-- The sizes of a book.
use Rattle.std.specs.Prelude.{ℕ, Bool, not, ◌&&◌, List, [], ◌∷◌, nat_le}
use Rattle.refusal.specs.declared.Refusal.TheVariants.{Sizes as WrongSizes}
use Rattle.refusal.specs.Grounds.{Ground}
use Rattle.rulebook.specs.declared.call.Sizes.{Sizes}

abbrev pub is_between : ℕ → ℕ → ℕ → Bool
is_between least most n = nat_le least n && nat_le n most

-- a book has 1 to 4,096 records, 1 to 64 securities, 2 to 8,192 tape lines, and an expand factor of 1 to 100
abbrev pub sizes_allowed : Sizes → Bool
sizes_allowed s =
    is_between 1 4096 s.records
    && (is_between 1 64 s.securities && (is_between 2 8192 s.lines && is_between 1 100 s.expand))

-- the ground against making a book; a call on a book has it too, first of all, where it is lent memory of other lengths than the book
-- was made in: such a call stands in no history
abbrev pub make_grounds : Sizes → List Ground
make_grounds s = record { there = not (sizes_allowed s); refusal = WrongSizes } ∷ []
