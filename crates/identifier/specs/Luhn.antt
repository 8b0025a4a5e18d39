-- What stands for the digits that were read, while a text is weighed.
use Rattle.std.specs.Prelude.{◌≡◌, ℕ, ◌%◌, true, false, List}
use Rattle.identifier.specs.Isin.{weighed_back}

-- the last decimal digits of the two sums of the digits weighed from the right
abbrev pub Weigh : ℕ → ℕ → List ℕ → Type 0
Weigh doubled plain ds = (doubled ≡ weighed_back true ds % 10) × (plain ≡ weighed_back false ds % 10)
