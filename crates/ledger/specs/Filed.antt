-- Records filed in the order of their codes, so that a code is an index.
use Rattle.std.specs.Prelude.{◌≡◌, ℕ, ◌<◌, false, List, [], ◌∷◌, ◌++◌, map, length, get_or, Some, None, Option, slice_index_or, slice_set}
use Rattle.std.specs.List.{range_with_len, find, AllByRecursion}
use Rattle.report.specs.declared.report.Code.{Code}
use Rattle.rulebook.specs.declared.record.Record.{Record}
use Rattle.rulebook.specs.Notebook.{same_code}
use Rattle.rulebook.specs.Taken.{changed}
use Rattle.ledger.specs.declared.held_day.HeldDay.{HeldDay}
use Rattle.ledger.specs.HeldDay.{code_in}

-- the codes that a day has given out, in the order of their serials
abbrev pub codes_of : HeldDay → List Code
codes_of h = map (code_in h) (range_with_len 1 h.taken)

-- those of all days, of which the latest is first: the oldest day's codes come first
abbrev pub all_codes : List HeldDay → List Code
all_codes [] = []
all_codes (h ∷ hs) = all_codes hs ++ codes_of h

-- no two codes are the same
abbrev pub Apart : List Code → Type 0
Apart [] = Unit {0}
Apart (c ∷ cs) = AllByRecursion (λ e. same_code c e ≡ false) cs × Apart cs

-- each day begins behind the trades of the older days
abbrev pub Begin : List HeldDay → Type 0
Begin [] = Unit {0}
Begin (h ∷ hs) = (h.first ≡ length (all_codes hs)) × Begin hs

-- a day's number is after those of all these days
abbrev pub Later : ℕ → List HeldDay → Type 0
Later day hs = AllByRecursion (λ h. h.opened.day < day) hs

-- each day is later than the days behind it
abbrev pub Falling : List HeldDay → Type 0
Falling [] = Unit {0}
Falling (h ∷ hs) = Later h.opened.day hs × Falling hs

-- the codes of records, in their order
abbrev pub record_codes : List Record → List Code
record_codes rs = map (λ t. t.code) rs

-- the records are those of the codes that the days gave out
pub record Filed (hs : List HeldDay) (rs : List Record) : Type 0 where
  pub codes : record_codes rs ≡ all_codes hs
  pub begin : Begin hs
  pub falling : Falling hs

-- the trade of a code stands at an index, and nowhere else
pub record Stands (rs : List Record) (code : Code) (i : ℕ) : Type 0 where
  pub within : i < length rs
  pub has_code : (d : Record) → (get_or rs i d).code ≡ code
  pub found : (d : Record) → find (λ t. same_code t.code code) rs ≡ Some (slice_index_or rs i d)
  pub changes : (f : Record → Record) (d : Record) → changed code f rs ≡ slice_set rs i (f (slice_index_or rs i d))

-- no trade has the code
pub record Missing (rs : List Record) (code : Code) : Type 0 where
  pub none : AllByRecursion (λ t. same_code t.code code ≡ false) rs
  pub found : find (λ t. same_code t.code code) rs ≡ None
  pub changes : (f : Record → Record) → changed code f rs ≡ rs

-- what an index of a code, or that there is none, says of the records
abbrev pub Finds : List Record → Code → Option ℕ → Type 0
Finds rs code None = Missing rs code
Finds rs code (Some i) = Stands rs code i
