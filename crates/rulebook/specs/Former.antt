-- A withdrawn trade leaves its sheets as they were before it.
use Rattle.std.specs.Prelude.{◌≡◌, ℕ, Bool, false, not, ◌&&◌, [], ◌∷◌, ◌++◌, Some, None, Option}
use Rattle.std.specs.List.{list_any}
use Rattle.calendar.specs.Meaning.{Lawful as Kept}
use Rattle.identifier.specs.declared.isin.Isin.{Isin}
use Rattle.report.specs.declared.figures.Sheet.TheVariants.{Full, Public}
use Rattle.report.specs.declared.report.Code.{Code}
use Rattle.rulebook.specs.declared.call.Call.{Call}
use Rattle.rulebook.specs.declared.call.Call.TheVariants.{List as Listing, Advance, Open, Enter, Amend, Cancel, CarryAway, Figures}
use Rattle.rulebook.specs.declared.record.Record.{Record}
use Rattle.rulebook.specs.Lists.{passes, and_then}
use Rattle.rulebook.specs.Notebook.{Rules, Notebook, same_isin, same_code, of_day, record_of}
use Rattle.rulebook.specs.Lines.{due_now}
use Rattle.rulebook.specs.Taken.{new_record, noted}
use Rattle.rulebook.specs.Sheets.{sheet_of}
use Rattle.rulebook.specs.Desk.{Desk}
use Rattle.rulebook.specs.Histories.{History, taking, step, Lawful, desk_after, notebook_after}

-- the code that a call withdraws
abbrev pub withdraws : Call → Option Code
withdraws (Listing s) = None
withdraws (Advance moment) = None
withdraws Open = None
withdraws (Enter r) = None
withdraws (Amend code r) = Some code
withdraws (Cancel member code) = Some code
withdraws (CarryAway room) = None
withdraws (Figures isin day sheet) = None

-- is the trade of that security and day?
abbrev pub is_on : Isin → ℕ → Record → Bool
is_on isin day t = same_isin t.report.isin isin && of_day day t

-- a call that is taken brings a trade of that security and day, or withdraws one
abbrev pub brings_to : Rules → Notebook → Isin → ℕ → Call → Bool
brings_to rules nb isin day call = passes (is_on isin day) (new_record rules nb call)

abbrev pub takes_from : Notebook → Isin → ℕ → Call → Bool
takes_from nb isin day call = passes (is_on isin day) (and_then (withdraws call) (record_of nb))

-- it publishes a trade of that security and day, other than the trade of a code
abbrev pub publishes_on : Rules → Notebook → Isin → ℕ → Code → Call → Bool
publishes_on rules nb isin day code call =
    list_any (λ t. is_on isin day t && not (same_code t.code code)) (due_now (noted rules nb call))

-- no call of the history that is taken brings or withdraws a trade of that security and day
abbrev pub Untouched : Rules → Isin → ℕ → Desk → History → Type 0
Untouched rules isin day d [] = Unit {0}
Untouched rules isin day d (e ∷ es) =
    (e.refused ≡ false → (brings_to rules d.notebook isin day e.call ≡ false) × (takes_from d.notebook isin day e.call ≡ false))
    × Untouched rules isin day (step rules d e) es

-- and none publishes one, other than the trade of a code
abbrev pub Unpublished : Rules → Isin → ℕ → Code → Desk → History → Type 0
Unpublished rules isin day code d [] = Unit {0}
Unpublished rules isin day code d (e ∷ es) =
    (e.refused ≡ false → publishes_on rules d.notebook isin day code e.call ≡ false)
    × Unpublished rules isin day code (step rules d e) es

-- a trade is taken by the call c after the history g, withdrawn by the call w after the history h that follows, and between them no
-- other trade of its security and day is taken or withdrawn
pub record Withdrawn (rules : Rules) (g h : History) (c w : Call) (t : Record) : Type 0 where
  pub lawful : Lawful rules (g ++ taking c ∷ h ++ taking w ∷ [])
  pub new : new_record rules (notebook_after rules g) c ≡ Some t
  pub alone : takes_from (notebook_after rules g) t.report.isin t.code.day c ≡ false
  pub between : Untouched rules t.report.isin t.code.day (desk_after rules (g ++ taking c ∷ [])) h
  pub gone : withdraws w ≡ Some t.code
  pub elsewhere : brings_to rules (notebook_after rules (g ++ taking c ∷ h)) t.report.isin t.code.day w ≡ false

-- then the full sheet is what it was, and so is the public one, where no other trade of it was published meanwhile
pub record AsBefore (rules : Rules) (g h : History) (c w : Call) (t : Record) : Type 0 where
  pub full : sheet_of (notebook_after rules (g ++ taking c ∷ h ++ taking w ∷ [])) t.report.isin t.code.day Full
      ≡ sheet_of (notebook_after rules g) t.report.isin t.code.day Full
  pub public : Unpublished rules t.report.isin t.code.day t.code (desk_after rules g) (taking c ∷ h ++ taking w ∷ [])
      → sheet_of (notebook_after rules (g ++ taking c ∷ h ++ taking w ∷ [])) t.report.isin t.code.day Public
      ≡ sheet_of (notebook_after rules g) t.report.isin t.code.day Public

abbrev pub FormerSheets : Type 0
FormerSheets =
    (rules : Rules) → Kept rules.calendar → (g h : History) (c w : Call) (t : Record) → Withdrawn rules g h c w t → AsBefore rules g h c w t
