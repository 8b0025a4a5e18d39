-- What is read off the keys of a sheet, held to the trades.
use Rattle.std.specs.Prelude.{◌≡◌, ℕ, ◌<◌, List, filter, Option, ◌==◌}
use Rattle.std.specs.List.{AllByRecursion}
use Rattle.std.specs.Option.{option_map}
use Rattle.identifier.specs.declared.isin.Isin.{Isin}
use Rattle.report.specs.declared.figures.Sheet.{Sheet}
use Rattle.rulebook.specs.declared.record.Record.{Record}
use Rattle.rulebook.specs.Lists.{first_by}
use Rattle.rulebook.specs.Notebook.{same_isin}
use Rattle.rulebook.specs.Sheets.{executed_before, on_sheet, priced}
use Rattle.ledger.specs.declared.sheet_keys.SheetKeys.{SheetKeys}
use Rattle.ledger.specs.declared.sheet_keys.SheetMemory.{SheetMemory}
use Rattle.ledger.specs.Mirrors.{Mirrors, sheet_price, sheet_execution}
use Rattle.ledger.specs.SheetKeys.{price_before, execution_before, prices_of, executions_of, SheetStands}

-- the registers keep the keys of the trades that the sheet counts
pub record SheetMirrors (sheet : Sheet) (place : Isin → ℕ) (rs : List Record) (keys : SheetKeys) (memory : SheetMemory) : Type 0 where
  pub prices_mirror : Mirrors price_before (sheet_price sheet place) rs (prices_of keys memory)
  pub executions_mirror : Mirrors execution_before (sheet_execution sheet place) rs (executions_of keys memory)

-- the trades of a security are those whose security has its place
abbrev pub Placed : (Isin → ℕ) → Isin → ℕ → List Record → Type 0
Placed place isin security rs = AllByRecursion (λ t. same_isin t.report.isin isin ≡ (place t.report.isin == security)) rs

-- what is read is what the trades of the security and the day on the sheet give
abbrev pub ReadsOff : (List Record → Option ℕ) → SheetKeys → SheetMemory → ℕ → ℕ → Option ℕ → Type 0
ReadsOff figure keys memory day security r =
    (sheet : Sheet) (place : Isin → ℕ) (isin : Isin) (rs : List Record) → security < 255 → SheetStands keys memory → SheetMirrors sheet place rs keys memory → Placed place isin security rs → r ≡ figure (filter (on_sheet isin day sheet) rs)

abbrev pub serial_of : Option Record → Option ℕ
serial_of o = option_map (λ t. t.code.serial) o

-- the serials of the trades that give the opening and the last price
abbrev pub opening_of : List Record → Option ℕ
opening_of ts = serial_of (first_by executed_before (priced ts))

abbrev pub last_of : List Record → Option ℕ
last_of ts = serial_of (first_by (λ t u. executed_before u t) (priced ts))
