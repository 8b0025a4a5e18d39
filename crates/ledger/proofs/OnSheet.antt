-- The totals of a held day, as a sheet shows them.
use Rattle.std.proofs.Common.{◌≡◌, ℕ, List, map, get_or}
use Rattle.std.proofs.Math.ListN.{get_or-map}
use Rattle.report.specs.declared.figures.Sheet.{Sheet}
use Rattle.report.specs.declared.figures.Sheet.TheVariants.{Full, Public}
use Rattle.ledger.specs.declared.slot.Slot.{Slot}
use Rattle.ledger.specs.Totalled.{no_slot, on}
use Rattle.ledger.specs.Totals.{no_trades}

pub slot_at : (sheet : Sheet) (ss : List Slot) (i : ℕ) → get_or (map (on sheet) ss) i no_trades ≡ on sheet (get_or ss i no_slot)
slot_at Full ss i = get_or-map (on Full) ss i no_slot
slot_at Public ss i = get_or-map (on Public) ss i no_slot
