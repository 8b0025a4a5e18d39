-- A notebook that calls have left, whatever lines they wrote.
use Rattle.std.proofs.Common.{◌≡◌, Bool, true, false, cond, List, [], ◌∷◌, is_some, None, sym}
use Rattle.report.specs.declared.line.Line.{Line}
use Rattle.rulebook.specs.declared.call.Call.{Call}
use Rattle.rulebook.specs.Notebook.{Rules, Notebook}
use Rattle.rulebook.specs.Taken.{noted}
use Rattle.rulebook.specs.Desk.{Desk, taken}
use Rattle.rulebook.specs.Grounds.{ground}
use Rattle.rulebook.specs.Histories.{History, step, fed, Rightly}
use Rattle.rulebook.proofs.Apart.{Apart, counted_apart}
use Rattle.rulebook.proofs.Codes.{codes_of}
use Rattle.rulebook.proofs.Taking.{Well, noted_well, call_well}
use Rattle.rulebook.proofs.Always.{none_from}

abbrev pub Sound : Notebook → Type 0
Sound nb = (lines : List Line) × Well nb lines

pub sound_apart : (nb : Notebook) → Sound nb → Apart (codes_of nb.records)
sound_apart nb (lines, w) = counted_apart (codes_of nb.records) w.coded.counted

pub sound_noted : (rules : Rules) (d : Desk) (call : Call) → ground rules d call ≡ None → Sound d.notebook → Sound (noted rules d.notebook call)
sound_noted rules d call e (lines, w) = (_, noted_well rules d call lines e w)

pub sound_step : (rules : Rules) (d : Desk) (call : Call) (refused : Bool) → refused ≡ is_some (ground rules d call) → Sound d.notebook
    → Sound (cond refused d (taken rules d call)).notebook
sound_step rules d call true e s = s
sound_step rules d call false e (lines, w) = (_, call_well rules d call lines (none_from (ground rules d call) (sym e)) w)

pub sound_fed : (rules : Rules) (d : Desk) (h : History) → Rightly rules d h → Sound d.notebook → Sound (fed rules d h).notebook
sound_fed rules d [] r s = s
sound_fed rules d (e ∷ es) (r, rs) s = sound_fed rules (step rules d e) es rs (sound_step rules d e.call e.refused r s)
