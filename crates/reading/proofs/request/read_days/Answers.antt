use Rattle.std.proofs.Common.{sym, refl, ◌∙◌}
use Rattle.reading.specs.Number.{decimal_value}
use Rattle.reading.specs.Request.{year_fault}
use Rattle.reading.proofs.Told.{passes, stops, exits}
use Rattle.reading.proofs.request.read_days.Goals as goal

pub returns-in_err-first : goal.returns-in_err-first
returns-in_err-first c =
    exits c.from_residual.result _ _ c.from_residual.ensures.1 (stops year_fault decimal_value c.args.first.now _ _ _ _ refl c.in_err-first.ensures)

pub returns-in_err-last : goal.returns-in_err-last
returns-in_err-last c =
    exits c.from_residual-in_err-last.result _ _ c.from_residual-in_err-last.ensures.1
    (stops year_fault decimal_value c.args.last.now _ _ _ _ refl c.in_err-last.ensures
    ∙ sym (passes year_fault decimal_value c.args.first.now _ _ _ _ refl c.in_ok-first.ensures))
