use Rattle.std.proofs.Common.{map, ap, ◌∙◌}
use Rattle.std.specs.List.{flat_map}
use Rattle.std.specs.Option.{option_to_list}
use Rattle.ledger.specs.Days.{held_days}
use Rattle.ledger.proofs.Row.{row_opened, days_opened}
use Rattle.ledger.proofs.days.Days.open.Goals as goal

pub returns-clause-held : goal.returns-clause-held
returns-clause-held c =
    ap (flat_map option_to_list) c.put_in_front.ensures
    ∙ row_opened c.args.opened c.args.count _ c.args.self.now.held c.args.self.now.packed c.falls_out-gone.ensures

pub returns-clause-days : goal.returns-clause-days
returns-clause-days c = ap (map (λ h. h.opened)) (returns-clause-held c) ∙ days_opened c.args.opened c.args.count (held_days c.args.self.now)
