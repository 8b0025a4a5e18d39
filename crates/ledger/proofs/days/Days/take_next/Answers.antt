use Rattle.std.proofs.Common.{None, sym, ap, ◌∙◌}
use Rattle.std.specs.List.{flat_map}
use Rattle.std.specs.Option.{option_to_list}
use Rattle.std.proofs.lemmas.List.{set-get_or}
use Rattle.ledger.specs.Days.{next_in, counted}
use Rattle.ledger.proofs.Row.{no_days}
use Rattle.ledger.proofs.days.Days.take_next.Goals as goal

pub returns-in-None-clause-code : goal.returns-in-None-clause-code
returns-in-None-clause-code c = sym (ap next_in (no_days c.args.self.now.held c.args.self.now.packed c.in-None.is))

pub returns-in-None-clause-held : goal.returns-in-None-clause-held
returns-in-None-clause-held c =
    let held = c.args.self.now.held in
    let none = no_days held c.args.self.now.packed c.in-None.is in
    ap (flat_map option_to_list) (set-get_or held 0 None) ∙ none ∙ sym (ap counted none)
