use Rattle.ledger.proofs.Row.{latest_stands}
use Rattle.ledger.proofs.days.Days.latest.Goals as goal

pub returns : goal.returns
returns c = latest_stands c.args.self.now.held c.args.self.now.packed
