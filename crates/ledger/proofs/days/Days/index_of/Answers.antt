use Rattle.std.proofs.Common.{◌≡◌, sym, subst, rules}
use Rattle.ledger.specs.Days.{held_days, index_of}
use Rattle.ledger.specs.Filed.{Finds}
use Rattle.ledger.proofs.Filing.{finds}
use Rattle.ledger.proofs.days.Days.index_of.Goals as goal

pub returns-clause-finds : goal.returns-clause-finds
returns-clause-finds c rs filed small =
    let is : c.place_of.result ≡ index_of c.args.self.now c.args.code = search rules in
    subst (Finds rs c.args.code) (sym is) (finds (held_days c.args.self.now) rs filed small c.args.code)

pub returns-in_err-find-clause-finds : goal.returns-in_err-find-clause-finds
returns-in_err-find-clause-finds c rs filed small =
    let is : c.from_residual.result ≡ index_of c.args.self.now c.args.code = search rules in
    subst (Finds rs c.args.code) (sym is) (finds (held_days c.args.self.now) rs filed small c.args.code)
