use Rattle.std.proofs.Common.{◌≡◌, ◌∙◌, rules}
use Rattle.std.specs.Option.{option_map}
use Rattle.ledger.proofs.Read.{last_is}
use Rattle.ledger.proofs.sheet_keys.SheetKeys.last_serial.Goals as goal

pub returns : goal.returns
returns c sheet place isin rs small stands mirrors placed =
    let shown : c.map.result ≡ option_map (λ k. k.serial) c.last.result = search rules in
    shown ∙ last_is c.args.of.day c.args.of.security sheet place isin rs placed _ mirrors.executions_mirror _ _ c.stretch.ensures.low (c.stretch.ensures.high small) c.last.result (c.last.ensures stands.executions_stand)
