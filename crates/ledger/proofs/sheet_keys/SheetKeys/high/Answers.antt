use Rattle.std.proofs.Common.{◌≡◌, ◌∙◌, rules}
use Rattle.std.specs.Option.{option_map}
use Rattle.ledger.proofs.Read.{high_is}
use Rattle.ledger.proofs.sheet_keys.SheetKeys.high.Goals as goal

pub returns : goal.returns
returns c sheet place isin rs small stands mirrors placed =
    let shown : c.map.result ≡ option_map (λ k. k.price) c.last.result = search rules in
    shown ∙ high_is c.args.of.day c.args.of.security sheet place isin rs placed _ mirrors.prices_mirror _ _ c.stretch.ensures.low (c.stretch.ensures.high small) c.last.result (c.last.ensures stands.prices_stand)
