use Rattle.std.proofs.Common.{◌≡◌, ◌∙◌, rules}
use Rattle.std.specs.Option.{option_map}
use Rattle.ledger.proofs.Read.{low_is}
use Rattle.ledger.proofs.sheet_keys.SheetKeys.low.Goals as goal

pub returns : goal.returns
returns c sheet place isin rs small stands mirrors placed =
    let shown : c.map.result ≡ option_map (λ k. k.price) c.first.result = search rules in
    shown ∙ low_is c.args.of.day c.args.of.security sheet place isin rs placed _ mirrors.prices_mirror _ _ c.stretch.ensures.low (c.stretch.ensures.high small) c.first.result (c.first.ensures stands.prices_stand)
