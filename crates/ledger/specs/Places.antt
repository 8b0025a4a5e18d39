-- The places of the listed securities.
use Rattle.std.specs.Prelude.{ℕ, List, Option, position}
use Rattle.identifier.specs.declared.isin.Isin.{Isin}
use Rattle.rulebook.specs.Notebook.{same_isin}
use Rattle.ledger.specs.declared.listed.Listed.{Listed}

-- that of the first that has the ISIN
abbrev pub place_of : List Listed → Isin → Option ℕ
place_of xs isin = position (λ l. same_isin l.security.isin isin) xs
