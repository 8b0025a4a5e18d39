-- Registers that hold the keys of some trades: of every trade that is kept under a key, that key, and no other.
use Rattle.std.specs.Prelude.{◌≡◌, ℕ, Bool, false, cond, List, Some, None, Option}
use Rattle.std.specs.List.{list_any}
use Rattle.identifier.specs.declared.isin.Isin.{Isin}
use Rattle.register.specs.declared.execution.ExecutionKey.{ExecutionKey}
use Rattle.register.specs.declared.price.PriceKey.{PriceKey}
use Rattle.register.specs.declared.publication.PublicationKey.{PublicationKey}
use Rattle.register.specs.Lists.{has}
use Rattle.register.specs.Order.{same}
use Rattle.report.specs.declared.figures.Sheet.{Sheet}
use Rattle.report.specs.Published.{makes_prices}
use Rattle.rulebook.specs.declared.record.Record.{Record}
use Rattle.rulebook.specs.Notebook.{waits}
use Rattle.rulebook.specs.Sheets.{counts}
use Rattle.ledger.specs.Keys.{price_key, execution_key, publication_key}

-- is it that key?
abbrev pub is_key : {K : Type 0} → (K → K → Bool) → Option K → K → Bool
is_key lt None k = false
is_key lt (Some j) k = same lt j k

-- a key is held where a trade is kept under it
abbrev pub Mirrors : {K : Type 0} → (K → K → Bool) → (Record → Option K) → List Record → List K → Type 0
Mirrors {K} lt f rs ks = (k : K) → has lt k ks ≡ list_any (λ t. is_key lt (f t) k) rs

-- a trade that makes prices is kept under a key
abbrev pub if_priced : {K : Type 0} → (Record → K) → Record → Option K
if_priced key t = cond (makes_prices t.report) (Some (key t)) None

abbrev pub price_kept : ℕ → Record → Option PriceKey
price_kept security = if_priced (price_key security)

abbrev pub execution_kept : ℕ → Record → Option ExecutionKey
execution_kept security = if_priced (execution_key security)

-- on a sheet those that it counts are, each under a key with the place of its security
abbrev pub sheet_key : {K : Type 0} → (ℕ → Record → K) → Sheet → (Isin → ℕ) → Record → Option K
sheet_key key sheet place t = cond (counts sheet t.state) (if_priced (key (place t.report.isin)) t) None

abbrev pub sheet_price : Sheet → (Isin → ℕ) → Record → Option PriceKey
sheet_price = sheet_key price_key

abbrev pub sheet_execution : Sheet → (Isin → ℕ) → Record → Option ExecutionKey
sheet_execution = sheet_key execution_key

-- a trade that waits has a key by publication
abbrev pub waiting_key : Record → Option PublicationKey
waiting_key t = cond (waits t.state) (Some (publication_key t)) None
