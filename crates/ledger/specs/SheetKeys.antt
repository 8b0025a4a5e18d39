-- What the calls on the keys of a sheet promise.
use Rattle.std.specs.Prelude.{◌≡◌, ℕ, Bool, List, [], length, Some, None, Option}
use Rattle.register.specs.declared.execution.ExecutionKey.{ExecutionKey}
use Rattle.register.specs.declared.price.PriceKey.{PriceKey}
use Rattle.register.specs.Answers.{put_answer, put_keys}
use Rattle.register.specs.Fields.{by_fields}
use Rattle.register.specs.Kept.{kept, Stands}
use Rattle.register.specs.Keys.{price_fields, execution_fields}
use Rattle.register.specs.Lists.{from, without}
use Rattle.rulebook.specs.declared.record.Record.{Record}
use Rattle.ledger.specs.declared.sheet_keys.SheetKeys.{SheetKeys}
use Rattle.ledger.specs.declared.sheet_keys.SheetMemory.{SheetMemory}
use Rattle.ledger.specs.Mirrors.{price_kept, execution_kept}

abbrev pub price_before : PriceKey → PriceKey → Bool
price_before = by_fields price_fields

abbrev pub execution_before : ExecutionKey → ExecutionKey → Bool
execution_before = by_fields execution_fields

-- the keys with one more, if there is one and it has a place
abbrev pub put_some : {K : Type 0} → (K → K → Bool) → Option K → ℕ → List K → List K
put_some lt None places ks = ks
put_some lt (Some k) places ks = put_keys lt k (put_answer lt k ks places) ks

-- the keys without one, if there is one
abbrev pub out_some : {K : Type 0} → (K → K → Bool) → Option K → List K → List K
out_some lt None ks = ks
out_some lt (Some k) ks = without lt k ks

-- the keys that each register keeps
abbrev pub prices_of : SheetKeys → SheetMemory → List PriceKey
prices_of keys memory = kept keys.prices memory.prices.now

abbrev pub executions_of : SheetKeys → SheetMemory → List ExecutionKey
executions_of keys memory = kept keys.executions memory.executions.now

pub record SheetStands (keys : SheetKeys) (memory : SheetMemory) : Type 0 where
  pub prices_stand : Stands price_before keys.prices memory.prices.now
  pub executions_stand : Stands execution_before keys.executions memory.executions.now

-- registers that keep no key, over whatever memory
pub record NoKeys (keys : SheetKeys) : Type 0 where
  pub stand : (memory : SheetMemory) → SheetStands keys memory
  pub no_prices : (memory : SheetMemory) → prices_of keys memory ≡ []
  pub no_executions : (memory : SheetMemory) → executions_of keys memory ≡ []

-- a call leaves the same memory, as long as it was
pub record Lent (memory memory' : SheetMemory) : Type 0 where
  pub prices_name : memory'.prices.ghost_name ≡ memory.prices.ghost_name
  pub executions_name : memory'.executions.ghost_name ≡ memory.executions.ghost_name
  pub prices_long : length memory'.prices.now ≡ length memory.prices.now
  pub executions_long : length memory'.executions.now ≡ length memory.executions.now

-- where the keys of a day and of the security at a place start
abbrev pub price_start : ℕ → ℕ → PriceKey
price_start day security = record { day = day; security = security; price = 0; serial = 0 }

abbrev pub execution_start : ℕ → ℕ → ExecutionKey
execution_start day security = record { day = day; security = security; moment = 0; serial = 0 }

-- the registers and their memory are named as they were, and primed as the call leaves them
module _ (keys : SheetKeys) (memory : SheetMemory) (keys' : SheetKeys) (memory' : SheetMemory) where
  pub record CountedIn (security : ℕ) (t : Record) : Type 0 where
    pub prices_in : prices_of keys' memory' ≡ put_some price_before (price_kept security t) (length memory.prices.now) (prices_of keys memory)
    pub executions_in : executions_of keys' memory' ≡ put_some execution_before (execution_kept security t) (length memory.executions.now) (executions_of keys memory)
    pub stand : SheetStands keys' memory'

  pub record CountedOut (security : ℕ) (t : Record) : Type 0 where
    pub prices_out : prices_of keys' memory' ≡ out_some price_before (price_kept security t) (prices_of keys memory)
    pub executions_out : executions_of keys' memory' ≡ out_some execution_before (execution_kept security t) (executions_of keys memory)
    pub stand : SheetStands keys' memory'

  pub record DroppedBefore (day : ℕ) : Type 0 where
    pub prices_left : prices_of keys' memory' ≡ from price_before (price_start day 0) (prices_of keys memory)
    pub executions_left : executions_of keys' memory' ≡ from execution_before (execution_start day 0) (executions_of keys memory)
    pub stand : SheetStands keys' memory'
