-- The registers of a sheet follow the trades.
use Rattle.std.proofs.Common.{◌≡◌, ℕ, ◌<◌, ◌≤◌, Bool, true, false, cond, not, ltb, List, [], ◌∷◌, ◌++◌, length, Some, None, filter, ap}
use Rattle.std.specs.List.{list_any, AllByRecursion as All}
use Rattle.identifier.specs.declared.isin.Isin.{Isin}
use Rattle.register.specs.Lists.{Rising, has}
use Rattle.report.specs.declared.figures.Sheet.{Sheet}
use Rattle.report.specs.declared.report.Code.{Code}
use Rattle.report.specs.Published.{makes_prices}
use Rattle.rulebook.specs.declared.record.Record.{Record}
use Rattle.rulebook.specs.Notebook.{same_code}
use Rattle.rulebook.specs.Sheets.{counts}
use Rattle.rulebook.specs.Taken.{changed}
use Rattle.ledger.specs.declared.sheet_keys.SheetKeys.{SheetKeys}
use Rattle.ledger.specs.declared.sheet_keys.SheetMemory.{SheetMemory}
use Rattle.ledger.specs.Keys.{price_key, execution_key}
use Rattle.ledger.specs.Mirrors.{sheet_price, sheet_execution}
use Rattle.ledger.specs.Reading.{SheetMirrors}
use Rattle.ledger.specs.SheetKeys.{price_before, execution_before, price_start, execution_start, prices_of, executions_of, SheetStands, NoKeys, CountedIn, CountedOut, DroppedBefore}
use Rattle.ledger.proofs.Fielded.{before_start}
use Rattle.ledger.proofs.Mirroring.{mirrors_same}
use Rattle.ledger.proofs.SheetRegister.{passed_over, counted_in, come, gone, struck}
use Rattle.ledger.proofs.Telling.{price_laws, execution_laws, price_tells, execution_tells}

pub sheet_blank : (sheet : Sheet) (place : Isin → ℕ) (keys : SheetKeys) (memory : SheetMemory) → NoKeys keys → SheetMirrors sheet place [] keys memory
sheet_blank sheet place keys memory none = record {
  prices_mirror = λ k. ap (has price_before k) (none.no_prices memory);
  executions_mirror = λ k. ap (has execution_before k) (none.no_executions memory);
}

module _ (sheet : Sheet) (place : Isin → ℕ) (rs : List Record) (keys : SheetKeys) (memory : SheetMemory)
    (stands : SheetStands keys memory) (mirrors : SheetMirrors sheet place rs keys memory)
  where
    prices_rise : Rising price_before (prices_of keys memory)
    prices_rise = price_laws.rise keys.prices memory.prices.now stands.prices_stand

    executions_rise : Rising execution_before (executions_of keys memory)
    executions_rise = execution_laws.rise keys.executions memory.executions.now stands.executions_stand

    -- a trade that the sheet does not count is added
    pub sheet_passed_over : (t : Record) → counts sheet t.state ≡ false → SheetMirrors sheet place (rs ++ t ∷ []) keys memory
    sheet_passed_over t uncounted = record {
      prices_mirror = passed_over price_laws price_key sheet place rs _ prices_rise mirrors.prices_mirror t uncounted;
      executions_mirror = passed_over execution_laws execution_key sheet place rs _ executions_rise mirrors.executions_mirror t uncounted;
    }

    module _ (keys' : SheetKeys) (memory' : SheetMemory) where
      -- a trade that it counts is added, and counted in
      pub sheet_counted_in : (t : Record) → counts sheet t.state ≡ true → length rs < length memory.prices.now → length rs < length memory.executions.now → CountedIn keys memory keys' memory' (place t.report.isin) t → SheetMirrors sheet place (rs ++ t ∷ []) keys' memory'
      sheet_counted_in t counted room room₂ done = record {
        prices_mirror = counted_in price_laws price_key sheet place rs _ prices_rise mirrors.prices_mirror t _ _ counted room done.prices_in;
        executions_mirror = counted_in execution_laws execution_key sheet place rs _ executions_rise mirrors.executions_mirror t _ _ counted room₂ done.executions_in;
      }

      -- the trades before a day are struck out, and their keys dropped
      pub sheet_struck : (p : Record → Bool) (day : ℕ) → All (λ t. p t ≡ not (ltb t.code.day day)) rs → DroppedBefore keys memory keys' memory' day → SheetMirrors sheet place (filter p rs) keys' memory'
      sheet_struck p day passes done = record {
        prices_mirror =
            struck price_laws price_key sheet place rs _ prices_rise mirrors.prices_mirror p day (price_start day 0) _ (λ t.
            before_start t.code.day (place t.report.isin) t.report.price t.code.serial day) passes done.prices_left;
        executions_mirror =
            struck execution_laws execution_key sheet place rs _ executions_rise mirrors.executions_mirror p day (execution_start day 0) _ (λ t.
            before_start t.code.day (place t.report.isin) t.report.execution t.code.serial day) passes done.executions_left;
      }

    -- the trade of a code changes: t, and all others of that code are t
    module _ (code : Code) (g : Record → Record) (t : Record) (only : All (λ u. same_code u.code code ≡ true → u ≡ t) rs) where
      -- the sheet counts it as before
      pub sheet_same : (g t).code ≡ t.code → (g t).report ≡ t.report → counts sheet (g t).state ≡ counts sheet t.state → SheetMirrors sheet place (changed code g rs) keys memory
      sheet_same c r s = record {
        prices_mirror = mirrors_same price_laws (sheet_price sheet place) code g t rs _ only mirrors.prices_mirror same_price;
        executions_mirror = mirrors_same execution_laws (sheet_execution sheet place) code g t rs _ only mirrors.executions_mirror same_execution;
      } where
        same_price : sheet_price sheet place (g t) ≡ sheet_price sheet place t
        same_price =
            λ i. cond (s i) (cond (makes_prices (r i)) (Some (record { day = (c i).day; security = place (r i).isin; price = (r i).price; serial = (c i).serial })) None) None

        same_execution : sheet_execution sheet place (g t) ≡ sheet_execution sheet place t
        same_execution =
            λ i. cond (s i) (cond (makes_prices (r i)) (Some (record { day = (c i).day; security = place (r i).isin; moment = (r i).execution; serial = (c i).serial })) None) None

      module _ (keys' : SheetKeys) (memory' : SheetMemory) where
        -- the sheet comes to count it, and it is counted in
        pub sheet_come : list_any (λ u. same_code u.code code) rs ≡ true → counts sheet t.state ≡ false → counts sheet (g t).state ≡ true → length rs ≤ length memory.prices.now → length rs ≤ length memory.executions.now → CountedIn keys memory keys' memory' (place (g t).report.isin) (g t) → SheetMirrors sheet place (changed code g rs) keys' memory'
        sheet_come there uncounted counted room room₂ done = record {
          prices_mirror = come price_laws price_key sheet place rs _ prices_rise mirrors.prices_mirror code g t only _ _ there uncounted counted room done.prices_in;
          executions_mirror = come execution_laws execution_key sheet place rs _ executions_rise mirrors.executions_mirror code g t only _ _ there uncounted counted room₂ done.executions_in;
        }

        -- the sheet counts it no more, and it is counted out
        pub sheet_gone : same_code t.code code ≡ true → counts sheet t.state ≡ true → counts sheet (g t).state ≡ false → CountedOut keys memory keys' memory' (place t.report.isin) t → SheetMirrors sheet place (changed code g rs) keys' memory'
        sheet_gone its counted uncounted done = record {
          prices_mirror =
              gone price_laws price_key sheet place rs _ prices_rise mirrors.prices_mirror code g t only _ counted uncounted (λ u.
              price_tells code t u its sheet place (place t.report.isin)) done.prices_out;
          executions_mirror =
              gone execution_laws execution_key sheet place rs _ executions_rise mirrors.executions_mirror code g t only _ counted uncounted (λ u.
              execution_tells code t u its sheet place (place t.report.isin)) done.executions_out;
        }
