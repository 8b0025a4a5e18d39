-- The ends of a stretch are the keys of the trades that the sheet's figures come from.
use Rattle.std.proofs.Common.{◌≡◌, ℕ, ◌+◌, Bool, true, false, not, ◌&&◌, eqb, List, Some, None, filter, Option, sym, ◌∙◌, arith}
use Rattle.std.proofs.lemmas.List.MinMax.{IsStrictWeakOrder-by_number, IsStrictWeakOrder-flip}
use Rattle.std.proofs.ByRecursion.{All-weaker, all_kept_by, kept_by_passes}
use Rattle.std.proofs.lemmas.Bool.{and_parts, eqb-true}
use Rattle.std.proofs.lemmas.Bool.Decides.{nat_tests}
use Rattle.std.specs.Cmp.{IsStrictWeakOrder}
use Rattle.std.specs.List.{list_any, AllByRecursion as All}
use Rattle.std.specs.Option.{option_map}
use Rattle.identifier.specs.declared.isin.Isin.{Isin}
use Rattle.register.specs.declared.execution.ExecutionKey.{ExecutionKey}
use Rattle.register.specs.declared.price.PriceKey.{PriceKey}
use Rattle.register.specs.Laws.{Laws}
use Rattle.register.specs.Lists.{has, between, Least, Greatest}
use Rattle.register.specs.Order.{same}
use Rattle.report.specs.declared.figures.Sheet.{Sheet}
use Rattle.report.specs.Published.{makes_prices}
use Rattle.rulebook.specs.declared.record.Record.{Record}
use Rattle.rulebook.specs.Lists.{first_by}
use Rattle.rulebook.specs.Notebook.{same_isin, of_day}
use Rattle.rulebook.specs.Sheets.{counts, on_sheet, priced, price_of, cheaper, executed_before}
use Rattle.ledger.specs.Keys.{price_key, execution_key}
use Rattle.ledger.specs.Mirrors.{Mirrors, sheet_key, sheet_price, sheet_execution}
use Rattle.ledger.specs.Reading.{Placed, serial_of}
use Rattle.ledger.specs.SheetKeys.{price_before, execution_before, price_start, execution_start}
use Rattle.ledger.proofs.Fielded.{executed_ranks, inside}
use Rattle.ledger.proofs.Firsts.{Ends, shown_first}
use Rattle.ledger.proofs.Stretches.{stretch_has}
use Rattle.ledger.proofs.Telling.{price_laws, execution_laws}

least_ends : {K : Type 0} (lt : K → K → Bool) (xs : List K) (held : K → Bool) (found : Option K) → ((k : K) → has lt k xs ≡ held k) → Least lt xs found → Ends lt held found
least_ends lt xs held None e l = λ k. sym (e k) ∙ l k
least_ends lt xs held (Some x) e l = (sym (e x) ∙ l.0, λ k h. l.1 k (e k ∙ h))

greatest_ends : {K : Type 0} (lt : K → K → Bool) (xs : List K) (held : K → Bool) (found : Option K) → ((k : K) → has lt k xs ≡ held k) → Greatest lt xs found → Ends (λ j k. lt k j) held found
greatest_ends lt xs held None e l = λ k. sym (e k) ∙ l k
greatest_ends lt xs held (Some x) e l = (sym (e x) ∙ l.0, λ k h. l.1 k (e k ∙ h))

module _ (day security : ℕ) where
  all_of_day : (sheet : Sheet) (isin : Isin) (rs : List Record) → All (λ t. t.code.day ≡ day) (priced (filter (on_sheet isin day sheet) rs))
  all_of_day sheet isin rs =
      all_kept_by
      (λ t. makes_prices t.report)
      (λ t. t.code.day ≡ day)
      (filter (on_sheet isin day sheet) rs)
      (All-weaker
      (λ t. on_sheet isin day sheet t ≡ true)
      (λ t. t.code.day ≡ day)
      (λ t e.
      eqb-true
      t.code.day
      day
      (and_parts (of_day day t) (counts sheet t.state) (and_parts (same_isin t.report.isin isin) (of_day day t && counts sheet t.state) e).1).0)
      (filter (on_sheet isin day sheet) rs)
      (kept_by_passes (on_sheet isin day sheet) rs))

  cheaper_ranks : IsStrictWeakOrder cheaper
  cheaper_ranks = IsStrictWeakOrder-by_number (λ (t : Record). t.report.price)

  -- of trades of the day, of which neither is cheaper by the keys, or was executed before the other
  one_price : (t u : Record) → t.code.day ≡ day → u.code.day ≡ day → cheaper t u ≡ false → price_before (price_key security u) (price_key security t) ≡ false → t.report.price ≡ u.report.price
  one_price t u d e c n = grind (arith, nat_tests)

  one_serial : (t u : Record) → t.code.day ≡ day → u.code.day ≡ day → executed_before t u ≡ false → execution_before (execution_key security u) (execution_key security t) ≡ false → t.code.serial ≡ u.code.serial
  one_serial t u d e c n = grind (arith, nat_tests)

  module _ (sheet : Sheet) (place : Isin → ℕ) (isin : Isin) (rs : List Record) (placed : Placed place isin security rs) where
    -- the trades that make prices, of the security and the day on the sheet
    abbrev on_it : List Record
    on_it = priced (filter (on_sheet isin day sheet) rs)

    -- the ends of the stretch of a kind of key show what the first trade and the last show, by an order of trades
    module _ {K : Type 0} {lt : K → K → Bool} (laws : Laws lt) (key : ℕ → Record → K) (start : ℕ → ℕ → K)
        (in_stretch : (p : ℕ) (t : Record) → (lt (key p t) (start day (security + 1)) && not (lt (key p t) (start day security))) ≡ (eqb p security && of_day day t))
        (shown : K → ℕ) (before : Record → Record → Bool) (ranks : IsStrictWeakOrder before)
        (level :
        (t u : Record) → t.code.day ≡ day → u.code.day ≡ day → before t u ≡ false → lt (key security u) (key security t) ≡ false
        → shown (key security t) ≡ shown (key security u))
        (ks : List K) (mirrors : Mirrors lt (sheet_key key sheet place) rs ks) (low high : K) (starts : low ≡ start day security)
        (stops : high ≡ start day (security + 1)) (found : Option K)
      where
        held : (k : K) → has lt k (between lt low high ks) ≡ list_any (λ t. same lt (key security t) k) on_it
        held = stretch_has laws key start day security in_stretch sheet place isin rs ks placed mirrors low high starts stops

        first_shown : Least lt (between lt low high ks) found → option_map shown found ≡ option_map (λ t. shown (key security t)) (first_by before on_it)
        first_shown e =
            shown_first laws lt (key security) shown before ranks (λ t. t.code.day ≡ day) level on_it found (all_of_day sheet isin rs)
            (least_ends lt (between lt low high ks) (λ k. list_any (λ t. same lt (key security t) k) on_it) found held e)

        last_shown : Greatest lt (between lt low high ks) found → option_map shown found ≡ option_map (λ t. shown (key security t)) (first_by (λ t u. before u t) on_it)
        last_shown e =
            shown_first laws (λ j k. lt k j) (key security) shown (λ t u. before u t) (IsStrictWeakOrder-flip before ranks) (λ t. t.code.day ≡ day)
            (λ t u d e c n. sym (level u t e d c n)) on_it found (all_of_day sheet isin rs)
            (greatest_ends lt (between lt low high ks) (λ k. list_any (λ t. same lt (key security t) k) on_it) found held e)

    module _ (ks : List PriceKey) (mirrors : Mirrors price_before (sheet_price sheet place) rs ks) (low high : PriceKey)
        (starts : low ≡ price_start day security) (stops : high ≡ price_start day (security + 1)) (found : Option PriceKey)
      where
        pub low_is : Least price_before (between price_before low high ks) found → option_map (λ k. k.price) found ≡ price_of (first_by cheaper on_it)
        low_is e =
            first_shown price_laws price_key price_start (λ p t. inside t.code.day p t.report.price t.code.serial day security) (λ k. k.price)
            cheaper cheaper_ranks one_price ks mirrors low high starts stops found e

        pub high_is : Greatest price_before (between price_before low high ks) found → option_map (λ k. k.price) found ≡ price_of (first_by (λ t u. cheaper u t) on_it)
        high_is e =
            last_shown price_laws price_key price_start (λ p t. inside t.code.day p t.report.price t.code.serial day security) (λ k. k.price)
            cheaper cheaper_ranks one_price ks mirrors low high starts stops found e

    module _ (ks : List ExecutionKey) (mirrors : Mirrors execution_before (sheet_execution sheet place) rs ks) (low high : ExecutionKey)
        (starts : low ≡ execution_start day security) (stops : high ≡ execution_start day (security + 1)) (found : Option ExecutionKey)
      where
        pub opening_is : Least execution_before (between execution_before low high ks) found → option_map (λ k. k.serial) found ≡ serial_of (first_by executed_before on_it)
        opening_is e =
            first_shown execution_laws execution_key execution_start (λ p t. inside t.code.day p t.report.execution t.code.serial day security)
            (λ k. k.serial) executed_before executed_ranks one_serial ks mirrors low high starts stops found e

        pub last_is : Greatest execution_before (between execution_before low high ks) found → option_map (λ k. k.serial) found ≡ serial_of (first_by (λ t u. executed_before u t) on_it)
        last_is e =
            last_shown execution_laws execution_key execution_start (λ p t. inside t.code.day p t.report.execution t.code.serial day security)
            (λ k. k.serial) executed_before executed_ranks one_serial ks mirrors low high starts stops found e
