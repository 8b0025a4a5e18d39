-- The keys of a stretch are those of the trades that make prices, of its day and security, on the sheet.
use Rattle.std.proofs.Common.{◌≡◌, ℕ, ◌+◌, Bool, true, cond, not, ◌&&◌, eqb, List, Some, None, filter, sym, ap, ◌∙◌, arith}
use Rattle.std.specs.List.{list_any}
use Rattle.std.proofs.ByRecursion.{All-weaker}
use Rattle.std.proofs.lemmas.Bool.{eqb-true}
use Rattle.std.proofs.lemmas.Bool.Decides.{nat_tests}
use Rattle.identifier.specs.declared.isin.Isin.{Isin}
use Rattle.register.specs.Laws.{Laws}
use Rattle.register.specs.Lists.{has, between, from}
use Rattle.register.specs.Order.{same}
use Rattle.report.specs.declared.figures.Sheet.{Sheet}
use Rattle.report.specs.Published.{makes_prices}
use Rattle.rulebook.specs.declared.record.Record.{Record}
use Rattle.rulebook.specs.Notebook.{same_isin, of_day}
use Rattle.rulebook.specs.Sheets.{counts, on_sheet, priced}
use Rattle.ledger.specs.Mirrors.{is_key, Mirrors, sheet_key}
use Rattle.ledger.specs.Reading.{Placed}
use Rattle.ledger.proofs.Somewhere.{some_kept, some_and}

and_assoc : (a b c : Bool) → (a && (b && c)) ≡ ((a && b) && c)
and_assoc a b c = grind (arith, nat_tests)

-- of one trade: i, of the security; d, of the day; c, counted; m, makes prices; x and y, its key by the security's place and by its own is the one;
-- b, the key is in the stretch
shape : (i d c m x y b : Bool) → (i ≡ true → x ≡ y) → (y ≡ true → b ≡ (i && d)) → ((i && (d && c)) && (m && x)) ≡ (b && (c && (m && y)))
shape i d c m x y b f g = grind (arith, nat_tests, f, g)

module _ {K : Type 0} {lt : K → K → Bool} (laws : Laws lt) (key : ℕ → Record → K) (start : ℕ → ℕ → K) (day security : ℕ)
    (in_stretch : (p : ℕ) (t : Record) → (lt (key p t) (start day (security + 1)) && not (lt (key p t) (start day security))) ≡ (eqb p security && of_day day t))
    (sheet : Sheet) (place : Isin → ℕ)
  where
    abbrev within : K → Bool
    within k = lt k (start day (security + 1)) && not (lt k (start day security))

    is_sheet_key : (c m : Bool) (j k : K) → is_key lt (cond c (cond m (Some j) None) None) k ≡ (c && (m && same lt j k))
    is_sheet_key c m j k = grind (arith, nat_tests)

    module _ (isin : Isin) (k : K) (t : Record) (placed : same_isin t.report.isin isin ≡ eqb (place t.report.isin) security) where
      same_key : same_isin t.report.isin isin ≡ true → same lt (key security t) k ≡ same lt (key (place t.report.isin) t) k
      same_key e = ap (λ p. same lt (key p t) k) (sym (eqb-true (place t.report.isin) security (sym placed ∙ e)))

      in_its_stretch : same lt (key (place t.report.isin) t) k ≡ true → within k ≡ (same_isin t.report.isin isin && of_day day t)
      in_its_stretch e =
          ap within (sym (laws.same_is (key (place t.report.isin) t) k e))
          ∙ in_stretch (place t.report.isin) t
          ∙ ap (λ b. b && of_day day t) (sym placed)

      of_one : (on_sheet isin day sheet t && (makes_prices t.report && same lt (key security t) k)) ≡ (within k && is_key lt (sheet_key key sheet place t) k)
      of_one =
          shape
          (same_isin t.report.isin isin)
          (of_day day t)
          (counts sheet t.state)
          (makes_prices t.report)
          (same lt (key security t) k)
          (same lt (key (place t.report.isin) t) k)
          (within k)
          same_key
          in_its_stretch
          ∙ ap (λ b. within k && b) (sym (is_sheet_key (counts sheet t.state) (makes_prices t.report) (key (place t.report.isin) t) k))

    pub stretch_has : (isin : Isin) (rs : List Record) (ks : List K) → Placed place isin security rs → Mirrors lt (sheet_key key sheet place) rs ks → (low high : K) → low ≡ start day security → high ≡ start day (security + 1) → (k : K) → has lt k (between lt low high ks) ≡ list_any (λ t. same lt (key security t) k) (priced (filter (on_sheet isin day sheet) rs))
    stretch_has isin rs ks placed mirrors low high l h k =
        ap (λ j. has lt k (between lt j high ks)) l
        ∙ ap (λ j. has lt k (between lt (start day security) j ks)) h
        ∙ laws.has_before (start day (security + 1)) k (from lt (start day security) ks)
        ∙ ap (λ b. lt k (start day (security + 1)) && b) (laws.has_from (start day security) k ks ∙ ap (λ b. not (lt k (start day security)) && b) (mirrors k))
        ∙ and_assoc (lt k (start day (security + 1))) (not (lt k (start day security))) _
        ∙ sym (some_kept (λ t. makes_prices t.report) (λ t. same lt (key security t) k) (filter (on_sheet isin day sheet) rs)
        ∙ some_kept (on_sheet isin day sheet) (λ t. makes_prices t.report && same lt (key security t) k) rs
        ∙ some_and
        (within k)
        (λ t. on_sheet isin day sheet t && (makes_prices t.report && same lt (key security t) k))
        (λ t. is_key lt (sheet_key key sheet place t) k)
        rs
        (All-weaker
        (λ t. same_isin t.report.isin isin ≡ eqb (place t.report.isin) security)
        (λ t. (on_sheet isin day sheet t && (makes_prices t.report && same lt (key security t) k)) ≡ (within k && is_key lt (sheet_key key sheet place t) k))
        (λ t h. of_one isin k t h)
        rs
        placed))
