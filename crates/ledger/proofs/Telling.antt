-- A key tells of which code the trade is that is kept under it.
use Rattle.std.proofs.Common.{◌≡◌, ℕ, Bool, true, false, cond, Some, None, Option, sym, refl, ap, ◌∙◌}
use Rattle.std.proofs.lemmas.Bool.{both_ways}
use Rattle.identifier.specs.declared.isin.Isin.{Isin}
use Rattle.register.specs.Fields.{by_fields}
use Rattle.register.specs.Keys.{publication_fields}
use Rattle.register.specs.Laws.{Laws}
use Rattle.register.specs.Order.{same}
use Rattle.register.proofs.Lawful.{laws}
use Rattle.register.specs.Orders.{price_ordered, execution_ordered, publication_ordered}
use Rattle.report.specs.declared.figures.Sheet.{Sheet}
use Rattle.report.specs.declared.report.Code.{Code}
use Rattle.report.specs.Published.{makes_prices}
use Rattle.rulebook.specs.declared.record.Record.{Record}
use Rattle.rulebook.specs.Notebook.{same_code, waits}
use Rattle.rulebook.specs.Sheets.{counts}
use Rattle.ledger.specs.Keys.{price_key, execution_key, publication_key}
use Rattle.ledger.specs.Mirrors.{is_key, sheet_price, sheet_execution, waiting_key}
use Rattle.ledger.specs.SheetKeys.{price_before, execution_before}

-- the laws of each kind of key
pub price_laws : Laws price_before
price_laws = laws price_before price_ordered

pub execution_laws : Laws execution_before
execution_laws = laws execution_before execution_ordered

pub publication_laws : Laws (by_fields publication_fields)
publication_laws = laws (by_fields publication_fields) publication_ordered

-- under a key there is one
only_kept : {K : Type 0} (lt : K → K → Bool) (b : Bool) (j k : K) → is_key lt (cond b (Some j) None) k ≡ true → same lt j k ≡ true
only_kept lt true j k e = e
only_kept lt false j k e = absurd (both_ways false refl e)

only_counted : {K : Type 0} (lt : K → K → Bool) (b : Bool) (o : Option K) (k : K) → is_key lt (cond b o None) k ≡ true → is_key lt o k ≡ true
only_counted lt true o k e = e
only_counted lt false o k e = absurd (both_ways false refl e)

module _ (code : Code) (t u : Record) (its : same_code t.code code ≡ true) where
  -- a kind of key that shows the code
  told : {K : Type 0} {lt : K → K → Bool} → Laws lt → (shown : K → Code) (k l : K) → shown k ≡ u.code → shown l ≡ t.code → same lt k l ≡ true → same_code u.code code ≡ true
  told laws shown k l a b s = ap (λ c. same_code c code) (sym a ∙ ap shown (laws.same_is k l s) ∙ b) ∙ its

  pub price_tells : (sheet : Sheet) (place : Isin → ℕ) (security : ℕ) → is_key price_before (sheet_price sheet place u) (price_key security t) ≡ true → same_code u.code code ≡ true
  price_tells sheet place security e =
      told price_laws (λ k. record { day = k.day; serial = k.serial }) (price_key (place u.report.isin) u) (price_key security t) refl refl
      (only_kept price_before (makes_prices u.report) _ _ (only_counted price_before (counts sheet u.state) _ _ e))

  pub execution_tells : (sheet : Sheet) (place : Isin → ℕ) (security : ℕ) → is_key execution_before (sheet_execution sheet place u) (execution_key security t) ≡ true → same_code u.code code ≡ true
  execution_tells sheet place security e =
      told execution_laws (λ k. record { day = k.day; serial = k.serial }) (execution_key (place u.report.isin) u) (execution_key security t) refl refl
      (only_kept execution_before (makes_prices u.report) _ _ (only_counted execution_before (counts sheet u.state) _ _ e))

  pub waiting_tells : is_key (by_fields publication_fields) (waiting_key u) (publication_key t) ≡ true → same_code u.code code ≡ true
  waiting_tells e =
      told publication_laws (λ k. record { day = k.day; serial = k.serial }) (publication_key u) (publication_key t) refl refl
      (only_kept (by_fields publication_fields) (waits u.state) _ _ e)
