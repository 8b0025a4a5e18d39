-- What a listing keeps of the totals.
use Rattle.std.proofs.Common.{◌≡◌, ℕ, ◌≤◌, true, false, ◌&&◌, List, [], ◌∷◌, map, length, get_or, replicate, is_some, filter, sym, refl, ap, ◌∙◌, inl, inr, arith}
use Rattle.std.specs.List.{find, AllByRecursion as All}
use Rattle.std.specs.Str.{bytes_eq}
use Rattle.std.proofs.ByRecursion.{All-weaker}
use Rattle.std.proofs.lemmas.List.{get_or-replicate}
use Rattle.std.proofs.lemmas.Bool.{and_left, cond_both, cases_Bool, true≢false}
use Rattle.report.specs.declared.figures.Sheet.{Sheet}
use Rattle.report.specs.declared.figures.Sheet.TheVariants.{Full, Public}
use Rattle.report.specs.declared.security.Security.{Security}
use Rattle.register.proofs.Members.{kept_none}
use Rattle.rulebook.specs.declared.record.Record.{Record}
use Rattle.rulebook.specs.Notebook.{same_isin, of_day}
use Rattle.rulebook.specs.Sheets.{counts, on_sheet}
use Rattle.ledger.specs.declared.listed.Listed.{Listed}
use Rattle.ledger.specs.Listing.{untraded, written_over, with_listing}
use Rattle.ledger.specs.Totalled.{slots_on, TotalsIn, TotalsOn, EachListed}
use Rattle.ledger.specs.Totals.{no_trades, totals_of}
use Rattle.ledger.proofs.Isins.{isin_bytes}
use Rattle.ledger.proofs.Listing.{no_security}

untraded_slots : (sheet : Sheet) (s : Security) → slots_on sheet (untraded s) ≡ replicate 3 no_trades
untraded_slots Full s = refl
untraded_slots Public s = refl

module _ (sheet : Sheet) (s : Security) (days : List ℕ) (rs : List Record) where
  -- a security of which there are no trades
  totals_untraded : length days ≤ 3 → All (λ t. same_isin t.report.isin s.isin ≡ false) rs → TotalsIn sheet days rs (untraded s)
  totals_untraded few none =
      record {
        wide = let three : length (slots_on sheet (untraded s)) ≡ 3 = ap length (untraded_slots sheet s) in omega arith;
        each = λ slot h.
            ap (λ ts. get_or ts slot no_trades) (untraded_slots sheet s)
            ∙ get_or-replicate 3 slot no_trades no_trades (omega arith)
            ∙ ap totals_of (sym (kept_none (on_sheet s.isin (get_or days slot 0) sheet) rs
            (All-weaker (λ t. same_isin t.report.isin s.isin ≡ false) (λ t. on_sheet s.isin (get_or days slot 0) sheet t ≡ false)
            (λ t e. and_left (same_isin t.report.isin s.isin) (of_day (get_or days slot 0) t && counts sheet t.state) e) rs none)));
      }

  -- one of the same ISIN
  totals_over : (l : Listed) → same_isin l.security.isin s.isin ≡ true → TotalsIn sheet days rs l → TotalsIn sheet days rs (written_over s l)
  totals_over l same so =
      record {
        wide = so.wide;
        each = λ slot h.
            so.each slot h
            ∙ ap (λ b. totals_of (filter (λ t. bytes_eq t.report.isin.bytes b && (of_day (get_or days slot 0) t && counts sheet t.state)) rs))
            (isin_bytes l.security.isin s.isin same);
      }

  -- a security that is new has no trades, and one written over keeps its own
  pub keeps_listing :
      (ls : List Listed) → length days ≤ 3
      → (All (λ l. same_isin l.security.isin s.isin ≡ false) ls → All (λ t. same_isin t.report.isin s.isin ≡ false) rs)
      → TotalsOn sheet ls days rs → TotalsOn sheet (with_listing s ls) days rs
  keeps_listing [] few none so = (totals_untraded few (none tt), tt)
  keeps_listing (l ∷ ls) few none so =
      cond_both (same_isin l.security.isin s.isin) (written_over s l ∷ ls) (l ∷ with_listing s ls) (λ ms. TotalsOn sheet ms days rs)
      (λ e. (totals_over l e so.0, so.1)) (λ e. (so.0, keeps_listing ls few (λ a. none (e, a)) so.1))

-- where each trade's security is listed, no trade has the ISIN of one that is not
pub none_traded :
    (s : Security) (ls : List Listed) (rs : List Record) → EachListed (map (λ l. l.security) ls) rs
    → All (λ l. same_isin l.security.isin s.isin ≡ false) ls → All (λ t. same_isin t.report.isin s.isin ≡ false) rs
none_traded s ls rs each new =
    All-weaker (λ t. is_some (find (λ x. same_isin x.isin t.report.isin) (map (λ l. l.security) ls)) ≡ true)
    (λ t. same_isin t.report.isin s.isin ≡ false)
    (λ t has.
    elim (cases_Bool (same_isin t.report.isin s.isin)) [
      | inl e ↦
          let none =
          no_security t.report.isin ls
          (All-weaker (λ l. same_isin l.security.isin s.isin ≡ false) (λ l. same_isin l.security.isin t.report.isin ≡ false)
          (λ l h. ap (bytes_eq l.security.isin.bytes) (isin_bytes t.report.isin s.isin e) ∙ h) ls new) in
          absurd (true≢false (sym has ∙ ap is_some none))
      | inr e ↦ e
    ])
    rs each
