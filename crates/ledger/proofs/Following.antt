-- The totals on both sheets follow what happens to a trade: it is taken, published, dropped or recalled.
use Rattle.std.proofs.Common.{◌≡◌, ℕ, ◌<◌, List, [], ◌∷◌, ◌++◌, map, length, get_or, sym, refl, ap, ◌∙◌, subst, append-nil, arith}
use Rattle.std.proofs.lemmas.List.{get_or-map, length-map}
use Rattle.report.specs.declared.figures.Sheet.{Sheet}
use Rattle.report.specs.declared.figures.Sheet.TheVariants.{Full, Public}
use Rattle.report.specs.declared.line.Place.{Place}
use Rattle.report.specs.declared.report.Code.{Code}
use Rattle.report.specs.declared.state.Event.TheVariants.{Due, Withdrawn}
use Rattle.report.specs.declared.state.State.TheVariants.{Waiting, Published, Dropped, Recalled}
use Rattle.report.specs.States.{after}
use Rattle.rulebook.specs.declared.record.Record.{Record}
use Rattle.rulebook.specs.Notebook.{same_isin}
use Rattle.rulebook.specs.Sheets.{counts}
use Rattle.rulebook.specs.Taken.{changed, met, withdrawn}
use Rattle.ledger.specs.declared.listed.Listed.{Listed}
use Rattle.ledger.specs.Totalled.{slot_of, with_trade, without_trade, TotalsOn, TotalsOf, Apart, Distinct, Few, StandsAt, OnlyOne}
use Rattle.ledger.specs.Totals.{with_report, without_report}
use Rattle.ledger.proofs.Totalling.{keeps_count_in, keeps_uncounted_in, keeps_other_sheet, keeps_changed_in, keeps_changed_out, keeps_changed_same, securities_stay}

both : (ls : List Listed) (days : List ℕ) (rs : List Record) → TotalsOn Full ls days rs → TotalsOn Public ls days rs → TotalsOf ls days rs
both ls days rs full public Full = full
both ls days rs full public Public = public

public_not_full : Public ≡ Full → ⊥
public_not_full e = let z : ◌≡◌ {A = ℕ} 0 1 = cc in omega arith

full_not_public : Full ≡ Public → ⊥
full_not_public e = let z : ◌≡◌ {A = ℕ} 0 1 = cc in omega arith

-- a place goes by the securities alone
stands_by :
    (ls ms : List Listed) (days : List ℕ) (t : Record) (place slot : ℕ) → map (λ l. l.security) ms ≡ map (λ l. l.security) ls
    → StandsAt ls days t place slot → StandsAt ms days t place slot
stands_by ls ms days t place slot same at =
    let long : length ms ≡ length ls = sym (length-map ms (λ l. l.security)) ∙ ap length same ∙ length-map ls (λ l. l.security) in
    let placed : place < length ms = omega (arith, at.placed) in
    record {
      placed = placed;
      held = at.held;
      isin = λ d.
          let one : (get_or ms place d).security ≡ (get_or ls place d).security =
          sym (get_or-map (λ l. l.security) ms place d d.security placed)
          ∙ ap (λ ss. get_or ss place d.security) same
          ∙ get_or-map (λ l. l.security) ls place d d.security at.placed in
          ap (λ s. same_isin t.report.isin s.isin) one ∙ at.isin d;
      day = at.day;
    }

module _ (ls : List Listed) (days : List ℕ) (t : Record) (place slot : ℕ) (d : Listed)
    (at : StandsAt ls days t place slot) (apart : Apart (map (λ l. l.security) ls)) (distinct : Distinct days)
  where
    -- a trade is taken, and waits
    pub follows_taking :
        (rs : List Record) → Few (rs ++ t ∷ []) → t.state ≡ Waiting → TotalsOf ls days rs
        → TotalsOf (with_trade ls place slot Full t.report d) days (rs ++ t ∷ [])
    follows_taking rs few waits so =
        let so' : (sheet : Sheet) → TotalsOn sheet ls days (rs ++ []) =
        λ sheet. subst (λ zs. TotalsOn sheet ls days zs) (sym (append-nil rs)) (so sheet) in
        both (with_trade ls place slot Full t.report d) days (rs ++ t ∷ [])
        (keeps_count_in Full ls days rs [] t place slot at apart distinct (ap (counts Full) waits) d few (so' Full))
        (keeps_other_sheet Full Public ls days (rs ++ t ∷ []) place slot (with_report (slot_of slot Full (get_or ls place d)) t.report) d
        public_not_full (keeps_uncounted_in Public ls days rs [] t (ap (counts Public) waits) (so' Public)))

    module _ (code : Code) (xs ys : List Record) (one : OnlyOne code xs t ys) (so : TotalsOf ls days (xs ++ t ∷ ys)) where
      -- it falls due, and is published
      pub follows_publication :
          (line : Place) → Few (xs ++ met Due line t ∷ ys) → t.state ≡ Waiting
          → TotalsOf (with_trade ls place slot Public t.report d) days (changed code (met Due line) (xs ++ t ∷ ys))
      follows_publication line few waits =
          let then : after t.state Due ≡ Published = ap (λ s. after s Due) waits in
          let at' : StandsAt ls days (met Due line t) place slot =
          record { placed = at.placed; held = at.held; isin = at.isin; day = at.day } in
          both (with_trade ls place slot Public t.report d) days (changed code (met Due line) (xs ++ t ∷ ys))
          (keeps_other_sheet Public Full ls days (changed code (met Due line) (xs ++ t ∷ ys)) place slot
          (with_report (slot_of slot Public (get_or ls place d)) t.report) d full_not_public
          (keeps_changed_same Full ls days code (met Due line) xs t ys one refl refl
          (ap (counts Full) then ∙ sym (ap (counts Full) waits)) (so Full)))
          (keeps_changed_in Public ls days code (met Due line) xs t ys one place slot d at' apart distinct few (ap (counts Public) waits)
          (ap (counts Public) then) (so Public))

      -- it is withdrawn while it waits, and dropped
      pub follows_drop :
          t.state ≡ Waiting → TotalsOf (without_trade ls place slot Full t.report d) days (changed code withdrawn (xs ++ t ∷ ys))
      follows_drop waits =
          let then : after t.state Withdrawn ≡ Dropped = ap (λ s. after s Withdrawn) waits in
          both (without_trade ls place slot Full t.report d) days (changed code withdrawn (xs ++ t ∷ ys))
          (keeps_changed_out Full ls days code withdrawn xs t ys one place slot d at apart distinct (ap (counts Full) waits)
          (ap (counts Full) then) (so Full))
          (keeps_other_sheet Full Public ls days (changed code withdrawn (xs ++ t ∷ ys)) place slot
          (without_report (slot_of slot Full (get_or ls place d)) t.report) d public_not_full
          (keeps_changed_same Public ls days code withdrawn xs t ys one refl refl
          (ap (counts Public) then ∙ sym (ap (counts Public) waits)) (so Public)))

      -- it is withdrawn after it was published, and recalled
      pub follows_recall :
          t.state ≡ Published
          → TotalsOf (without_trade (without_trade ls place slot Full t.report d) place slot Public t.report d) days
          (changed code withdrawn (xs ++ t ∷ ys))
      follows_recall seen =
          let then : after t.state Withdrawn ≡ Recalled = ap (λ s. after s Withdrawn) seen in
          let v = without_report (slot_of slot Full (get_or ls place d)) t.report in
          let ms = without_trade ls place slot Full t.report d in
          let stay : map (λ l. l.security) ms ≡ map (λ l. l.security) ls = securities_stay ls place slot Full v d in
          both (without_trade ms place slot Public t.report d) days (changed code withdrawn (xs ++ t ∷ ys))
          (keeps_other_sheet Public Full ms days (changed code withdrawn (xs ++ t ∷ ys)) place slot
          (without_report (slot_of slot Public (get_or ms place d)) t.report) d full_not_public
          (keeps_changed_out Full ls days code withdrawn xs t ys one place slot d at apart distinct (ap (counts Full) seen)
          (ap (counts Full) then) (so Full)))
          (keeps_changed_out Public ms days code withdrawn xs t ys one place slot d (stands_by ls ms days t place slot stay at)
          (subst Apart (sym stay) apart) distinct (ap (counts Public) seen) (ap (counts Public) then)
          (keeps_other_sheet Full Public ls days (xs ++ t ∷ ys) place slot v d public_not_full (so Public)))
