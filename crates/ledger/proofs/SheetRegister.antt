-- One register of a sheet follows the trades.
use Rattle.std.proofs.Common.{◌≡◌, ℕ, ◌<◌, ◌≤◌, Bool, true, false, cond, not, ltb, List, [], ◌∷◌, ◌++◌, length, Some, None, filter, Option, sym, ap, ◌∙◌, subst}
use Rattle.std.proofs.ByRecursion.{All-weaker}
use Rattle.std.proofs.lemmas.Bool.{cond-true, cond-false}
use Rattle.std.specs.List.{list_any, AllByRecursion as All}
use Rattle.identifier.specs.declared.isin.Isin.{Isin}
use Rattle.register.specs.Laws.{Laws}
use Rattle.register.specs.Lists.{Rising, from}
use Rattle.report.specs.declared.figures.Sheet.{Sheet}
use Rattle.report.specs.declared.report.Code.{Code}
use Rattle.report.specs.Published.{makes_prices}
use Rattle.rulebook.specs.declared.record.Record.{Record}
use Rattle.rulebook.specs.Notebook.{same_code}
use Rattle.rulebook.specs.Sheets.{counts}
use Rattle.rulebook.specs.Taken.{changed}
use Rattle.ledger.specs.Mirrors.{is_key, Mirrors, if_priced, sheet_key}
use Rattle.ledger.specs.SheetKeys.{put_some, out_some}
use Rattle.ledger.proofs.KeysFollowing.{follows_added, follows_come, follows_gone}
use Rattle.ledger.proofs.Mirroring.{mirrors_added_without_key, mirrors_kept}

-- a trade that is kept is kept under its key
kept_is : {K : Type 0} (c m : Bool) (j k : K) → cond c (cond m (Some j) None) None ≡ Some k → j ≡ k
kept_is true true j k e = cc
kept_is true false j k e = absurd cc
kept_is false m j k e = absurd cc

module _ {K : Type 0} {lt : K → K → Bool} (laws : Laws lt) (key : ℕ → Record → K) (sheet : Sheet) (place : Isin → ℕ) (rs : List Record)
    (ks : List K) (rising : Rising lt ks) (m : Mirrors lt (sheet_key key sheet place) rs ks)
  where
    abbrev its_key : Record → K
    its_key t = key (place t.report.isin) t

    abbrev if_its : Record → Option K
    if_its t = if_priced (key (place t.report.isin)) t

    pub passed_over : (t : Record) → counts sheet t.state ≡ false → Mirrors lt (sheet_key key sheet place) (rs ++ t ∷ []) ks
    passed_over t uncounted = mirrors_added_without_key laws (sheet_key key sheet place) rs ks t (cond-false _ _ _ uncounted) m

    pub counted_in : (t : Record) (places : ℕ) (ks' : List K) → counts sheet t.state ≡ true → length rs < places → ks' ≡ put_some lt (if_its t) places ks → Mirrors lt (sheet_key key sheet place) (rs ++ t ∷ []) ks'
    counted_in t places ks' counted room e =
        subst
        (Mirrors lt (sheet_key key sheet place) (rs ++ t ∷ []))
        (sym e)
        (follows_added laws (sheet_key key sheet place) rs ks rising m places t (if_its t) (cond-true _ _ _ counted) room)

    module _ (code : Code) (g : Record → Record) (t : Record) (only : All (λ u. same_code u.code code ≡ true → u ≡ t) rs) (ks' : List K) where
      pub come : (places : ℕ) → list_any (λ u. same_code u.code code) rs ≡ true → counts sheet t.state ≡ false → counts sheet (g t).state ≡ true → length rs ≤ places → ks' ≡ put_some lt (if_its (g t)) places ks → Mirrors lt (sheet_key key sheet place) (changed code g rs) ks'
      come places there uncounted counted room e =
          subst
          (Mirrors lt (sheet_key key sheet place) (changed code g rs))
          (sym e)
          (follows_come laws (sheet_key key sheet place) rs ks rising m places code g t only (if_its (g t)) there (cond-false _ _ _ uncounted) (cond-true _ _ _ counted) room)

      pub gone : counts sheet t.state ≡ true → counts sheet (g t).state ≡ false → ((u : Record) → is_key lt (sheet_key key sheet place u) (its_key t) ≡ true → same_code u.code code ≡ true) → ks' ≡ out_some lt (if_its t) ks → Mirrors lt (sheet_key key sheet place) (changed code g rs) ks'
      gone counted uncounted tells e =
          subst
          (Mirrors lt (sheet_key key sheet place) (changed code g rs))
          (sym e)
          (follows_gone laws (sheet_key key sheet place) rs ks rising m 0 code g t only (if_its t) (cond-true _ _ _ counted) (cond-false _ _ _ uncounted) (λ k is u y.
          tells u (ap (is_key lt (sheet_key key sheet place u)) (kept_is true (makes_prices t.report) (its_key t) k is) ∙ y)))

    pub struck : (p : Record → Bool) (day : ℕ) (low : K) (ks' : List K) → ((t : Record) → lt (its_key t) low ≡ ltb t.code.day day) → All (λ t. p t ≡ not (ltb t.code.day day)) rs → ks' ≡ from lt low ks → Mirrors lt (sheet_key key sheet place) (filter p rs) ks'
    struck p day low ks' by_day passes e =
        subst
        (Mirrors lt (sheet_key key sheet place) (filter p rs))
        (sym e)
        (mirrors_kept laws (sheet_key key sheet place) p low rs ks (All-weaker (λ t. p t ≡ not (ltb t.code.day day)) (λ t. (k : K) → sheet_key key sheet place t ≡ Some k → p t ≡ not (lt k low)) key_passes rs passes) m)
      where
        key_passes : (t : Record) → p t ≡ not (ltb t.code.day day) → (k : K) → sheet_key key sheet place t ≡ Some k → p t ≡ not (lt k low)
        key_passes t h k is =
            h
            ∙ ap not (sym (by_day t))
            ∙ ap (λ j. not (lt j low)) (kept_is (counts sheet t.state) (makes_prices t.report) (its_key t) k is)
