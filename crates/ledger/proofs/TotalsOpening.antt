-- How the totals move on when a day is opened.
use Rattle.std.proofs.Common.{◌≡◌, ℕ, zero, suc, ◌<◌, Bool, true, false, List, [], ◌∷◌, map, length, get_or, take, filter, sym, refl, ap, ◌∙◌, subst, arith}
use Rattle.std.specs.List.{AllByRecursion as All}
use Rattle.std.proofs.ByRecursion.{All-get_or, all_kept_by, All-map, All-weaker}
use Rattle.std.proofs.lemmas.List.{get_or-take, length-map, length-take, take-map}
use Rattle.std.proofs.lemmas.Bool.Decides.{nat_tests}
use Rattle.deferral.specs.declared.opened.Opened.{Opened}
use Rattle.identifier.specs.declared.isin.Isin.{Isin}
use Rattle.report.specs.declared.figures.Sheet.{Sheet}
use Rattle.report.specs.declared.figures.Sheet.TheVariants.{Full, Public}
use Rattle.register.proofs.Members.{kept_none}
use Rattle.rulebook.specs.declared.record.Record.{Record}
use Rattle.rulebook.specs.Notebook.{among}
use Rattle.rulebook.specs.Sheets.{on_sheet}
use Rattle.ledger.specs.declared.listed.Listed.{Listed}
use Rattle.ledger.specs.Totalled.{slot_of, moved_on, TotalsIn, TotalsOn, Distinct}
use Rattle.ledger.specs.Totals.{no_trades, totals_of}
use Rattle.ledger.proofs.OnSheet.{slot_at}
use Rattle.ledger.proofs.Sums.{kept_twice}

-- the new day's slot has no trades, and behind it stand the first two as they were
moved_first : (sheet : Sheet) (l : Listed) → slot_of 0 sheet (moved_on l) ≡ no_trades
moved_first Full l = refl
moved_first Public l = refl

moved_behind : (sheet : Sheet) (l : Listed) (slot : ℕ) → slot < 2 → slot_of (suc slot) sheet (moved_on l) ≡ slot_of slot sheet l
moved_behind sheet l zero h = sym (slot_at sheet l.slots 0)
moved_behind sheet l (suc zero) h = sym (slot_at sheet l.slots 1)
moved_behind sheet l (suc (suc slot)) h = absurd (omega arith)

-- a day that stands among some
among_at : (os : List Opened) (slot day : ℕ) → slot < length os → day ≡ get_or (map (λ o. o.day) os) slot 0 → among os day ≡ true
among_at [] slot day h e = absurd (omega arith)
among_at (o ∷ os) zero day h e = grind (arith, nat_tests)
among_at (o ∷ os) (suc slot) day h e = grind (arith, nat_tests, among_at os slot day (omega arith) e)

-- a trade of another day is not counted
other_day : (sheet : Sheet) (isin : Isin) (day : ℕ) (t : Record) → t.code.day < day → on_sheet isin day sheet t ≡ false
other_day sheet isin day t h = grind (arith, nat_tests)

-- one that is counted is of the day
its_day : (sheet : Sheet) (isin : Isin) (day : ℕ) (t : Record) → on_sheet isin day sheet t ≡ true → t.code.day ≡ day
its_day sheet isin day t h = grind (arith, nat_tests)

module _ (sheet : Sheet) (o : Opened) (os : List Opened) (rs : List Record) (later : All (λ t. t.code.day < o.day) rs) where
  abbrev held_then : Record → Bool
  held_then t = among (take 3 (o ∷ os)) t.code.day

  opened_slot :
      (l : Listed) → TotalsIn sheet (map (λ o. o.day) os) rs l
      → (slot : ℕ) → slot < length (map (λ o. o.day) (take 3 (o ∷ os)))
      → slot_of slot sheet (moved_on l)
      ≡ totals_of (filter (on_sheet l.security.isin (get_or (map (λ o. o.day) (take 3 (o ∷ os))) slot 0) sheet) (filter held_then rs))
  opened_slot l so zero h =
      moved_first sheet l
      ∙ ap totals_of
      (sym (kept_none (on_sheet l.security.isin o.day sheet) (filter held_then rs)
      (all_kept_by held_then (λ t. on_sheet l.security.isin o.day sheet t ≡ false) rs
      (All-weaker (λ t. t.code.day < o.day) (λ t. on_sheet l.security.isin o.day sheet t ≡ false)
      (λ t. other_day sheet l.security.isin o.day t) rs later))))
  opened_slot l so (suc slot) h =
      let behind : slot < length (take 2 os) = omega (arith, length-map (take 2 os) (λ o. o.day)) in
      let few : slot < 2 = omega (arith, length-take 2 os) in
      let held : slot < length (map (λ o. o.day) os) = omega (arith, length-take 2 os, length-map os (λ o. o.day)) in
      let day : get_or (map (λ o. o.day) (take 2 os)) slot 0 ≡ get_or (map (λ o. o.day) os) slot 0 =
      ap (λ ds. get_or ds slot 0) (sym (take-map (λ o. o.day) 2 os)) ∙ get_or-take 2 (map (λ o. o.day) os) slot 0 few in
      let p : Record → Bool = on_sheet l.security.isin (get_or (map (λ o. o.day) (take 2 os)) slot 0) sheet in
      moved_behind sheet l slot few
      ∙ so.each slot held
      ∙ ap (λ d. totals_of (filter (on_sheet l.security.isin d sheet) rs)) (sym day)
      ∙ ap totals_of (sym (kept_twice p held_then rs (λ t e.
      among_at (take 3 (o ∷ os)) (suc slot) t.code.day (omega arith)
      (its_day sheet l.security.isin (get_or (map (λ o. o.day) (take 2 os)) slot 0) t e))))

  -- a day later than every trade's is opened, and of four days the oldest goes with its trades
  pub keeps_opening :
      (ls : List Listed) → TotalsOn sheet ls (map (λ o. o.day) os) rs
      → TotalsOn sheet (map moved_on ls) (map (λ o. o.day) (take 3 (o ∷ os))) (filter (λ t. among (take 3 (o ∷ os)) t.code.day) rs)
  keeps_opening ls so =
      let P : Listed → Type 0 = TotalsIn sheet (map (λ o. o.day) (take 3 (o ∷ os))) (filter held_then rs) in
      All-map P moved_on ls
      (All-weaker (TotalsIn sheet (map (λ o. o.day) os) rs) (λ l. P (moved_on l)) (λ l in'.
      record {
        wide = omega (arith, length-map (take 3 (o ∷ os)) (λ o. o.day), length-take 3 (o ∷ os));
        each = λ slot h. opened_slot l in' slot h;
      })
      ls so)

-- the securities stay as they are listed
pub securities_moved : (ls : List Listed) → map (λ l. l.security) (map moved_on ls) ≡ map (λ l. l.security) ls
securities_moved [] = refl
securities_moved (l ∷ ls) = ap (λ ss. l.security ∷ ss) (securities_moved ls)

-- the days stay distinct
later_distinct : (new : ℕ) (days : List ℕ) → All (λ day. day < new) days → Distinct days → Distinct (new ∷ days)
later_distinct new days below distinct zero zero h k e = refl
later_distinct new days below distinct zero (suc j) h k e =
    absurd (omega (arith, e, All-get_or (λ day. day < new) days j 0 (omega arith) below))
later_distinct new days below distinct (suc i) zero h k e =
    absurd (omega (arith, e, All-get_or (λ day. day < new) days i 0 (omega arith) below))
later_distinct new days below distinct (suc i) (suc j) h k e = ap suc (distinct i j (omega arith) (omega arith) e)

front_distinct : (n : ℕ) (days : List ℕ) → Distinct days → Distinct (take n days)
front_distinct n days distinct i j h k e =
    let a : i < n = omega (arith, length-take n days) in
    let b : j < n = omega (arith, length-take n days) in
    distinct i j (omega (arith, length-take n days)) (omega (arith, length-take n days))
    (sym (get_or-take n days i 0 a) ∙ e ∙ get_or-take n days j 0 b)

pub distinct_opening :
    (o : Opened) (os : List Opened) → All (λ day. day < o.day) (map (λ o. o.day) os) → Distinct (map (λ o. o.day) os)
    → Distinct (map (λ o. o.day) (take 3 (o ∷ os)))
distinct_opening o os below distinct =
    subst Distinct (take-map (λ o. o.day) 3 (o ∷ os))
    (front_distinct 3 (o.day ∷ map (λ o. o.day) os) (later_distinct o.day (map (λ o. o.day) os) below distinct))
