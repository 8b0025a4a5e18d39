-- How the totals follow the trades: one is counted in, one is counted out, and one changes.
use Rattle.std.proofs.Common.{◌≡◌, ℕ, ◌<◌, ◌≤◌, Bool, true, false, ◌&&◌, eqb, List, ◌∷◌, ◌++◌, map, length, get_or, set, filter, sym, refl, ap, ◌∙◌, subst, inl, inr, arith}
use Rattle.std.specs.List.{AllByRecursion as All}
use Rattle.std.proofs.lemmas.List.Elements.{filter-append}
use Rattle.std.proofs.ByRecursion.{All-get_or, All-from_get_or, All-set, All-weaker}
use Rattle.std.proofs.lemmas.List.{get_or-map, get_or-set_same, get_or-set_other, length-set, map-set, set-get_or, set_past}
use Rattle.std.proofs.Math.ListN.{get_or-map as get_or-map-past}
use Rattle.std.proofs.lemmas.Bool.Decides.{nat_tests}
use Rattle.std.proofs.lemmas.Bool.{cases_Bool, cases_eq, cases_lt}
use Rattle.identifier.specs.declared.isin.Isin.{Isin}
use Rattle.report.specs.declared.figures.Sheet.{Sheet}
use Rattle.report.specs.declared.figures.Sheet.TheVariants.{Full, Public}
use Rattle.report.specs.declared.report.Code.{Code}
use Rattle.rulebook.specs.declared.record.Record.{Record}
use Rattle.rulebook.specs.Notebook.{same_isin}
use Rattle.rulebook.specs.Sheets.{counts, on_sheet}
use Rattle.rulebook.specs.Taken.{changed}
use Rattle.ledger.specs.declared.listed.Listed.{Listed}
use Rattle.ledger.specs.declared.slot.Slot.{Slot}
use Rattle.ledger.specs.declared.totals.Totals.{Totals}
use Rattle.ledger.specs.Totalled.{on, written_on, slots_on, slot_of, with_slot, with_trade, without_trade, at_slot, TotalsIn, TotalsOn, Apart, Distinct, Few, StandsAt, OnlyOne}
use Rattle.ledger.specs.Totals.{no_trades, totals_of, with_report, without_report}
use Rattle.ledger.proofs.Changing.{changed_one}
use Rattle.ledger.proofs.Isins.{apart_places, isin_moved}
use Rattle.ledger.proofs.OnSheet.{slot_at}
use Rattle.ledger.proofs.Sums.{few_kept, totals_with, totals_without, totals_same, kept_with, kept_without}

-- what is written on a sheet, and the other sheet stays
on_written : (sheet : Sheet) (v : Totals) (s : Slot) → on sheet (written_on sheet v s) ≡ v
on_written Full v s = refl
on_written Public v s = refl

on_other : (sheet other : Sheet) (v : Totals) (s : Slot) → (other ≡ sheet → ⊥) → on other (written_on sheet v s) ≡ on other s
on_other Full Full v s ne = absurd (ne refl)
on_other Full Public v s ne = refl
on_other Public Full v s ne = refl
on_other Public Public v s ne = absurd (ne refl)

put_slots : (slot : ℕ) (sheet : Sheet) (v : Totals) (l : Listed) → slots_on sheet (with_slot slot sheet v l) ≡ set (slots_on sheet l) slot v
put_slots slot sheet v l = map-set (on sheet) l.slots slot _ ∙ ap (set (slots_on sheet l) slot) (on_written sheet v _)

put_other :
    (slot : ℕ) (sheet other : Sheet) (v : Totals) (l : Listed) → (other ≡ sheet → ⊥)
    → slots_on other (with_slot slot sheet v l) ≡ slots_on other l
put_other slot sheet other v l ne =
    map-set (on other) l.slots slot _
    ∙ ap (set (slots_on other l) slot) (on_other sheet other v _ ne ∙ sym (slot_at other l.slots slot))
    ∙ set-get_or (slots_on other l) slot no_trades

-- the trades of a security that a sheet counts in a slot
abbrev counted_at : Sheet → List ℕ → List Record → Listed → ℕ → List Record
counted_at sheet days rs l slot = filter (on_sheet l.security.isin (get_or days slot 0) sheet) rs

-- as many trades in each slot, so the totals stay
totals_stay :
    (sheet : Sheet) (days : List ℕ) (rs rs' : List Record) (l : Listed) → TotalsIn sheet days rs l
    → ((slot : ℕ) → slot < length days → totals_of (counted_at sheet days rs l slot) ≡ totals_of (counted_at sheet days rs' l slot))
    → TotalsIn sheet days rs' l
totals_stay sheet days rs rs' l so same = record { wide = so.wide; each = λ k h. so.each k h ∙ same k h }

-- the totals of one slot are written, and in the others the trades stay
module _ (sheet : Sheet) (days : List ℕ) (rs rs' : List Record) (l : Listed) (slot : ℕ) (v : Totals)
    (so : TotalsIn sheet days rs l) (held : slot < length days)
    (there : v ≡ totals_of (counted_at sheet days rs' l slot))
    (others : (k : ℕ) → k < length days → (k ≡ slot → ⊥) → counted_at sheet days rs l k ≡ counted_at sheet days rs' l k)
  where
    slot_written : (k : ℕ) → k < length days → get_or (set (slots_on sheet l) slot v) k no_trades ≡ totals_of (counted_at sheet days rs' l k)
    slot_written k h =
        elim (cases_eq k slot) [
          | inl e ↦
              let wide : slot < length (slots_on sheet l) = omega (arith, so.wide) in
              ap (λ n. get_or (set (slots_on sheet l) slot v) n no_trades) e
              ∙ get_or-set_same (slots_on sheet l) slot v no_trades wide
              ∙ there
              ∙ ap (λ n. totals_of (counted_at sheet days rs' l n)) (sym e)
          | inr ne ↦ get_or-set_other (slots_on sheet l) slot k v no_trades ne ∙ so.each k h ∙ ap totals_of (others k h ne)
        ]

    totals_written : TotalsIn sheet days rs' (with_slot slot sheet v l)
    totals_written =
        record {
          wide =
              let long : length (slots_on sheet (with_slot slot sheet v l)) ≡ length (slots_on sheet l) =
              ap length (put_slots slot sheet v l) ∙ length-set (slots_on sheet l) slot v in
              omega (arith, so.wide);
          each = λ k h.
              ap (λ ts. get_or ts k no_trades) (put_slots slot sheet v l)
              ∙ slot_written k h;
        }

-- one is written over, and the others stay
all_but :
    (P : Listed → Type 0) (ls : List Listed) (place : ℕ) (d y : Listed) → place < length ls → P y
    → ((k : ℕ) → k < length ls → (k ≡ place → ⊥) → P (get_or ls k d)) → All P (set ls place y)
all_but P ls place d y h here others =
    All-from_get_or P (set ls place y) d (λ k l.
    let below : k < length ls = omega (arith, length-set ls place y) in
    elim (cases_eq k place) [
      | inl e ↦ subst P (sym (ap (λ n. get_or (set ls place y) n d) e ∙ get_or-set_same ls place y d h)) here
      | inr ne ↦ subst P (sym (get_or-set_other ls place k y d ne)) (others k below ne)
    ])

-- where a trade stands, a sheet counts it by its state
module _ (sheet : Sheet) (ls : List Listed) (days : List ℕ) (t : Record) (place slot : ℕ) (at : StandsAt ls days t place slot)
  where
    counted_there :
        (d : Listed) → counts sheet t.state ≡ true
        → on_sheet (get_or ls place d).security.isin (get_or days slot 0) sheet t ≡ true
    counted_there d c = grind (arith, nat_tests, at.isin d, at.day, c)

    -- at no other place
    other_place :
        (d : Listed) (day k : ℕ) → Apart (map (λ l. l.security) ls) → k < length ls → (k ≡ place → ⊥)
        → on_sheet (get_or ls k d).security.isin day sheet t ≡ false
    other_place d day k apart h ne =
        let other = isin_moved t.report.isin (get_or ls place d).security.isin (get_or ls k d).security.isin false (at.isin d)
        (apart_places ls place k d apart at.placed h (λ e. ne (sym e))) in
        grind (arith, nat_tests, other)

    -- and in no other slot
    other_slot :
        (d : Listed) (k : ℕ) → Distinct days → k < length days → (k ≡ slot → ⊥)
        → on_sheet (get_or ls place d).security.isin (get_or days k 0) sheet t ≡ false
    other_slot d k distinct h ne =
        let other : t.code.day ≡ get_or days k 0 → ⊥ = λ e. ne (distinct k slot h at.held (sym e ∙ at.day)) in
        grind (arith, nat_tests, other)

-- one trade more or less, between the others
module _ (sheet : Sheet) (ls : List Listed) (days : List ℕ) (xs ys : List Record) (t : Record) (place slot : ℕ)
    (at : StandsAt ls days t place slot) (apart : Apart (map (λ l. l.security) ls)) (distinct : Distinct days)
    (counted : counts sheet t.state ≡ true)
  where
    -- from some trades to others, which differ only where the trade is counted
    moved :
        (rs rs' : List Record) (d : Listed) (v : Totals)
        → ((isin : Isin) (day : ℕ) → on_sheet isin day sheet t ≡ false → filter (on_sheet isin day sheet) rs ≡ filter (on_sheet isin day sheet) rs')
        → v ≡ totals_of (counted_at sheet days rs' (get_or ls place d) slot) → TotalsOn sheet ls days rs
        → TotalsOn sheet (set ls place (with_slot slot sheet v (get_or ls place d))) days rs'
    moved rs rs' d v same is so =
        let l = get_or ls place d in
        all_but (TotalsIn sheet days rs') ls place d (with_slot slot sheet v l) at.placed
        (totals_written sheet days rs rs' l slot v (All-get_or (TotalsIn sheet days rs) ls place d at.placed so) at.held is
        (λ k h ne. same l.security.isin (get_or days k 0) (other_slot sheet ls days t place slot at d k distinct h ne)))
        (λ k h ne.
        totals_stay sheet days rs rs' (get_or ls k d) (All-get_or (TotalsIn sheet days rs) ls k d h so)
        (λ j i. ap totals_of (same (get_or ls k d).security.isin (get_or days j 0)
        (other_place sheet ls days t place slot at d (get_or days j 0) k apart h ne))))

    kept_there : (d : Listed) → counted_at sheet days (xs ++ t ∷ ys) (get_or ls place d) slot ≡ counted_at sheet days xs (get_or ls place d) slot ++ t ∷ counted_at sheet days ys (get_or ls place d) slot
    kept_there d =
        kept_with (on_sheet (get_or ls place d).security.isin (get_or days slot 0) sheet) xs ys t (counted_there sheet ls days t place slot at d counted)

    -- a trade that the sheet counts comes in
    pub keeps_count_in :
        (d : Listed) → Few (xs ++ t ∷ ys) → TotalsOn sheet ls days (xs ++ ys)
        → TotalsOn sheet (with_trade ls place slot sheet t.report d) days (xs ++ t ∷ ys)
    keeps_count_in d few so =
        let p : Record → Bool = on_sheet (get_or ls place d).security.isin (get_or days slot 0) sheet in
        let here = All-get_or (TotalsIn sheet days (xs ++ ys)) ls place d at.placed so in
        moved (xs ++ ys) (xs ++ t ∷ ys) d _ (λ isin day out. sym (kept_without (on_sheet isin day sheet) xs ys t out))
        (ap (λ v. with_report v t.report) (here.each slot at.held ∙ ap totals_of (filter-append p xs ys))
        ∙ totals_with (filter p xs) (filter p ys) t (subst Few (kept_there d) (few_kept p (xs ++ t ∷ ys) few))
        ∙ ap totals_of (sym (kept_there d)))
        so

    -- and goes out again
    pub keeps_count_out :
        (d : Listed) → TotalsOn sheet ls days (xs ++ t ∷ ys)
        → TotalsOn sheet (without_trade ls place slot sheet t.report d) days (xs ++ ys)
    keeps_count_out d so =
        let p : Record → Bool = on_sheet (get_or ls place d).security.isin (get_or days slot 0) sheet in
        let here = All-get_or (TotalsIn sheet days (xs ++ t ∷ ys)) ls place d at.placed so in
        moved (xs ++ t ∷ ys) (xs ++ ys) d _ (λ isin day out. kept_without (on_sheet isin day sheet) xs ys t out)
        (ap (λ v. without_report v t.report) (here.each slot at.held ∙ ap totals_of (kept_there d))
        ∙ totals_without (filter p xs) (filter p ys) t
        ∙ ap totals_of (sym (filter-append p xs ys)))
        so

-- as many trades in each slot of each security
stay_all :
    (sheet : Sheet) (ls : List Listed) (days : List ℕ) (rs rs' : List Record)
    → ((l : Listed) (slot : ℕ) → totals_of (counted_at sheet days rs l slot) ≡ totals_of (counted_at sheet days rs' l slot))
    → TotalsOn sheet ls days rs → TotalsOn sheet ls days rs'
stay_all sheet ls days rs rs' same so =
    All-weaker (TotalsIn sheet days rs) (TotalsIn sheet days rs') (λ l in'. totals_stay sheet days rs rs' l in' (λ slot h. same l slot)) ls so

-- a trade that the sheet does not count changes no totals, whether it is there or not
module _ (sheet : Sheet) (ls : List Listed) (days : List ℕ) (xs ys : List Record) (t : Record)
    (out : counts sheet t.state ≡ false)
  where
    uncounted : (l : Listed) (slot : ℕ) → totals_of (counted_at sheet days (xs ++ t ∷ ys) l slot) ≡ totals_of (counted_at sheet days (xs ++ ys) l slot)
    uncounted l slot =
        let passed_over : on_sheet l.security.isin (get_or days slot 0) sheet t ≡ false = grind (arith, nat_tests, out) in
        ap totals_of (kept_without (on_sheet l.security.isin (get_or days slot 0) sheet) xs ys t passed_over)

    pub keeps_uncounted_in : TotalsOn sheet ls days (xs ++ ys) → TotalsOn sheet ls days (xs ++ t ∷ ys)
    keeps_uncounted_in so = stay_all sheet ls days (xs ++ ys) (xs ++ t ∷ ys) (λ l slot. sym (uncounted l slot)) so

    pub keeps_uncounted_out : TotalsOn sheet ls days (xs ++ t ∷ ys) → TotalsOn sheet ls days (xs ++ ys)
    keeps_uncounted_out so = stay_all sheet ls days (xs ++ t ∷ ys) (xs ++ ys) uncounted so

-- what is written on one sheet leaves the other
pub keeps_other_sheet :
    (sheet other : Sheet) (ls : List Listed) (days : List ℕ) (rs : List Record) (place slot : ℕ) (v : Totals) (d : Listed)
    → (other ≡ sheet → ⊥) → TotalsOn other ls days rs
    → TotalsOn other (set ls place (with_slot slot sheet v (get_or ls place d))) days rs
keeps_other_sheet sheet other ls days rs place slot v d ne so =
    elim (cases_lt place (length ls)) [
      | inl h ↦
          let here = All-get_or (TotalsIn other days rs) ls place d h so in
          let l = get_or ls place d in
          All-set (TotalsIn other days rs) ls place (with_slot slot sheet v l)
          (record {
            wide = subst (λ ts. length days ≤ length ts) (sym (put_other slot sheet other v l ne)) here.wide;
            each = λ k i.
                ap (λ ts. get_or ts k no_trades) (put_other slot sheet other v l ne)
                ∙ here.each k i;
          })
          so
      | inr h ↦ subst (λ ms. TotalsOn other ms days rs) (sym (set_past ls place (with_slot slot sheet v (get_or ls place d)) h)) so
    ]

-- the securities stay as they are listed
pub securities_stay :
    (ls : List Listed) (place slot : ℕ) (sheet : Sheet) (v : Totals) (d : Listed)
    → map (λ l. l.security) (set ls place (with_slot slot sheet v (get_or ls place d))) ≡ map (λ l. l.security) ls
securities_stay ls place slot sheet v d =
    map-set (λ l. l.security) ls place _
    ∙ ap (set (map (λ l. l.security) ls) place) (sym (get_or-map-past (λ l. l.security) ls place d))
    ∙ set-get_or (map (λ l. l.security) ls) place d.security

-- of two trades with one report that a test keeps or leaves alike, either may stand there
same_either :
    (p : Record → Bool) (xs ys : List Record) (t u : Record) → p u ≡ p t → t.report ≡ u.report
    → totals_of (filter p (xs ++ t ∷ ys)) ≡ totals_of (filter p (xs ++ u ∷ ys))
same_either p xs ys t u same report =
    elim (cases_Bool (p t)) [
      | inl e ↦
          ap totals_of (kept_with p xs ys t e)
          ∙ totals_same (filter p xs) (filter p ys) t u report
          ∙ ap totals_of (sym (kept_with p xs ys u (same ∙ e)))
      | inr e ↦ ap totals_of (kept_without p xs ys t e ∙ sym (kept_without p xs ys u (same ∙ e)))
    ]

module _ (sheet : Sheet) (ls : List Listed) (days : List ℕ) (code : Code) (g : Record → Record) (xs : List Record) (t : Record)
    (ys : List Record) (one : OnlyOne code xs t ys)
  where
    as_changed : (ms : List Listed) → TotalsOn sheet ms days (xs ++ g t ∷ ys) → TotalsOn sheet ms days (changed code g (xs ++ t ∷ ys))
    as_changed ms so = subst (λ rs. TotalsOn sheet ms days rs) (sym (changed_one code g xs t ys one)) so

    -- the sheet counts it no more
    pub keeps_changed_out :
        (place slot : ℕ) (d : Listed) → StandsAt ls days t place slot → Apart (map (λ l. l.security) ls) → Distinct days
        → counts sheet t.state ≡ true → counts sheet (g t).state ≡ false → TotalsOn sheet ls days (xs ++ t ∷ ys)
        → TotalsOn sheet (without_trade ls place slot sheet t.report d) days (changed code g (xs ++ t ∷ ys))
    keeps_changed_out place slot d at apart distinct was is so =
        let ms = without_trade ls place slot sheet t.report d in
        as_changed ms (keeps_uncounted_in sheet ms days xs ys (g t) is (keeps_count_out sheet ls days xs ys t place slot at apart distinct was d so))

    -- the sheet counts it from now on
    pub keeps_changed_in :
        (place slot : ℕ) (d : Listed) → StandsAt ls days (g t) place slot → Apart (map (λ l. l.security) ls) → Distinct days
        → Few (xs ++ g t ∷ ys)
        → counts sheet t.state ≡ false → counts sheet (g t).state ≡ true → TotalsOn sheet ls days (xs ++ t ∷ ys)
        → TotalsOn sheet (with_trade ls place slot sheet (g t).report d) days (changed code g (xs ++ t ∷ ys))
    keeps_changed_in place slot d at apart distinct few was is so =
        as_changed (with_trade ls place slot sheet (g t).report d)
        (keeps_count_in sheet ls days xs ys (g t) place slot at apart distinct is d few (keeps_uncounted_out sheet ls days xs ys t was so))

    -- the sheet counts it as before
    pub keeps_changed_same :
        (g t).code ≡ t.code → (g t).report ≡ t.report → counts sheet (g t).state ≡ counts sheet t.state
        → TotalsOn sheet ls days (xs ++ t ∷ ys) → TotalsOn sheet ls days (changed code g (xs ++ t ∷ ys))
    keeps_changed_same same-c same-r same_s so =
        as_changed ls
        (stay_all sheet ls days (xs ++ t ∷ ys) (xs ++ g t ∷ ys) (λ l slot.
        same_either (on_sheet l.security.isin (get_or days slot 0) sheet) xs ys t (g t)
        (λ i. same_isin (same-r i).isin l.security.isin && (eqb (same-c i).day (get_or days slot 0) && same_s i)) (sym same-r))
        so)

-- the totals at a place, in a slot
pub totals_there :
    (sheet : Sheet) (ls : List Listed) (days : List ℕ) (rs : List Record) (place slot : ℕ) (d : Listed)
    → TotalsOn sheet ls days rs → place < length ls → slot < length days
    → at_slot ls place slot sheet ≡ totals_of (filter (on_sheet (get_or ls place d).security.isin (get_or days slot 0) sheet) rs)
totals_there sheet ls days rs place slot d so h k =
    get_or-map (slot_of slot sheet) ls place d no_trades h ∙ (All-get_or (TotalsIn sheet days rs) ls place d h so).each slot k
