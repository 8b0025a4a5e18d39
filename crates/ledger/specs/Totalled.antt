-- The totals of the listed securities, as they are written and as they are held to the trades.
use Rattle.std.specs.Prelude.{◌≡◌, ℕ, ◌^◌, ◌<◌, ◌≤◌, true, false, List, [], ◌∷◌, map, length, get_or, is_some, filter, slice_index, slice_index_or, slice_set}
use Rattle.std.specs.List.{find, AllByRecursion}
use Rattle.report.specs.declared.figures.Sheet.{Sheet}
use Rattle.report.specs.declared.figures.Sheet.TheVariants.{Full, Public}
use Rattle.report.specs.declared.report.Code.{Code}
use Rattle.report.specs.declared.report.Report.{Report}
use Rattle.report.specs.declared.security.Security.{Security}
use Rattle.rulebook.specs.declared.record.Record.{Record}
use Rattle.rulebook.specs.Notebook.{same_isin, same_code}
use Rattle.rulebook.specs.Sheets.{on_sheet}
use Rattle.ledger.specs.declared.listed.Listed.{Listed}
use Rattle.ledger.specs.declared.slot.Slot.{Slot}
use Rattle.ledger.specs.declared.totals.Totals.{Totals}
use Rattle.ledger.specs.Totals.{no_trades, totals_of, turnover_of, with_report, without_report}

-- the totals of a held day, on each sheet
abbrev pub no_slot : Slot
no_slot = record { full = no_trades; public = no_trades }

abbrev pub on : Sheet → Slot → Totals
on Full s = s.full
on Public s = s.public

abbrev pub written_on : Sheet → Totals → Slot → Slot
written_on Full totals s = record { full = totals; public = s.public }
written_on Public totals s = record { full = s.full; public = totals }

-- a sheet's totals of each held day
abbrev pub slots_on : Sheet → Listed → List Totals
slots_on sheet l = map (on sheet) l.slots

-- none past the last slot
abbrev pub slot_of : ℕ → Sheet → Listed → Totals
slot_of slot sheet l = slice_index_or (slots_on sheet l) slot no_trades

abbrev pub with_slot : ℕ → Sheet → Totals → Listed → Listed
with_slot slot sheet totals l =
    record { security = l.security; slots = slice_set l.slots slot (written_on sheet totals (slice_index_or l.slots slot no_slot)) }

-- a trade more in a slot, and a trade less
abbrev pub counted_in : ℕ → Sheet → Report → Listed → Listed
counted_in slot sheet r l = with_slot slot sheet (with_report (slot_of slot sheet l) r) l

abbrev pub counted_out : ℕ → Sheet → Report → Listed → Listed
counted_out slot sheet r l = with_slot slot sheet (without_report (slot_of slot sheet l) r) l

-- among the listed securities, at a place that they have; `d` is never read
abbrev pub with_totals : List Listed → ℕ → ℕ → Sheet → Totals → Listed → List Listed
with_totals ls place slot sheet totals d = slice_set ls place (with_slot slot sheet totals (slice_index_or ls place d))

abbrev pub with_trade : List Listed → ℕ → ℕ → Sheet → Report → Listed → List Listed
with_trade ls place slot sheet r d = slice_set ls place (counted_in slot sheet r (slice_index_or ls place d))

abbrev pub without_trade : List Listed → ℕ → ℕ → Sheet → Report → Listed → List Listed
without_trade ls place slot sheet r d = slice_set ls place (counted_out slot sheet r (slice_index_or ls place d))

-- a day was opened, and has no trades
abbrev pub moved_slots : List Slot → List Slot
moved_slots ss = no_slot ∷ slice_index_or ss 0 no_slot ∷ slice_index_or ss 1 no_slot ∷ []

abbrev pub moved_on : Listed → Listed
moved_on l = record { security = l.security; slots = moved_slots l.slots }

-- the totals at a place; none where there is no security
abbrev pub at_slot : List Listed → ℕ → ℕ → Sheet → Totals
at_slot ls place slot sheet = slice_index_or (map (slot_of slot sheet) ls) place no_trades

-- the totals of a security on a sheet are those of the trades, counted afresh, in the slot of each held day
pub record TotalsIn (sheet : Sheet) (days : List ℕ) (rs : List Record) (l : Listed) : Type 0 where
  -- each held day has a slot
  pub wide : length days ≤ length (slots_on sheet l)
  pub each :
      (slot : ℕ) → slot < length days
      → slot_of slot sheet l ≡ totals_of (filter (on_sheet l.security.isin (slice_index days slot) sheet) rs)

-- so are those of each listed security; the days are held the latest first
abbrev pub TotalsOn : Sheet → List Listed → List ℕ → List Record → Type 0
TotalsOn sheet ls days rs = AllByRecursion (TotalsIn sheet days rs) ls

-- on both sheets
abbrev pub TotalsOf : List Listed → List ℕ → List Record → Type 0
TotalsOf ls days rs = (sheet : Sheet) → TotalsOn sheet ls days rs

-- no two have one ISIN
abbrev pub Apart : List Security → Type 0
Apart [] = Unit {0}
Apart (s ∷ ss) = AllByRecursion (λ x. same_isin s.isin x.isin ≡ false) ss × Apart ss

-- no two are one day
abbrev pub Distinct : List ℕ → Type 0
Distinct days = (i j : ℕ) → i < length days → j < length days → slice_index days i ≡ slice_index days j → i ≡ j

-- so few trades, and each so small, that no sum of theirs reaches the largest number of its bits
abbrev pub Small : Record → Type 0
Small t = (t.report.quantity < 2 ^ 32) × (turnover_of t.report ≤ 1000000000000000)

abbrev pub Few : List Record → Type 0
Few rs = (length rs ≤ 4096) × AllByRecursion Small rs

-- the trade's security stands at the place, and its day is that of the slot
pub record StandsAt (ls : List Listed) (days : List ℕ) (t : Record) (place slot : ℕ) : Type 0 where
  pub placed : place < length ls
  pub held : slot < length days
  pub isin : (d : Listed) → same_isin t.report.isin (get_or ls place d).security.isin ≡ true
  pub day : t.code.day ≡ slice_index days slot

-- no two trades have one code
abbrev pub CodesApart : List Record → Type 0
CodesApart rs =
    (i j : ℕ) (d : Record) → i < length rs → j < length rs → same_code (get_or rs i d).code (get_or rs j d).code ≡ true → i ≡ j

-- the one trade of a code, between the others
pub record OnlyOne (code : Code) (xs : List Record) (t : Record) (ys : List Record) : Type 0 where
  pub its : same_code t.code code ≡ true
  pub before : AllByRecursion (λ u. same_code u.code code ≡ false) xs
  pub behind : AllByRecursion (λ u. same_code u.code code ≡ false) ys

-- the security of each trade is listed
abbrev pub EachListed : List Security → List Record → Type 0
EachListed ss rs = AllByRecursion (λ t. is_some (find (λ s. same_isin s.isin t.report.isin) ss) ≡ true) rs
