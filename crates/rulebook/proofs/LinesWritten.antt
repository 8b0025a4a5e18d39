-- How many lines a call writes where nothing was due before it.
use Rattle.std.proofs.Common.{◌≡◌, ℕ, suc, ◌+◌, Bool, cond, List, [], ◌∷◌, ◌++◌, length, Some, Ok, Err, Option, Result, refl, ap, ◌∙◌, length-append, rules}
use Rattle.std.proofs.ByRecursion.{all_kept_by}
use Rattle.std.proofs.lemmas.List.{append-nil}
use Rattle.refusal.specs.declared.Refusal.{Refusal}
use Rattle.identifier.specs.declared.isin.Isin.{Isin}
use Rattle.identifier.specs.declared.member.Member.{Member}
use Rattle.deferral.specs.declared.opened.Opened.{Opened}
use Rattle.deferral.specs.Deadlines.{day_of, opened}
use Rattle.report.specs.declared.figures.Sheet.{Sheet}
use Rattle.report.specs.declared.line.Line.{Line}
use Rattle.report.specs.declared.report.Code.{Code}
use Rattle.report.specs.declared.report.Report.{Report}
use Rattle.report.specs.declared.security.Security.{Security}
use Rattle.rulebook.specs.declared.call.Call.TheVariants.{List as Listing, Advance, Open, Enter, Amend, Cancel, CarryAway, Figures}
use Rattle.rulebook.specs.declared.record.Record.{Record}
use Rattle.rulebook.specs.Lists.{where_some}
use Rattle.rulebook.specs.Notebook.{Rules, Notebook, record_of, is_published, is_due}
use Rattle.rulebook.specs.Lines.{due_now, due_lines, told_from, recalled, recall_lines}
use Rattle.rulebook.specs.Taken.{at_clock, day_opened, without, with_new, entered, amended, lines_of}
use Rattle.rulebook.proofs.Settling.{Undue, undue_lines, undue_without, lines_with_new}

pub length_told : (day number : ℕ) (ts : List Record) → length (told_from day number ts) ≡ length ts
length_told day number [] = refl
length_told day number (t ∷ ts) = ap suc (length_told day (number + 1) ts)

pub one_or_none : {X : Type 0} (b : Bool) (x : X) → length (cond b (x ∷ []) []) ≡ cond b 1 0
one_or_none b x = search rules

-- a line for each trade that is due
pub length_due_lines : (nb : Notebook) → length (due_lines nb) ≡ length (due_now nb)
length_due_lines nb = length_told _ _ (due_now nb)

pub length_recall_lines : (nb : Notebook) (code : Code) (t : Record) → record_of nb code ≡ Some t
    → length (recall_lines nb code) ≡ cond (is_published t.state) 1 0
length_recall_lines nb code t e =
    ap (λ (x : Option Record). length (where_some x (recalled nb))) e ∙ one_or_none (is_published t.state) _

length_with_new : (nb : Notebook) (x : Option Record) (t : Record) → x ≡ Some t → Undue nb
    → length (due_lines (with_new x nb)) ≡ cond (is_due nb.clock t) 1 0
length_with_new nb x t e undue =
    ap (λ (y : Option Record). length (due_lines (with_new y nb))) e
    ∙ ap length (lines_with_new nb t undue)
    ∙ one_or_none (is_due nb.clock t) _

module _ (rules : Rules) (nb : Notebook) (undue : Undue nb) where
  pub lines_by_listing : (s : Security) → length (lines_of rules nb (Listing s)) ≡ 0
  lines_by_listing s = ap length (undue_lines nb undue)

  pub lines_by_opening : length (lines_of rules nb Open) ≡ 0
  lines_by_opening = by_day (opened rules.calendar (day_of nb.clock))
    where
      by_day : (x : Result Opened Refusal) → length (due_lines (day_opened x nb)) ≡ 0
      by_day (Ok o) = ap length (undue_lines (day_opened (Ok o) nb) (all_kept_by _ _ nb.records undue))
      by_day (Err r) = ap length (undue_lines nb undue)

  pub lines_by_entry : (r : Report) (t : Record) → entered rules nb r ≡ Some t
      → length (lines_of rules nb (Enter r)) ≡ cond (is_due nb.clock t) 1 0
  lines_by_entry r t e = length_with_new nb (entered rules nb r) t e undue

  pub lines_by_amendment : (code : Code) (r : Report) (t : Record) → amended rules nb code r ≡ Some t
      → length (lines_of rules nb (Amend code r)) ≡ length (recall_lines nb code) + cond (is_due nb.clock t) 1 0
  lines_by_amendment code r t e =
      length-append (recall_lines nb code) _
      ∙ ap (λ (n : ℕ). length (recall_lines nb code) + n)
      (length_with_new (without code nb) (amended rules nb code r) t e (undue_without nb code undue))

  pub lines_by_cancellation : (member : Member) (code : Code) → length (lines_of rules nb (Cancel member code)) ≡ length (recall_lines nb code)
  lines_by_cancellation member code =
      ap (λ (ls : List Line). length (recall_lines nb code ++ ls)) (undue_lines (without code nb) (undue_without nb code undue))
      ∙ ap length (append-nil (recall_lines nb code))

  pub lines_by_carrying : (room : ℕ) → length (lines_of rules nb (CarryAway room)) ≡ 0
  lines_by_carrying room = ap length (undue_lines nb undue)

  pub lines_by_figures : (isin : Isin) (day : ℕ) (sheet : Sheet) → length (lines_of rules nb (Figures isin day sheet)) ≡ 0
  lines_by_figures isin day sheet = ap length (undue_lines nb undue)

-- an advance writes a line for each trade that it makes due
pub lines_by_advance : (rules : Rules) (nb : Notebook) (moment : ℕ)
    → length (lines_of rules nb (Advance moment)) ≡ length (due_now (at_clock moment nb))
lines_by_advance rules nb moment = length_due_lines (at_clock moment nb)
