-- Codes and line numbers have no gaps.
use Rattle.std.specs.Prelude.{◌≡◌, ℕ, List, map, length, filter, nat_eq}
use Rattle.std.specs.List.{range_with_len}
use Rattle.calendar.specs.Meaning.{Lawful as Kept}
use Rattle.report.specs.declared.line.Line.{Line}
use Rattle.rulebook.specs.Notebook.{Rules, Notebook, of_day}
use Rattle.rulebook.specs.Histories.{History, Lawful, notebook_after, tape}

-- 1, 2, 3 .. to the end
abbrev pub Counting : List ℕ → Type 0
Counting ns = ns ≡ range_with_len 1 (length ns)

abbrev pub serials : Notebook → ℕ → List ℕ
serials nb day = map (λ t. t.code.serial) (filter (of_day day) nb.records)

abbrev pub line_numbers : List Line → ℕ → List ℕ
line_numbers lines day = map (λ l. l.place.number) (filter (λ l. nat_eq l.place.day day) lines)

-- the serials of a day's trades in the order in which they were taken, and the numbers of a day's lines in the order of writing
pub record NoGap (rules : Rules) (h : History) : Type 0 where
  pub codes : (day : ℕ) → Counting (serials (notebook_after rules h) day)
  pub lines : (day : ℕ) → Counting (line_numbers (tape rules h) day)

abbrev pub NoGaps : Type 0
NoGaps = (rules : Rules) → Kept rules.calendar → (h : History) → Lawful rules h → NoGap rules h
