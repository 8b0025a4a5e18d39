-- Every trade held has the deadlines of its execution day.
use Rattle.std.proofs.Common.{◌≡◌, ℕ, Option, unwrap_or, sym, ap, ◌∙◌}
use Rattle.std.specs.List.{AllByRecursion as All}
use Rattle.std.proofs.ByRecursion.{All-weaker}
use Rattle.calendar.specs.Meaning.{Meaning, Lawful as Kept}
use Rattle.calendar.specs.Trading.{next_trading_day}
use Rattle.deferral.specs.declared.deadlines.Deadlines.{Deadlines}
use Rattle.deferral.specs.Deadlines.{day_of, deadlines}
use Rattle.rulebook.specs.Notebook.{Rules}
use Rattle.rulebook.specs.Histories.{History, Lawful, notebook_after}
use Rattle.rulebook.proofs.Held.{Dates, SoundTrade}
use Rattle.rulebook.proofs.Keeps.{held_after}

abbrev pub deadlines_on : Meaning → ℕ → Deadlines
deadlines_on m execution = deadlines m (day_of execution) (unwrap_or (next_trading_day m (day_of execution)) 0)

pub dates_on : (m : Meaning) (execution : ℕ) (d : Deadlines) (day : ℕ) → Dates m (day_of execution) d day → d ≡ deadlines_on m execution
dates_on m execution d day x =
    x.is ∙ ap (λ (n : Option ℕ). deadlines m (day_of execution) (unwrap_or n 0)) (sym x.next_is)

pub dated : (rules : Rules) → Kept rules.calendar → (h : History) → Lawful rules h
    → All (λ t. t.deadlines ≡ deadlines_on rules.calendar t.report.execution) (notebook_after rules h).records
dated rules law h lawful =
    All-weaker (SoundTrade rules.calendar) _ (λ t s. dates_on rules.calendar t.report.execution t.deadlines t.code.day s.dates) _
    (held_after rules law h lawful).trades
