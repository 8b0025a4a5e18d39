-- A day that falls out has no waiting trade.
use Rattle.std.specs.Prelude.{◌≡◌, false, [], None}
use Rattle.std.specs.List.{AllByRecursion}
use Rattle.calendar.specs.Meaning.{Lawful as Kept}
use Rattle.rulebook.specs.declared.call.Call.TheVariants.{Open}
use Rattle.rulebook.specs.Notebook.{Rules, among, waits}
use Rattle.rulebook.specs.Lines.{due_now}
use Rattle.rulebook.specs.Desk.{taken}
use Rattle.rulebook.specs.Grounds.{ground}
use Rattle.rulebook.specs.Histories.{History, Lawful, desk_after}

-- after every lawful history, where a day would now be opened, no trade of a day that is then held no longer waits
abbrev pub NoneWaits : Type 0
NoneWaits =
    (rules : Rules) → Kept rules.calendar → (h : History) → Lawful rules h → ground rules (desk_after rules h) Open ≡ None
    → AllByRecursion (λ t. among (taken rules (desk_after rules h) Open).notebook.days t.code.day ≡ false → waits t.state ≡ false)
    (desk_after rules h).notebook.records

-- after every lawful history nothing is due: what is due is published at once, so calls that move no clock and take no trade publish none
abbrev pub NothingDue : Type 0
NothingDue = (rules : Rules) (h : History) → Lawful rules h → due_now (desk_after rules h).notebook ≡ []
