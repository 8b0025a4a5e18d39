-- The larger trade is never earlier.
use Rattle.std.specs.Prelude.{◌≡◌, ◌*◌, ◌≤◌, Ok}
use Rattle.calendar.specs.Meaning.{Lawful as Kept}
use Rattle.deferral.specs.Tiers.{Rises}
use Rattle.report.specs.declared.report.Code.{Code}
use Rattle.report.specs.declared.report.Report.{Report}
use Rattle.rulebook.specs.declared.call.Answer.TheVariants.{Taken}
use Rattle.rulebook.specs.declared.call.Call.{Call}
use Rattle.rulebook.specs.declared.call.Call.TheVariants.{Enter, Amend}
use Rattle.rulebook.specs.declared.call.Receipt.{Receipt}
use Rattle.rulebook.specs.Notebook.{Rules}
use Rattle.rulebook.specs.Answers.{answer_to}
use Rattle.rulebook.specs.Histories.{History, Lawful, desk_after}

-- two reports alike, but for price and quantity, in all that publication looks at
pub record AlikeButSize (r q : Report) : Type 0 where
  pub isin : r.isin ≡ q.isin
  pub execution : r.execution ≡ q.execution
  pub capacity : r.capacity ≡ q.capacity
  pub nodef : r.nodef ≡ q.nodef
  pub actx : r.actx ≡ q.actx

-- a call that brings a report, by entry or by amendment
pub data Brings : Call → Report → Type 0 where
  by_entry : {r : Report} → Brings (Enter r) r
  by_amendment : {code : Code} {r : Report} → Brings (Amend code r) r

-- after every lawful history, of two reports that would now be taken, the one of larger turnover gets no earlier moment
abbrev pub LargerNeverEarlier : Rules → Type 0
LargerNeverEarlier rules =
    (h : History) → Lawful rules h → (c d : Call) (r q : Report) (x y : Receipt) → Brings c r → Brings d q → AlikeButSize r q
    → r.price * r.quantity ≤ q.price * q.quantity
    → answer_to rules (desk_after rules h) c ≡ Ok (Taken x) → answer_to rules (desk_after rules h) d ≡ Ok (Taken y) → x.moment ≤ y.moment

abbrev pub LargerEverywhere : Type 0
LargerEverywhere = (rules : Rules) → Kept rules.calendar → Rises rules.tier → LargerNeverEarlier rules
