-- Number, volume and turnover of some trades.
use Rattle.std.specs.Prelude.{ℕ, ◌+◌, ◌-◌, ◌*◌, ◌^◌, min, List, length, sum_by}
use Rattle.report.specs.declared.report.Report.{Report}
use Rattle.rulebook.specs.declared.record.Record.{Record}
use Rattle.ledger.specs.declared.totals.Totals.{Totals}

abbrev pub no_trades : Totals
no_trades = record { number = 0; volume = 0; turnover = 0 }

abbrev pub turnover_of : Report → ℕ
turnover_of r = r.price * r.quantity

-- those of one trade
abbrev pub totals_of_one : Report → Totals
totals_of_one r = record { number = 1; volume = r.quantity; turnover = turnover_of r }

-- counted afresh
abbrev pub totals_of : List Record → Totals
totals_of ts =
    record { number = length ts; volume = sum_by (λ t. t.report.quantity) ts; turnover = sum_by (λ t. turnover_of t.report) ts }

-- a sum past the largest number of its bits becomes that number
abbrev pub with_report : Totals → Report → Totals
with_report t r =
    record {
      number = min (t.number + 1) (2 ^ 32 - 1);
      volume = min (t.volume + r.quantity) (2 ^ 64 - 1);
      turnover = min (t.turnover + turnover_of r) (2 ^ 64 - 1);
    }

-- subtraction stops at 0
abbrev pub without_report : Totals → Report → Totals
without_report t r =
    record { number = t.number - 1; volume = t.volume - r.quantity; turnover = t.turnover - turnover_of r }
