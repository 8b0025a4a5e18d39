-- What publication and the sheets need of a report.
use Rattle.std.specs.Prelude.{Bool, not, ◌||◌, ◌==◌}
use Rattle.deferral.specs.declared.trade.Trade.{Trade}
use Rattle.report.specs.declared.report.Report.{Report}
use Rattle.report.specs.declared.security.Security.{Security}
use Rattle.report.specs.Judged.{waiver_number, as_agent}

-- NODEF, ACTX or capacity AOTC: publication is not deferred
abbrev pub may_defer : Report → Bool
may_defer r = not (r.nodef || (r.actx || as_agent r.capacity))

-- the trade that a schedule and a calendar judge
abbrev pub trade_of : Report → Security → Trade
trade_of r s =
    record {
      class = s.class;
      daily = s.daily;
      price = r.price;
      quantity = r.quantity;
      execution = r.execution;
      deferrable = may_defer r;
    }

-- opening, high, low and last leave out BENC, SDIV and PRIC
abbrev pub makes_prices : Report → Bool
makes_prices r = not (r.benc || (r.sdiv || waiver_number r.waiver == 3))
