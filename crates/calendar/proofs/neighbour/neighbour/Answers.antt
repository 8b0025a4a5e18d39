use Rattle.std.proofs.Common.{None, Some, sym, ◌∙◌, arith}
use Rattle.calendar.proofs.Stepping.{stepped, through, unknown_day, known_day}
use Rattle.calendar.proofs.neighbour.neighbour.Goals as goal

pub returns-in_err-at : goal.returns-in_err-at
returns-in_err-at g c = λ step gives.
    let m = g.C.Calendar.meaning c.args.calendar.now in
    c.from_residual.ensures
    ∙ sym (stepped m step c.args.reach c.loop-tried._tried c.loop-tried.at _ None (omega arith) (c.loop-tried.invariant step gives) (gives _ _ c.in_err-at.ensures))

pub returns-in_err-ask : goal.returns-in_err-ask
returns-in_err-ask g c = λ step gives.
    let m = g.C.Calendar.meaning c.args.calendar.now in
    c.from_residual-in_err-ask.ensures
    ∙ sym (stepped m step c.args.reach c.loop-tried._tried c.loop-tried.at _ (Some c.in_ok-at.at) (omega arith) (c.loop-tried.invariant step gives) (gives _ _ c.in_ok-at.ensures)
    ∙ unknown_day m c.in_ok-at.at _ c.in_err-ask.ensures)

pub returns-then-trades : goal.returns-then-trades
returns-then-trades g c = λ step gives.
    let m = g.C.Calendar.meaning c.args.calendar.now in
    sym (stepped m step c.args.reach c.loop-tried._tried c.loop-tried.at _ (Some c.in_ok-at.at) (omega arith) (c.loop-tried.invariant step gives) (gives _ _ c.in_ok-at.ensures)
    ∙ known_day m c.in_ok-at.at _ c.in_ok-ask.field-0 _ c.in_ok-ask.ensures c.if-trades.ensures)

pub loop-tried-preserved : goal.loop-tried-preserved
loop-tried-preserved g c = λ step gives.
    let m = g.C.Calendar.meaning c.args.calendar.now in
    stepped m step c.args.reach c.loop-tried._tried c.loop-tried.at _ (Some c.in_ok-at.at) (omega arith) (c.loop-tried.invariant step gives) (gives _ _ c.in_ok-at.ensures)
    ∙ known_day m c.in_ok-at.at _ c.in_ok-ask.field-0 _ c.in_ok-ask.ensures c.if-trades.ensures

pub returns : goal.returns
returns g c = λ step gives.
    let m = g.C.Calendar.meaning c.args.calendar.now in
    sym (c.loop-tried.invariant step gives ∙ through m step c.args.reach c.loop-tried._tried c.loop-tried.at (omega arith))
