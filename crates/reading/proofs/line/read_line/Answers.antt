use Rattle.std.proofs.Common.{rules, tests, refl}
use Rattle.reading.specs.Line.{class_flaw, class_of, field_flaw, mark_flaw, defers, line_read}
use Rattle.reading.specs.Number.{decimal_value}
use Rattle.reading.specs.declared.flaw.Field.TheVariants.{Daily, Price, Quantity, Execution, Clock}
use Rattle.reading.specs.declared.line.Asked.{Asked}
use Rattle.reading.proofs.Lines.{begins, goes_on, gives, ends, ends_many, ends_right}
use Rattle.reading.proofs.Told.{exits}
use Rattle.reading.proofs.line.read_line.Goals as goal

pub returns-in_err-class : goal.returns-in_err-class
unfolding line_read
returns-in_err-class c =
    let r0 = begins _ c.args.line.now _ _ c.next.ensures.steps c.split-words.ensures.rest c.split-words.ensures.done c.split-words.ensures.closure (λ x b q k. search (rules, tests)) in
    exits c.from_residual.result _ _ c.from_residual.ensures.1 (ends 0 _ r0 c.next.ensures.steps c.unwrap_or.ensures refl class_flaw class_of refl c.in_err-class.ensures)

pub returns-in_err-daily : goal.returns-in_err-daily
unfolding line_read
returns-in_err-daily c =
    let r0 = begins _ c.args.line.now _ _ c.next.ensures.steps c.split-words.ensures.rest c.split-words.ensures.done c.split-words.ensures.closure (λ x b q k. search (rules, tests)) in
    let r1 = goes_on 0 _ r0 c.next.ensures.steps c.unwrap_or.ensures refl class_flaw class_of refl c.in_ok-class.ensures in
    exits c.from_residual-in_err-daily.result _ _ c.from_residual-in_err-daily.ensures.1 (ends 1 _ r1 c.next-2.ensures.steps c.unwrap_or-2.ensures refl (field_flaw Daily) decimal_value refl c.in_err-daily.ensures)

pub returns-in_err-price : goal.returns-in_err-price
unfolding line_read
returns-in_err-price c =
    let r0 = begins _ c.args.line.now _ _ c.next.ensures.steps c.split-words.ensures.rest c.split-words.ensures.done c.split-words.ensures.closure (λ x b q k. search (rules, tests)) in
    let r1 = goes_on 0 _ r0 c.next.ensures.steps c.unwrap_or.ensures refl class_flaw class_of refl c.in_ok-class.ensures in
    let r2 = goes_on 1 _ r1 c.next-2.ensures.steps c.unwrap_or-2.ensures refl (field_flaw Daily) decimal_value refl c.in_ok-daily.ensures in
    exits c.from_residual-in_err-price.result _ _ c.from_residual-in_err-price.ensures.1 (ends 2 _ r2 c.next-3.ensures.steps c.unwrap_or-3.ensures refl (field_flaw Price) decimal_value refl c.in_err-price.ensures)

pub returns-in_err-quantity : goal.returns-in_err-quantity
unfolding line_read
returns-in_err-quantity c =
    let r0 = begins _ c.args.line.now _ _ c.next.ensures.steps c.split-words.ensures.rest c.split-words.ensures.done c.split-words.ensures.closure (λ x b q k. search (rules, tests)) in
    let r1 = goes_on 0 _ r0 c.next.ensures.steps c.unwrap_or.ensures refl class_flaw class_of refl c.in_ok-class.ensures in
    let r2 = goes_on 1 _ r1 c.next-2.ensures.steps c.unwrap_or-2.ensures refl (field_flaw Daily) decimal_value refl c.in_ok-daily.ensures in
    let r3 = goes_on 2 _ r2 c.next-3.ensures.steps c.unwrap_or-3.ensures refl (field_flaw Price) decimal_value refl c.in_ok-price.ensures in
    exits c.from_residual-in_err-quantity.result _ _ c.from_residual-in_err-quantity.ensures.1 (ends 3 _ r3 c.next-4.ensures.steps c.unwrap_or-4.ensures refl (field_flaw Quantity) decimal_value refl c.in_err-quantity.ensures)

pub returns-in_err-execution : goal.returns-in_err-execution
unfolding line_read
returns-in_err-execution c =
    let r0 = begins _ c.args.line.now _ _ c.next.ensures.steps c.split-words.ensures.rest c.split-words.ensures.done c.split-words.ensures.closure (λ x b q k. search (rules, tests)) in
    let r1 = goes_on 0 _ r0 c.next.ensures.steps c.unwrap_or.ensures refl class_flaw class_of refl c.in_ok-class.ensures in
    let r2 = goes_on 1 _ r1 c.next-2.ensures.steps c.unwrap_or-2.ensures refl (field_flaw Daily) decimal_value refl c.in_ok-daily.ensures in
    let r3 = goes_on 2 _ r2 c.next-3.ensures.steps c.unwrap_or-3.ensures refl (field_flaw Price) decimal_value refl c.in_ok-price.ensures in
    let r4 = goes_on 3 _ r3 c.next-4.ensures.steps c.unwrap_or-4.ensures refl (field_flaw Quantity) decimal_value refl c.in_ok-quantity.ensures in
    exits c.from_residual-in_err-execution.result _ _ c.from_residual-in_err-execution.ensures.1 (ends 4 _ r4 c.next-5.ensures.steps c.unwrap_or-5.ensures refl (field_flaw Execution) decimal_value refl c.in_err-execution.ensures)

pub returns-in_err-clock : goal.returns-in_err-clock
unfolding line_read
returns-in_err-clock c =
    let r0 = begins _ c.args.line.now _ _ c.next.ensures.steps c.split-words.ensures.rest c.split-words.ensures.done c.split-words.ensures.closure (λ x b q k. search (rules, tests)) in
    let r1 = goes_on 0 _ r0 c.next.ensures.steps c.unwrap_or.ensures refl class_flaw class_of refl c.in_ok-class.ensures in
    let r2 = goes_on 1 _ r1 c.next-2.ensures.steps c.unwrap_or-2.ensures refl (field_flaw Daily) decimal_value refl c.in_ok-daily.ensures in
    let r3 = goes_on 2 _ r2 c.next-3.ensures.steps c.unwrap_or-3.ensures refl (field_flaw Price) decimal_value refl c.in_ok-price.ensures in
    let r4 = goes_on 3 _ r3 c.next-4.ensures.steps c.unwrap_or-4.ensures refl (field_flaw Quantity) decimal_value refl c.in_ok-quantity.ensures in
    let r5 = goes_on 4 _ r4 c.next-5.ensures.steps c.unwrap_or-5.ensures refl (field_flaw Execution) decimal_value refl c.in_ok-execution.ensures in
    exits c.from_residual-in_err-clock.result _ _ c.from_residual-in_err-clock.ensures.1 (ends 5 _ r5 c.next-6.ensures.steps c.unwrap_or-6.ensures refl (field_flaw Clock) decimal_value refl c.in_err-clock.ensures)

pub returns-in_err-deferrable : goal.returns-in_err-deferrable
unfolding line_read
returns-in_err-deferrable c =
    let r0 = begins _ c.args.line.now _ _ c.next.ensures.steps c.split-words.ensures.rest c.split-words.ensures.done c.split-words.ensures.closure (λ x b q k. search (rules, tests)) in
    let r1 = goes_on 0 _ r0 c.next.ensures.steps c.unwrap_or.ensures refl class_flaw class_of refl c.in_ok-class.ensures in
    let r2 = goes_on 1 _ r1 c.next-2.ensures.steps c.unwrap_or-2.ensures refl (field_flaw Daily) decimal_value refl c.in_ok-daily.ensures in
    let r3 = goes_on 2 _ r2 c.next-3.ensures.steps c.unwrap_or-3.ensures refl (field_flaw Price) decimal_value refl c.in_ok-price.ensures in
    let r4 = goes_on 3 _ r3 c.next-4.ensures.steps c.unwrap_or-4.ensures refl (field_flaw Quantity) decimal_value refl c.in_ok-quantity.ensures in
    let r5 = goes_on 4 _ r4 c.next-5.ensures.steps c.unwrap_or-5.ensures refl (field_flaw Execution) decimal_value refl c.in_ok-execution.ensures in
    let r6 = goes_on 5 _ r5 c.next-6.ensures.steps c.unwrap_or-6.ensures refl (field_flaw Clock) decimal_value refl c.in_ok-clock.ensures in
    exits c.from_residual-in_err-deferrable.result _ _ c.from_residual-in_err-deferrable.ensures.1 (ends 6 _ r6 c.next-7.ensures.steps c.unwrap_or-7.ensures refl mark_flaw defers refl c.in_err-deferrable.ensures)

pub returns-then-is_some : goal.returns-then-is_some
unfolding line_read
returns-then-is_some c =
    let r0 = begins _ c.args.line.now _ _ c.next.ensures.steps c.split-words.ensures.rest c.split-words.ensures.done c.split-words.ensures.closure (λ x b q k. search (rules, tests)) in
    let r1 = goes_on 0 _ r0 c.next.ensures.steps c.unwrap_or.ensures refl class_flaw class_of refl c.in_ok-class.ensures in
    let r2 = goes_on 1 _ r1 c.next-2.ensures.steps c.unwrap_or-2.ensures refl (field_flaw Daily) decimal_value refl c.in_ok-daily.ensures in
    let r3 = goes_on 2 _ r2 c.next-3.ensures.steps c.unwrap_or-3.ensures refl (field_flaw Price) decimal_value refl c.in_ok-price.ensures in
    let r4 = goes_on 3 _ r3 c.next-4.ensures.steps c.unwrap_or-4.ensures refl (field_flaw Quantity) decimal_value refl c.in_ok-quantity.ensures in
    let r5 = goes_on 4 _ r4 c.next-5.ensures.steps c.unwrap_or-5.ensures refl (field_flaw Execution) decimal_value refl c.in_ok-execution.ensures in
    let r6 = goes_on 5 _ r5 c.next-6.ensures.steps c.unwrap_or-6.ensures refl (field_flaw Clock) decimal_value refl c.in_ok-clock.ensures in
    let r7 = goes_on 6 _ r6 c.next-7.ensures.steps c.unwrap_or-7.ensures refl mark_flaw defers refl c.in_ok-deferrable.ensures in
    ends_many r7 c.next-8.ensures.steps (cc)

pub returns : goal.returns
unfolding line_read
returns c =
    let r0 = begins _ c.args.line.now _ _ c.next.ensures.steps c.split-words.ensures.rest c.split-words.ensures.done c.split-words.ensures.closure (λ x b q k. search (rules, tests)) in
    let r1 = goes_on 0 _ r0 c.next.ensures.steps c.unwrap_or.ensures refl class_flaw class_of refl c.in_ok-class.ensures in
    let r2 = goes_on 1 _ r1 c.next-2.ensures.steps c.unwrap_or-2.ensures refl (field_flaw Daily) decimal_value refl c.in_ok-daily.ensures in
    let r3 = goes_on 2 _ r2 c.next-3.ensures.steps c.unwrap_or-3.ensures refl (field_flaw Price) decimal_value refl c.in_ok-price.ensures in
    let r4 = goes_on 3 _ r3 c.next-4.ensures.steps c.unwrap_or-4.ensures refl (field_flaw Quantity) decimal_value refl c.in_ok-quantity.ensures in
    let r5 = goes_on 4 _ r4 c.next-5.ensures.steps c.unwrap_or-5.ensures refl (field_flaw Execution) decimal_value refl c.in_ok-execution.ensures in
    let r6 = goes_on 5 _ r5 c.next-6.ensures.steps c.unwrap_or-6.ensures refl (field_flaw Clock) decimal_value refl c.in_ok-clock.ensures in
    let r7 = goes_on 6 _ r6 c.next-7.ensures.steps c.unwrap_or-7.ensures refl mark_flaw defers refl c.in_ok-deferrable.ensures in
    let class = gives 0 _ r0 c.next.ensures.steps c.unwrap_or.ensures refl class_flaw class_of c.in_ok-class.ensures in
    let daily = gives 1 _ r1 c.next-2.ensures.steps c.unwrap_or-2.ensures refl (field_flaw Daily) decimal_value c.in_ok-daily.ensures in
    let price = gives 2 _ r2 c.next-3.ensures.steps c.unwrap_or-3.ensures refl (field_flaw Price) decimal_value c.in_ok-price.ensures in
    let quantity = gives 3 _ r3 c.next-4.ensures.steps c.unwrap_or-4.ensures refl (field_flaw Quantity) decimal_value c.in_ok-quantity.ensures in
    let execution = gives 4 _ r4 c.next-5.ensures.steps c.unwrap_or-5.ensures refl (field_flaw Execution) decimal_value c.in_ok-execution.ensures in
    let clock = gives 5 _ r5 c.next-6.ensures.steps c.unwrap_or-6.ensures refl (field_flaw Clock) decimal_value c.in_ok-clock.ensures in
    let deferrable = gives 6 _ r6 c.next-7.ensures.steps c.unwrap_or-7.ensures refl mark_flaw defers c.in_ok-deferrable.ensures in
    let asked : Asked = record { trade = record { class = c.in_ok-class.class; daily = c.in_ok-daily.daily; price = c.in_ok-price.price; quantity = c.in_ok-quantity.quantity; execution = c.in_ok-execution.execution; deferrable = c.in_ok-deferrable.deferrable }; clock = c.in_ok-clock.clock } in
    ends_right r7 c.next-8.ensures.steps asked (cc) (cc)
