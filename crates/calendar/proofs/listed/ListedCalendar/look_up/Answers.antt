use Rattle.std.proofs.Common.{rules, sym, ◌∙◌}
use Rattle.std.proofs.lemmas.List.Sorted.{answers_always}
use Rattle.calendar.proofs.Rising.{listed_at, listed_nowhere}
use Rattle.calendar.proofs.listed.ListedCalendar.look_up.Goals as goal

pub returns-in-Ok : goal.returns-in-Ok
returns-in-Ok c =
    let listed = c.args.self.now in
    let found = c.in-Ok.ensures.position (λ x. x.day) (answers_always _ _ _ (λ f a r g called. search rules)) in
    c.from.ensures ∙ sym (listed_at listed.first listed.last c.args.day c.in-Ok.at listed.days.now listed.rises c.in-Ok.ensures.bound found)

pub returns-in-Err : goal.returns-in-Err
returns-in-Err c =
    let listed = c.args.self.now in
    let parted = c.in-Err.ensures.position (λ x. x.day) (answers_always _ _ _ (λ f a r g called. search rules)) in
    sym (listed_nowhere listed.first listed.last c.args.day c.in-Err.field-0 listed.days.now listed.rises parted)
