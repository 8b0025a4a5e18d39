use Rattle.std.proofs.Common.{◌≡◌, ℕ, ◌+◌, ◌-◌, ◌*◌, ◌<◌, max, cond, ltb, sym, refl, ap, ◌∙◌, subst, lit<, lit≤}
use Rattle.civil.specs.Dates.{day_number}
use Rattle.civil.specs.Weekdays.{last_sunday}
use Rattle.civil.specs.declared.month.Month.TheVariants.{May}
use Rattle.calendar.proofs.Dated.{on_date}
use Rattle.calendar.specs.Easter.{easter_sunday}
use Rattle.calendar.specs.Rule.{by_rule, kind_on, offset_on}
use Rattle.calendar.specs.Trading.{clock, closing_time, close, noon_point}
use Rattle.deferral.specs.Examples.{on_8_may, on_9_may}
use Rattle.deferral.proofs.examples.worked_examples.Goals as goal

close_on_8_may : close by_rule (day_number 2018 May 8) ≡ on_8_may 16 15 0
unfolding easter_sunday last_sunday
close_on_8_may = on_date (λ day t. day * 86400 + closing_time (kind_on day t) - offset_on day t) 2018 8 May _ (lit≤ tt) (lit≤ tt) (lit≤ tt) refl

noon_on_9_may : noon_point by_rule (day_number 2018 May 9) ≡ on_9_may 10 55 0
unfolding last_sunday
noon_on_9_may = on_date (λ day t. day * 86400 + clock 11 55 - offset_on day t) 2018 9 May _ (lit≤ tt) (lit≤ tt) (lit≤ tt) refl

-- what depends on the close of 8 May and the noon point of 9 May alone
at_these : {X : Type 0} (f : ℕ → ℕ → X) → f (close by_rule (day_number 2018 May 8)) (noon_point by_rule (day_number 2018 May 9)) ≡ f (on_8_may 16 15 0) (on_9_may 10 55 0)
at_these f = ap (λ (x : ℕ). f x (noon_point by_rule (day_number 2018 May 9))) close_on_8_may ∙ ap (f (on_8_may 16 15 0)) noon_on_9_may

pub returns : goal.returns
returns c = record {
  examples = record {
    row_of_fifty_thousand = refl;
    one_unit_below = refl;
    row_below_fifty_thousand = refl;
    two_hours_before_the_close = at_these (λ x y. max (cond (ltb (on_8_may 14 14 59 + 7200) x) x y) (on_8_may 14 14 59));
    two_hours_at_the_close = at_these (λ x y. max (cond (ltb (on_8_may 14 15 0 + 7200) x) x y) (on_8_may 14 15 0));
    reported_at_ten = λ d. refl;
    reported_at_noon = λ d. refl;
  };
  two_hours = record {
    smaller = refl;
    larger = refl;
    alike = record { class = refl; daily = refl };
    first = subst (λ (n : ℕ). n < on_8_may 15 0 0 + 7200) (sym (at_these (λ x y. cond (ltb (on_8_may 15 0 0) x) x y))) (lit< tt);
  };
}
