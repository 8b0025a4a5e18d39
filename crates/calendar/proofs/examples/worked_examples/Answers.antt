use Rattle.std.proofs.Common.{◌+◌, ◌-◌, ◌*◌, refl, ◌∙◌, lit≤}
use Rattle.civil.specs.Weekdays.{last_sunday}
use Rattle.civil.specs.declared.month.Month.TheVariants.{March, April, December}
use Rattle.calendar.specs.declared.day.Kind.TheVariants.{Closed, Full}
use Rattle.calendar.specs.Easter.{easter_sunday}
use Rattle.calendar.specs.Rule.{by_rule, kind_on, offset_on}
use Rattle.calendar.specs.Trading.{days_after, closing_time}
use Rattle.calendar.proofs.Dated.{met, on_date}
use Rattle.calendar.proofs.examples.worked_examples.Goals as goal

pub returns : goal.returns
unfolding easter_sunday last_sunday
returns c = record {
  easter_2018 = refl;
  easter_2049 = refl;
  easter_2076 = refl;
  easter_2100 = refl;
  after_easter_week =
      met by_rule 17620 (days_after 13 17620) Closed refl (on_date kind_on 2018 30 March Closed (lit≤ tt) (lit≤ tt) (lit≤ tt) refl)
      ∙ met by_rule 17621 (days_after 12 17621) Closed refl (on_date kind_on 2018 31 March Closed (lit≤ tt) (lit≤ tt) (lit≤ tt) refl)
      ∙ met by_rule 17622 (days_after 11 17622) Closed refl (on_date kind_on 2018 1 April Closed (lit≤ tt) (lit≤ tt) (lit≤ tt) refl)
      ∙ met by_rule 17623 (days_after 10 17623) Closed refl (on_date kind_on 2018 2 April Closed (lit≤ tt) (lit≤ tt) (lit≤ tt) refl)
      ∙ met by_rule 17624 (days_after 9 17624) Full refl (on_date kind_on 2018 3 April Full (lit≤ tt) (lit≤ tt) (lit≤ tt) refl);
  christmas_eve =
      on_date (λ day t. day * 86400 + closing_time (kind_on day t) - offset_on day t) 2018 24 December _ (lit≤ tt) (lit≤ tt) (lit≤ tt) refl;
}
