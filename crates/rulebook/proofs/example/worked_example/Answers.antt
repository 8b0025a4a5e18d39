use Rattle.std.proofs.Common.{refl, subst}
use Rattle.calendar.specs.Meaning.{Meaning}
use Rattle.identifier.specs.Counterparty.{is_right}
use Rattle.identifier.specs.Isin.{is_isin}
use Rattle.rulebook.specs.Example.{WorkedExample}
use Rattle.rulebook.proofs.WrittenDays.{by_rule_in_may, in_may}
use Rattle.rulebook.proofs.example.worked_example.Goals as goal

in_may_2018 : WorkedExample by_rule_in_may
unfolding is_isin is_right
in_may_2018 = record {
  lawful = (refl, (refl, (refl, (refl, (refl, tt)))));
  first = refl;
  second = refl;
  public_sheet = refl;
  full_sheet = refl;
  one_line = refl;
  waits = refl;
  falls_due = refl;
  then_seen = refl;
}

pub returns : goal.returns
returns c = subst (λ (m : Meaning). WorkedExample m) in_may in_may_2018
