use Rattle.std.proofs.Common.{◌≡◌, ℕ, refl, ap, subst, arith}
use Rattle.calendar.specs.Meaning.{Meaning}
use Rattle.deferral.specs.Examples.{on_8_may}
use Rattle.identifier.specs.Counterparty.{is_right}
use Rattle.identifier.specs.Isin.{is_isin}
use Rattle.report.specs.declared.report.Report.{Report}
use Rattle.rulebook.specs.Desk.{new_desk}
use Rattle.rulebook.specs.Example.{book}
use Rattle.rulebook.specs.Pair.{Hides, DifferingPair, one_entry, other_entry, one_amendment, other_amendment, full_volume, one_history, other_history}
use Rattle.rulebook.specs.Trace.{Alike}
use Rattle.rulebook.specs.Trace.Alike.{done, same, entries, amendments}
use Rattle.rulebook.proofs.WrittenDays.{by_rule_in_may, in_may}
use Rattle.rulebook.proofs.pair.differing_pair.Goals as goal

one_hides : Hides (book by_rule_in_may) one_entry one_amendment (on_8_may 10 0 0) (on_8_may 10 0 0)
unfolding is_isin is_right
one_hides = record {
  lawful = (refl, (refl, (refl, (refl, (refl, (refl, (refl, (refl, (refl, (refl, tt))))))))));
  second = refl;
  fourth = refl;
  states = refl;
  lines = refl;
}

other_hides : Hides (book by_rule_in_may) other_entry other_amendment (on_8_may 16 15 0) (on_8_may 11 0 0)
unfolding is_isin is_right
other_hides = record {
  lawful = (refl, (refl, (refl, (refl, (refl, (refl, (refl, (refl, (refl, (refl, tt))))))))));
  second = refl;
  fourth = refl;
  states = refl;
  lines = refl;
}

side_by_side : Alike (book by_rule_in_may) new_desk new_desk one_history other_history
side_by_side =
    same (same (same (same (entries (refl, (refl, (refl, (refl, (refl, refl))))) (refl, (refl, (refl, (refl, (refl, refl)))))
    (same (amendments (refl, (refl, (refl, refl))) (refl, (refl, (refl, refl))) (same (same (same done)))))))))

in_may_2018 : DifferingPair by_rule_in_may
in_may_2018 = record {
  one = one_hides;
  other = other_hides;
  alike = side_by_side;
  entries = λ e. let z : ◌≡◌ {A = ℕ} 2000 4500 = ap (λ (r : Report). r.quantity) e in omega arith;
  amendments = λ e. let z : ◌≡◌ {A = ℕ} 2100 3000 = ap (λ (r : Report). r.quantity) e in omega arith;
  histories = λ e. let z : ◌≡◌ {A = ℕ} 4100 5000 = ap (full_volume (book by_rule_in_may)) e in omega arith;
  full_sheets = λ e. let z : ◌≡◌ {A = ℕ} 4100 5000 = e in omega arith;
}

pub returns : goal.returns
returns c = subst (λ (m : Meaning). DifferingPair m) in_may in_may_2018
