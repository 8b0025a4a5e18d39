-- The laws that callers may use hold for every total order.
use Rattle.std.proofs.Common.{Bool, arith}
use Rattle.std.proofs.lemmas.List.{length-take}
use Rattle.register.specs.Kept.{kept, Stands}
use Rattle.register.specs.Order.{Total}
use Rattle.register.specs.Laws.{Laws}
use Rattle.register.proofs.Totals.{same_self, same_is}
use Rattle.register.proofs.Ends.{one_least, one_greatest}
use Rattle.register.proofs.Members.{has_with, has_without, has_from, has_before}
use Rattle.register.proofs.Rises.{determined, length_with, length_without, length_parts}

pub laws : {K : Type 0} (lt : K → K → Bool) → Total lt → Laws lt
unfolding kept Stands
laws lt o = record {
  rise = λ register memory s. s.1;
  fit = λ register memory s. omega (arith, length-take register.count memory);
  same_is = same_is lt o;
  same_self = same_self lt o;
  determined = determined lt o;
  has_with = has_with lt o;
  has_without = has_without lt o;
  has_from = has_from lt o;
  has_before = has_before lt o;
  length_with = length_with lt o;
  length_without = length_without lt o;
  length_parts = length_parts lt;
  one_least = one_least lt o;
  one_greatest = one_greatest lt o;
}
