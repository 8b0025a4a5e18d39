use Rattle.std.proofs.Common.{arith}
use Rattle.register.specs.Kept.{kept, Stands}
use Rattle.register.proofs.Calls.{front, entered}
use Rattle.register.proofs.Rises.{rising_with}
use Rattle.register.proofs.Register.put.Goals as goal

pub returns-clause-put : goal.returns-clause-put
unfolding kept Stands
returns-clause-put g c s = record {
  value = grind arith;
  keys = grind (arith, front, entered);
  stands = (grind (arith, front, entered), grind (arith, front, entered, rising_with));
}
