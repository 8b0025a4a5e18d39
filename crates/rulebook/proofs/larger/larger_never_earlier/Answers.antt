use Rattle.rulebook.proofs.NeverEarlier.{larger_everywhere}
use Rattle.rulebook.proofs.larger.larger_never_earlier.Goals as goal

pub returns : goal.returns
returns c = larger_everywhere
