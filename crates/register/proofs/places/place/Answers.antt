use Rattle.std.proofs.Common.{rules}
use Rattle.std.proofs.lemmas.List.Sorted.{IsPartitionPoint-from_clause}
use Rattle.register.proofs.Cuts.{cut_at, partitioned}
use Rattle.register.proofs.places.place.Goals as goal

pub returns-clause-cut : goal.returns-clause-cut
returns-clause-cut g c u =
    cut_at g.K.Key.below c.args.key c.args.keys.now c.partition_point.result
    (IsPartitionPoint-from_clause (λ x. g.K.Key.below x c.args.key) _ _ c.partition_point.ensures.partitioned (partitioned g.K.Key.below c.args.key c.args.keys.now g.met.K.Key.ordered u) (λ a r f k. search rules))
