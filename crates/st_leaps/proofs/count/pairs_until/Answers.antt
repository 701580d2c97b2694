use Rattle.std.proofs.Common.{int_le, rules}
use Rattle.std.proofs.lemmas.List.Sorted.{IsPartitionPoint-from_clause}
use Rattle.st_leaps.proofs.CountLaws.{parted}
use Rattle.st_leaps.proofs.count.pairs_until.Goals as goal

pub returns-clause-point : goal.returns-clause-point
returns-clause-point c =
    IsPartitionPoint-from_clause (λ p. int_le p.day c.args.day) c.args.pairs.now c.partition_point.result c.partition_point.ensures.partitioned
    (parted c.args.pairs.now c.args.day c.requires) (λ a r q k. search rules)
