use Rattle.std.proofs.Common.{rules, int_le}
use Rattle.std.proofs.lemmas.List.Sorted.{IsPartitionPoint-from_clause}
use Rattle.st_clock.proofs.Points.{times_parted, time_before, time_after}
use Rattle.st_clock.proofs.places.begun.Goals as goal

pub returns-clause-before : goal.returns-clause-before
returns-clause-before c =
    let point = IsPartitionPoint-from_clause (λ r. int_le r.time c.args.time) _ _ c.partition_point.ensures.partitioned (times_parted _ _ c.requires)
    (λ a r q k. search rules) in
    λ i r l g. time_before c.args.records.now c.args.time c.partition_point.result i r point l g

pub returns-clause-after : goal.returns-clause-after
returns-clause-after c =
    let point = IsPartitionPoint-from_clause (λ r. int_le r.time c.args.time) _ _ c.partition_point.ensures.partitioned (times_parted _ _ c.requires)
    (λ a r q k. search rules) in
    λ i r l g. time_after c.args.records.now c.args.time c.partition_point.result i r point l g
