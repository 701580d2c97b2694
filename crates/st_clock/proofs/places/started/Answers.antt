use Rattle.std.proofs.Common.{rules, nat_le}
use Rattle.std.proofs.lemmas.List.Sorted.{IsPartitionPoint-from_clause}
use Rattle.st_clock.proofs.Points.{ticks_parted, tick_before, tick_after}
use Rattle.st_clock.proofs.places.started.Goals as goal

pub returns-clause-before : goal.returns-clause-before
returns-clause-before c =
    let point = IsPartitionPoint-from_clause (λ r. nat_le r.ticks c.args.ticks) _ _ c.partition_point.ensures.partitioned (ticks_parted _ _ c.requires)
    (λ a r q k. search rules) in
    λ i r l g. tick_before c.args.records.now c.args.ticks c.partition_point.result i r point l g

pub returns-clause-after : goal.returns-clause-after
returns-clause-after c =
    let point = IsPartitionPoint-from_clause (λ r. nat_le r.ticks c.args.ticks) _ _ c.partition_point.ensures.partitioned (ticks_parted _ _ c.requires)
    (λ a r q k. search rules) in
    λ i r l g. tick_after c.args.records.now c.args.ticks c.partition_point.result i r point l g
