use Rattle.std.proofs.Common.{◌≡◌, ◌++◌, ◌∷◌, [], refl, arith}
use Rattle.st_ticks.specs.declared.field.Partition.{Partition}
use Rattle.st_ticks.proofs.MakingLaws.{lacks, ends_more}
use Rattle.st_ticks.proofs.make.partitions_of.Goals as goal

pub returns-in_default-clause-bad : goal.returns-in_default-clause-bad
returns-in_default-clause-bad c =
    (refl, lacks c.args.starts.now c.args.ends.now c.loop-i.i c.number-start.result (omega arith) c.number-start.ensures.value c.in_default.ensures.none)

pub loop-i-preserved : goal.loop-i-preserved
loop-i-preserved c =
    let p : Partition = record { start = c.number-start.result; end = c.in-Some.end } in
    let pushed : c.append.new.partitions.items ≡ c.loop-i.partitions.items ++ p ∷ [] = c.in_ok-append.ensures in
    ends_more c.args.starts.now c.args.ends.now c.loop-i.partitions.items c.append.new.partitions.items c.loop-i.i p (omega arith) (omega arith) c.loop-i.invariant pushed
    c.number-start.ensures.value c.in-Some.ensures.some c.in-Some.ensures.from c.in-Some.ensures.to
