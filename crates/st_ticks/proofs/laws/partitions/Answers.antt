use Rattle.st_ticks.proofs.PartitionLaws.{partition_is_one, partition_is_found, inside_is_within}
use Rattle.st_ticks.proofs.laws.partitions.Goals as goal

pub returns : goal.returns
returns c = record { one = partition_is_one; found = partition_is_found; inside = inside_is_within }
