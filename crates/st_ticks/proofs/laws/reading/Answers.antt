use Rattle.st_ticks.proofs.JudgeLaws.{reading_is_found}
use Rattle.st_ticks.proofs.ReadingLaws.{reading_is_one}
use Rattle.st_ticks.proofs.PartitionLaws.{tick_is_within}
use Rattle.st_ticks.proofs.laws.reading.Goals as goal

pub returns : goal.returns
returns c = record { one = reading_is_one; found = reading_is_found; within = tick_is_within }
