use Rattle.std.proofs.Common.{◌≡◌, ◌<◌, ℕ, take, sum_by, length, get_or}
use Rattle.st_ticks.specs.Face.{ticks_in}
use Rattle.st_ticks.proofs.make.begins_of.Given as goal

abbrev pub invariant-loop-partition : goal.invariant-loop-partition
invariant-loop-partition l = record {
  before : l.before ≡ sum_by ticks_in (take l.partition-index l.partitions);
  many : length l.begins.items ≡ l.partition-index;
  sums : (place : ℕ) → place < l.partition-index → get_or l.begins.items place 0 ≡ sum_by ticks_in (take place l.partitions);
}
