use Rattle.std.proofs.Common.{◌≡◌, ◌+◌, length}
use Rattle.st_hostile.proofs.kernels.feed_bytes.Given as goal

abbrev pub invariant-loop-rest : goal.invariant-loop-rest
invariant-loop-rest l = l.reader.count + length l.rest ≡ l.fn.reader.count + length l.bytes

abbrev pub decreases-loop-rest : goal.decreases-loop-rest
decreases-loop-rest l = length l.rest
