use Rattle.std.proofs.Common.{◌≡◌, length}
use Rattle.st_decimal.specs.Value.{without_end_zeros}
use Rattle.st_decimal.proofs.zeros.trim_zeros.Given as goal

abbrev pub invariant-loop-rest : goal.invariant-loop-rest
invariant-loop-rest l = without_end_zeros l.rest ≡ without_end_zeros l.digits

abbrev pub decreases-loop-rest : goal.decreases-loop-rest
decreases-loop-rest l = length l.rest
