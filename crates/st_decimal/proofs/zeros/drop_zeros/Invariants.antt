use Rattle.std.proofs.Common.{◌≡◌, length}
use Rattle.st_decimal.specs.Value.{skip_zeros}
use Rattle.st_decimal.proofs.zeros.drop_zeros.Given as goal

abbrev pub invariant-loop-rest : goal.invariant-loop-rest
invariant-loop-rest l = skip_zeros l.rest ≡ skip_zeros l.digits

abbrev pub decreases-loop-rest : goal.decreases-loop-rest
decreases-loop-rest l = length l.rest
