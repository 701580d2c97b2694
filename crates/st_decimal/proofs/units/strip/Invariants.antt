use Rattle.std.proofs.Common.{◌≡◌, ◌-◌, ◌≤◌}
use Rattle.st_decimal.specs.ScalingMachine.{strip_of}
use Rattle.st_decimal.proofs.units.strip.Given as goal

abbrev pub invariant-loop-zeros : goal.invariant-loop-zeros
invariant-loop-zeros l = (strip_of (38 - l.zeros) l.rest l.zeros ≡ strip_of 38 l.number 0) × (l.zeros ≤ 38) × (l.rest ≤ l.number)

abbrev pub decreases-loop-zeros : goal.decreases-loop-zeros
decreases-loop-zeros l = 38 - l.zeros
