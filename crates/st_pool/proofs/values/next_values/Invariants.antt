use Rattle.std.proofs.Common.{◌≡◌, drop}
use Rattle.st_pool.specs.PoolMachine.{values_in}
use Rattle.st_pool.proofs.values.next_values.Given as goal

abbrev pub invariant-loop-i : goal.invariant-loop-i
invariant-loop-i l = values_in l.kernels (drop l.i l.places) ≡ values_in l.kernels l.places
