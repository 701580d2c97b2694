use Rattle.std.proofs.Common.{◌≡◌, None, drop}
use Rattle.st_pool.specs.PoolMachine as machine
use Rattle.st_pool.proofs.last.last_place.Given as goal

abbrev pub invariant-loop-i : goal.invariant-loop-i
invariant-loop-i l = machine.last_place l.name l.i l.found (drop l.i l.kernels) ≡ machine.last_place l.name 0 None l.kernels
