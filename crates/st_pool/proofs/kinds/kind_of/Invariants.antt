use Rattle.std.proofs.Common.{◌≡◌, false, drop}
use Rattle.st_pool.specs.IndexMachine.{assignments_at}
use Rattle.st_pool.specs.PoolMachine.{kinds_in}
use Rattle.st_pool.proofs.kinds.kind_of.Given as goal

abbrev pub invariant-loop-place : goal.invariant-loop-place
invariant-loop-place l = kinds_in l.kinds (assignments_at l.kernels (drop l.place-index l.places))
    ≡ kinds_in (record { present = false; numbers = false; texts = false }) (assignments_at l.kernels l.places)
