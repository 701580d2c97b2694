use Rattle.std.proofs.Common.{◌≡◌, ◌++◌, map, take, drop}
use Rattle.st_pool.specs.IndexMachine.{lowered}
use Rattle.st_pool.proofs.index.lower_behind.Given as goal

abbrev pub invariant-loop-place : goal.invariant-loop-place
invariant-loop-place l = l.places ≡ map (lowered l.kernel) (take l.place-index l.fn.places) ++ drop l.place-index l.fn.places
