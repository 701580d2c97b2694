use Rattle.std.proofs.Common.{◌≡◌, ◌++◌, ℕ, List, take}
use Rattle.st_pool.specs.IndexMachine.{kept_places}
use Rattle.st_pool.specs.Places.{places_in}
use Rattle.st_pool.proofs.index.Index.add.Given as goal

abbrev pub invariant-loop-i : goal.invariant-loop-i
invariant-loop-i l = (name : List ℕ) → kept_places name l.self.lists ≡ kept_places name l.fn.self.lists ++ places_in name l.kernel (take l.i l.assignments)
