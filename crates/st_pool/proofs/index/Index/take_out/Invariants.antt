use Rattle.std.proofs.Common.{◌≡◌, ◌++◌, map, take, drop}
use Rattle.st_pool.proofs.IndexLaws.{left, rows}
use Rattle.st_pool.proofs.index.Index.take_out.Given as goal

abbrev pub invariant-loop-i : goal.invariant-loop-i
invariant-loop-i l = rows l.self.lists.entries ≡ map (left l.kernel) (take l.i (rows l.fn.self.lists.entries)) ++ drop l.i (rows l.fn.self.lists.entries)
