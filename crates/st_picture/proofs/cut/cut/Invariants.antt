use Rattle.std.proofs.Common.{length}
use Rattle.st_picture.proofs.CutLoop.{IsCutSoFar}
use Rattle.st_picture.proofs.cut.cut.Given as goal

abbrev pub invariant-loop-rest : goal.invariant-loop-rest
invariant-loop-rest l = IsCutSoFar l.text l.pieces.items l.rest

abbrev pub decreases-loop-rest : goal.decreases-loop-rest
decreases-loop-rest l = length l.rest
