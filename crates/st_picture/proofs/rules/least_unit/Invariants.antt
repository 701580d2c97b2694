use Rattle.std.proofs.Common.{◌≡◌, None, drop}
use Rattle.st_picture.specs.ReadingMachine.{least_of}
use Rattle.st_picture.proofs.rules.least_unit.Given as goal

abbrev pub invariant-loop-piece : goal.invariant-loop-piece
invariant-loop-piece l = least_of l.unit (drop l.piece-index l.pieces) ≡ least_of None l.pieces
