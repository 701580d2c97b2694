use Rattle.std.proofs.Common.{◌≡◌, None, drop}
use Rattle.st_picture.specs.ReadingMachine.{has_unlike}
use Rattle.st_picture.proofs.rules.has_unlike.Given as goal

abbrev pub invariant-loop-piece : goal.invariant-loop-piece
invariant-loop-piece l = has_unlike l.seen (drop l.piece-index l.pieces) ≡ has_unlike None l.pieces
