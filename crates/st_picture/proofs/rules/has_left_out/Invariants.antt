use Rattle.std.proofs.Common.{◌≡◌, drop}
use Rattle.st_picture.specs.Mark.{spelled}
use Rattle.st_picture.specs.ReadingMachine.{has_left_out}
use Rattle.st_picture.proofs.rules.has_left_out.Given as goal

abbrev pub invariant-loop-piece : goal.invariant-loop-piece
invariant-loop-piece l =
    (l.rest ≡ spelled (drop l.piece-index l.pieces))
    × (has_left_out (drop l.piece-index l.pieces) ≡ has_left_out l.pieces)
