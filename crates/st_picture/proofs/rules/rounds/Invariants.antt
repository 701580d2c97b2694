use Rattle.std.proofs.Common.{◌≡◌, false, drop}
use Rattle.st_picture.specs.ReadingMachine.{rounds_of}
use Rattle.st_picture.proofs.rules.rounds.Given as goal

abbrev pub invariant-loop-piece : goal.invariant-loop-piece
invariant-loop-piece l = rounds_of l.rounds (drop l.piece-index l.pieces) ≡ rounds_of false l.pieces
