use Rattle.std.proofs.Common.{◌≡◌, ◌++◌, false, drop}
use Rattle.std.specs.List.{flat_map, list_any}
use Rattle.st_picture.specs.ReadingMachine.{has_many_places}
use Rattle.st_picture.specs.Text.{shown_text}
use Rattle.st_picture.proofs.print.put_pieces.Given as goal

abbrev pub invariant-loop-piece : goal.invariant-loop-piece
invariant-loop-piece l =
    (l.out.items ++ flat_map (shown_text l.shown) (drop l.piece-index l.pieces) ≡ l.fn.out.items ++ flat_map (shown_text l.shown) l.pieces)
    × (list_any has_many_places (drop l.piece-index l.pieces) ≡ false)
