use Rattle.std.proofs.Common.{◌∙◌, sym}
use Rattle.st_picture.proofs.CutLoop.{cut_step, cut_ends, no_rest}
use Rattle.st_picture.proofs.cut.cut.Goals as goal

pub loop-rest-preserved : goal.loop-rest-preserved
loop-rest-preserved c =
    cut_step c.args.text.now c.loop-rest.pieces.items c.append.new.pieces.items c.loop-rest.rest.now c.first_piece-piece.result.1.now c.first_piece-piece.result.0
    c.first_piece-piece.ensures.piece c.first_piece-piece.ensures.rest c.in_ok-append.ensures c.loop-rest.invariant

pub returns : goal.returns
returns c =
    cut_ends c.args.text.now c.loop-rest.pieces.items c.loop-rest.rest.now
    (no_rest c.loop-rest.rest.now (sym c.is_empty.ensures ∙ c.loop-rest-test.false)) c.loop-rest.invariant
