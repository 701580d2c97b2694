use Rattle.std.proofs.Common.{◌≡◌, ◌∙◌, ap, ◌++◌, List, ℕ, drop, length, sym, arith, length-append}
use Rattle.st_picture.specs.Mark.{piece_text}
use Rattle.st_picture.proofs.Cuts.{piece_some}
use Rattle.st_picture.proofs.CutLoop.{fits, behind}
use Rattle.st_picture.proofs.cut.first_piece.Goals as goal

pub split_at-requires : goal.split_at-requires
split_at-requires c = fits c.args.text.now c.front-piece.result c.piece_len.result c.requires.some c.front-piece.ensures c.piece_len.ensures

pub returns : goal.returns
returns c =
    let piece = c.front-piece.result in
    let text = c.args.text.now in
    let whole = behind text piece c.requires.some c.front-piece.ensures in
    let after : drop (length (piece_text piece)) text ≡ c.split_at.result.1.now = ap (λ (n : ℕ). drop n text) (sym c.piece_len.ensures) ∙ sym c.split_at.ensures.back in
    let rest : text ≡ piece_text piece ++ c.split_at.result.1.now = whole ∙ ap (λ (t : List ℕ). piece_text piece ++ t) after in
    let sizes = ap length rest ∙ length-append (piece_text piece) c.split_at.result.1.now in
    let some = piece_some piece in
    record { piece = c.front-piece.ensures; rest = rest; less = omega (arith, sizes, some) }
