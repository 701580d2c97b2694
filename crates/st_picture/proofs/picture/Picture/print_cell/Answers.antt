use Rattle.std.proofs.Common.{◌≡◌}
use Rattle.st_picture.proofs.TextLaws.{only_text}
use Rattle.st_picture.proofs.picture.Picture.print_cell.Goals as goal

pub returns-clause-only : goal.returns-clause-only
returns-clause-only c =
    let pieces : c.args.self.now.pieces ≡ c.self.inside.pieces.items = cc in
    let unit : c.args.self.now.unit ≡ c.self.inside.unit = cc in
    only_text c.args.self.now.pieces c.self.inside.pieces.items c.as_slice.result.now c.args.self.now.unit c.self.inside.unit c.args.cell c.text_of.result
    pieces c.as_slice.ensures.value unit c.self.invariant.least c.self.invariant.alone c.text_of.ensures
