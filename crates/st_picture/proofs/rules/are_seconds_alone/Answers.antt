use Rattle.std.proofs.Common.{◌∙◌, sym}
use Rattle.st_picture.proofs.AloneLaws.{tells_alone}
use Rattle.st_picture.proofs.rules.are_seconds_alone.Goals as goal

pub returns : goal.returns
returns c =
    let t = tells_alone c.args.pieces.now in
    let e = c.test_alone.ensures in
    (λ h. t.is (sym e ∙ h), λ h. e ∙ t.only h)
