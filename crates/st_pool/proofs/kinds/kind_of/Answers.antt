use Rattle.std.proofs.Common.{◌∙◌, arith}
use Rattle.st_pool.proofs.KindsLaws.{kinds-end}
use Rattle.st_pool.proofs.kinds.kind_of.Goals as goal

pub returns : goal.returns
returns c =
    c.kind_by.ensures
    ∙ kinds-end c.args.kernels.now c.args.places.now c.loop-place.place-index c.loop-place.kinds (omega (arith, c.loop-place-test.false)) c.loop-place.invariant
