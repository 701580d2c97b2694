use Rattle.std.proofs.Common.{◌≡◌, ◌^◌, ◌-◌, arith}
use Rattle.st_picture.proofs.CellLaws.{tens_some}
use Rattle.st_picture.proofs.print.put_seconds.Goals as goal

pub nonzero_div-second-2 : goal.nonzero_div-second-2
nonzero_div-second-2 c =
    let e : c.pow.result ≡ 10 ^ (18 - c.args.places) = c.pow.ensures in
    let some = tens_some (18 - c.args.places) in
    omega (arith, e, some)
