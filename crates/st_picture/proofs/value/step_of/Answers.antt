use Rattle.std.proofs.Common.{◌≡◌, ◌-◌, ◌^◌, arith}
use Rattle.std.proofs.lemmas.Int.{ints}
use Rattle.st_picture.proofs.CellLaws.{tens_some}
use Rattle.st_picture.proofs.ValueLaws.{tens_range}
use Rattle.st_picture.proofs.value.step_of.Goals as goal

pub returns-clause-from : goal.returns-clause-from
returns-clause-from c =
    let e : c.pow.result ≡ 10 ^ (18 - c.args.places) = c.pow.ensures in
    let some = tens_some (18 - c.args.places) in
    let most = tens_range (18 - c.args.places) (omega arith) in
    omega (arith, ints, e, some, most)

pub returns-clause-to : goal.returns-clause-to
returns-clause-to c =
    let e : c.pow.result ≡ 10 ^ (18 - c.args.places) = c.pow.ensures in
    let most = tens_range (18 - c.args.places) (omega arith) in
    omega (arith, ints, e, most)
