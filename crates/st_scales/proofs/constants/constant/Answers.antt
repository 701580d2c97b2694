use Rattle.std.proofs.Common.{◌≡◌, ℤ, pos, get_or, refl, arith}
use Rattle.std.specs.Int.{w128}
use Rattle.std.specs.Int.RustNames.{FitsSigned}
use Rattle.std.proofs.lemmas.Int.{ints, to_z-of_z}
use Rattle.st_decimal.specs.declared.number.Dec.{Dec}
use Rattle.st_scales.proofs.Numbers.{one_is, range_broken, nothing}
use Rattle.st_scales.proofs.constants.constant.Goals as goal

pub returns-in-Some-clause-ok : goal.returns-in-Some-clause-ok
returns-in-Some-clause-ok c =
    let l = c.ranges.low in
    let h = c.ranges.high in
    let s = simp to_z-of_z at c.in-Some.ensures.some in
    let n = c.args.numbers.now in
    let u : FitsSigned w128 c.in-Some.units = omega (arith, ints, s.1, s.2, c.requires.low, c.requires.high) in
    simp to_z-of_z ((get_or n 0 nothing, one_is n nothing c.if-numbers-ne1.false, s.0), s.1, s.2)

pub returns-in-None-clause-err : goal.returns-in-None-clause-err
returns-in-None-clause-err c =
    let l = c.ranges.low in
    let h = c.ranges.high in
    let n = c.args.numbers.now in
    let none = simp to_z-of_z at c.in-None.ensures.none in
    range_broken c.args.low c.args.high c.args.variable n (get_or n 0 nothing) (one_is n nothing c.if-numbers-ne1.false) (c.if-not-is_units.ensures.0 refl) (none refl)
