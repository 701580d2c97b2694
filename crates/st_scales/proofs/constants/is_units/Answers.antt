use Rattle.std.proofs.Common.{◌≡◌, ℤ, pos, ◌+ℤ◌, refl, arith, rules}
use Rattle.std.specs.Int.{w32, w128}
use Rattle.std.specs.Int.RustNames.{FitsSigned}
use Rattle.std.proofs.lemmas.Int.{ints, to_z-of_z}
use Rattle.st_scales.proofs.Numbers.{units_large, counted}
use Rattle.st_scales.proofs.constants.is_units.Goals as goal

pub returns-then-number-geminus18 : goal.returns-then-number-geminus18
returns-then-number-geminus18 c =
    let n = c.args.number in
    let t : FitsSigned w32 n.tens = search rules in
    let i = simp to_z-of_z at c.if-number-geminus18.true in
    (λ h. units_large n.digits (n.tens +ℤ pos 18) (omega (arith, ints, i)), λ h. refl)

pub returns : goal.returns
returns c =
    let n = c.args.number in
    let t : FitsSigned w32 n.tens = search rules in
    let d : FitsSigned w128 n.digits = search rules in
    let i = simp to_z-of_z at c.if-number-geminus18.false in
    rw c.is_some.ensures (counted n c.units18.result (omega (arith, ints, d)) (omega (arith, ints, i)) c.units18.ensures.some c.units18.ensures.none)
