use Rattle.std.proofs.Common.{◌^◌, ◌<◌, ℤ, pos, ◌-ℤ◌, ◌*ℤ◌, ap, arith, rules}
use Rattle.std.specs.Int.{w128}
use Rattle.std.specs.Int.RustNames.{FitsSigned}
use Rattle.std.proofs.lemmas.Int.{ints, to_z-of_z, fits_signed_from_abs}
use Rattle.st_sine.proofs.Doubled.{power_at_most}
use Rattle.st_sine.proofs.Reduced.{IsReduced, is_reduced}
use Rattle.st_sine.proofs.angle.reduced.Goals as goal

reduced : (c : goal.After-div_euclid-start) → IsReduced c.args.low c.args.high c.div_euclid-start.result (2 ^ c.args.halvings)
reduced c =
    let l = c.ranges.low in
    let s : FitsSigned w128 c.power_of_two-scale.result = search rules in
    let v = c.power_of_two-scale.ensures.value in
    let q = rw v at (simp to_z-of_z at c.div_euclid-start.ensures) in
    let some : 0 < 2 ^ c.args.halvings = omega (arith, ints, c.power_of_two-scale.ensures.low, v) in
    rw q (is_reduced c.args.low c.args.high (2 ^ c.args.halvings) some c.requires.order c.requires.ends c.requires.narrow)

product_fits : (c : goal.After-div_euclid-start) → FitsSigned w128 (c.div_euclid-start.result *ℤ c.power_of_two-scale.result)
product_fits c =
    let r = reduced c in
    let p = power_at_most c.args.halvings c.requires.halvings in
    rw c.power_of_two-scale.ensures.value (fits_signed_from_abs w128 (c.div_euclid-start.result *ℤ pos (2 ^ c.args.halvings)) (omega (arith, r.size)))

distance_fits : (c : goal.After-div_euclid-start) → FitsSigned w128 (c.args.high -ℤ c.div_euclid-start.result *ℤ c.power_of_two-scale.result)
distance_fits c =
    let r = reduced c in
    let p = power_at_most c.args.halvings c.requires.halvings in
    rw c.power_of_two-scale.ensures.value (omega (arith, ints, r.low, r.high))

pub overflow_mul-result : goal.overflow_mul-result
overflow_mul-result c =
    let q : FitsSigned w128 c.div_euclid-start.result = search rules in
    let s : FitsSigned w128 c.power_of_two-scale.result = search rules in
    simp to_z-of_z (product_fits c)

pub overflow_sub-result : goal.overflow_sub-result
overflow_sub-result c =
    let h = c.ranges.high in
    let q : FitsSigned w128 c.div_euclid-start.result = search rules in
    let s : FitsSigned w128 c.power_of_two-scale.result = search rules in
    let v = c.power_of_two-scale.ensures.value in
    let r = reduced c in
    let p = product_fits c in
    simp to_z-of_z (distance_fits c)

pub returns-clause-start : goal.returns-clause-start
returns-clause-start c =
    let q : FitsSigned w128 c.div_euclid-start.result = search rules in
    simp to_z-of_z (reduced c).start

pub returns-clause-below : goal.returns-clause-below
returns-clause-below c =
    let q : FitsSigned w128 c.div_euclid-start.result = search rules in
    simp to_z-of_z (reduced c).below

pub returns-clause-distance : goal.returns-clause-distance
returns-clause-distance c =
    let h = c.ranges.high in
    let q : FitsSigned w128 c.div_euclid-start.result = search rules in
    let s : FitsSigned w128 c.power_of_two-scale.result = search rules in
    let v = c.power_of_two-scale.ensures.value in
    let r = reduced c in
    let p = product_fits c in
    let d = distance_fits c in
    simp to_z-of_z (ap (λ (z : ℤ). c.args.high -ℤ c.div_euclid-start.result *ℤ z) v)

pub returns-clause-at_least : goal.returns-clause-at_least
returns-clause-at_least c =
    let h = c.ranges.high in
    let q : FitsSigned w128 c.div_euclid-start.result = search rules in
    let s : FitsSigned w128 c.power_of_two-scale.result = search rules in
    let v = c.power_of_two-scale.ensures.value in
    let r = reduced c in
    let p = product_fits c in
    let d = distance_fits c in
    simp to_z-of_z (rw v r.low)

pub returns-clause-at_most : goal.returns-clause-at_most
returns-clause-at_most c =
    let h = c.ranges.high in
    let q : FitsSigned w128 c.div_euclid-start.result = search rules in
    let s : FitsSigned w128 c.power_of_two-scale.result = search rules in
    let v = c.power_of_two-scale.ensures.value in
    let r = reduced c in
    let p = product_fits c in
    let d = distance_fits c in
    let t = power_at_most c.args.halvings c.requires.halvings in
    simp to_z-of_z (rw v (omega (arith, ints, r.high)))
