use Rattle.std.proofs.Common.{◌^◌, ◌*ℤ◌, ◌+ℤ◌, arith, lit<, rules}
use Rattle.std.specs.Int.{w128, int_div_euclid, int_rem_euclid}
use Rattle.std.specs.Int.RustNames.{FitsSigned}
use Rattle.std.proofs.lemmas.Int.{ints, to_z-of_z, fits_signed_mul, fits_signed_from_abs}
use Rattle.st_enclosure.proofs.Quotient.{IsTwoSteps, is_two_steps}
use Rattle.st_enclosure.proofs.rounding.floor_scaled.Goals as goal

pub overflow_mul-result : goal.overflow_mul-result
overflow_mul-result c =
    let e = c.ranges.e in
    let y = c.ranges.num in
    let d = c.ranges.den in
    let s = is_two_steps c.args.e c.args.num c.args.den (10 ^ 18) (10 ^ 37) c.requires.den_low c.requires.den_high c.requires.num_small c.requires.fits in
    let q = simp to_z-of_z at c.div_euclid-whole.ensures in
    let qf : FitsSigned w128 c.div_euclid-whole.result = search rules in
    simp to_z-of_z (rw q (fits_signed_from_abs w128 (int_div_euclid c.args.e c.args.den *ℤ c.args.num) (omega (arith, s.first))))

pub overflow_mul-rest : goal.overflow_mul-rest
overflow_mul-rest c =
    let e = c.ranges.e in
    let y = c.ranges.num in
    let d = c.ranges.den in
    let s = is_two_steps c.args.e c.args.num c.args.den (10 ^ 18) (10 ^ 37) c.requires.den_low c.requires.den_high c.requires.num_small c.requires.fits in
    let r = simp to_z-of_z at c.rem_euclid-rest.ensures.value in
    let rf : FitsSigned w128 c.rem_euclid-rest.result = search rules in
    simp to_z-of_z (rw r (fits_signed_mul w128 (int_rem_euclid c.args.e c.args.den) c.args.num (10 ^ 18) (10 ^ 18) s.second c.requires.num_small (lit< tt)))

two_steps_of : (c : goal.After-div_euclid) → IsTwoSteps c.args.e c.div_euclid-whole.result c.rem_euclid-rest.result c.args.num c.div_euclid.result c.args.den (10 ^ 18) (10 ^ 37)
two_steps_of c =
    let e = c.ranges.e in
    let y = c.ranges.num in
    let d = c.ranges.den in
    let s = is_two_steps c.args.e c.args.num c.args.den (10 ^ 18) (10 ^ 37) c.requires.den_low c.requires.den_high c.requires.num_small c.requires.fits in
    let q = simp to_z-of_z at c.div_euclid-whole.ensures in
    let r = simp to_z-of_z at c.rem_euclid-rest.ensures.value in
    let rf : FitsSigned w128 c.rem_euclid-rest.result = search rules in
    let pf : FitsSigned w128 (c.rem_euclid-rest.result *ℤ c.args.num) = rw r (fits_signed_mul w128 (int_rem_euclid c.args.e c.args.den) c.args.num (10 ^ 18) (10 ^ 18) s.second c.requires.num_small (lit< tt)) in
    let f = simp to_z-of_z at c.div_euclid.ensures in
    rw (f, q, r) s

-- what the returned value is, with no cast
record IsPlain (c : goal.After-div_euclid) : Type 0 where
  first : FitsSigned w128 (c.div_euclid-whole.result *ℤ c.args.num)
  sum : FitsSigned w128 (c.div_euclid-whole.result *ℤ c.args.num +ℤ c.div_euclid.result)

is_plain : (c : goal.After-div_euclid) → IsPlain c
is_plain c =
    let s = two_steps_of c in
    let first = fits_signed_from_abs w128 (c.div_euclid-whole.result *ℤ c.args.num) (omega (arith, s.first)) in
    record { first = first; sum = fits_signed_from_abs w128 (c.div_euclid-whole.result *ℤ c.args.num +ℤ c.div_euclid.result) (omega (arith, ints, s.first, s.third)) }

pub overflow_add-result : goal.overflow_add-result
overflow_add-result c =
    let y = c.ranges.num in
    let q : FitsSigned w128 c.div_euclid-whole.result = search rules in
    let f : FitsSigned w128 c.div_euclid.result = search rules in
    let p = (is_plain c).first in
    simp to_z-of_z ((is_plain c).sum)

pub returns-clause-below : goal.returns-clause-below
returns-clause-below c =
    let y = c.ranges.num in
    let q : FitsSigned w128 c.div_euclid-whole.result = search rules in
    let f : FitsSigned w128 c.div_euclid.result = search rules in
    let p = (is_plain c).first in
    let s = (is_plain c).sum in
    simp to_z-of_z ((two_steps_of c).below)

pub returns-clause-above : goal.returns-clause-above
returns-clause-above c =
    let y = c.ranges.num in
    let q : FitsSigned w128 c.div_euclid-whole.result = search rules in
    let f : FitsSigned w128 c.div_euclid.result = search rules in
    let p = (is_plain c).first in
    let s = (is_plain c).sum in
    simp to_z-of_z ((two_steps_of c).above)

pub returns-clause-small : goal.returns-clause-small
returns-clause-small c =
    let y = c.ranges.num in
    let q : FitsSigned w128 c.div_euclid-whole.result = search rules in
    let f : FitsSigned w128 c.div_euclid.result = search rules in
    let p = (is_plain c).first in
    let s = (is_plain c).sum in
    let t = two_steps_of c in
    simp to_z-of_z (omega (arith, ints, t.first, t.third))
