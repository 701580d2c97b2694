use Rattle.std.proofs.Common.{◌*◌, ◌^◌, ◌≤◌, ◌*ℤ◌, unsigned_abs, mul-le-mul, arith, lit<}
use Rattle.std.specs.Int.{w128}
use Rattle.std.proofs.lemmas.Int.{ints, to_z-of_z, fits_signed_mul, unsigned_abs-mul}
use Rattle.st_enclosure.proofs.rounding.product.Goals as goal

pub returns-clause-value : goal.returns-clause-value
returns-clause-value c =
    let x = c.ranges.x in
    let y = c.ranges.y in
    let f = fits_signed_mul w128 c.args.x c.args.y (4 * 10 ^ 18) (4 * 10 ^ 18) c.requires.x_small c.requires.y_small (lit< tt) in
    simp to_z-of_z

pub returns-clause-low : goal.returns-clause-low
returns-clause-low c =
    let x = c.ranges.x in
    let y = c.ranges.y in
    let f = fits_signed_mul w128 c.args.x c.args.y (4 * 10 ^ 18) (4 * 10 ^ 18) c.requires.x_small c.requires.y_small (lit< tt) in
    let m : unsigned_abs (c.args.x *ℤ c.args.y) ≤ 16 * 10 ^ 36 = omega (arith, unsigned_abs-mul c.args.x c.args.y, mul-le-mul c.requires.x_small c.requires.y_small) in
    simp to_z-of_z (omega (arith, ints))

pub returns-clause-high : goal.returns-clause-high
returns-clause-high c =
    let x = c.ranges.x in
    let y = c.ranges.y in
    let f = fits_signed_mul w128 c.args.x c.args.y (4 * 10 ^ 18) (4 * 10 ^ 18) c.requires.x_small c.requires.y_small (lit< tt) in
    let m : unsigned_abs (c.args.x *ℤ c.args.y) ≤ 16 * 10 ^ 36 = omega (arith, unsigned_abs-mul c.args.x c.args.y, mul-le-mul c.requires.x_small c.requires.y_small) in
    simp to_z-of_z (omega (arith, ints))
