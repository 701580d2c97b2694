use Rattle.std.proofs.Common.{◌≡◌, ◌*◌, ◌^◌, ◌≤◌, unsigned_abs, arith, lit<}
use Rattle.std.specs.Int.{w128}
use Rattle.std.proofs.lemmas.Int.{ints, to_z-of_z, to_z_pos, fits_signed_mul}
use mir.Val.{to_z}
use Rattle.st_series.specs.Small.{rounded_square}
use Rattle.st_series.proofs.Rounded.{square_low, square_high}
use Rattle.st_series.proofs.Quotients.{square_floor}
use Rattle.st_series.proofs.small.square_of.Goals as goal

value : (c : goal.After-whole_units) → to_z w128 c.whole_units.result ≡ rounded_square c.args.x
value c =
    let x = c.ranges.x in
    let p = fits_signed_mul w128 c.args.x c.args.x (2 * 10 ^ 18) (2 * 10 ^ 18) c.requires c.requires (lit< tt) in
    let i = to_z_pos w128 c.whole_units.result (omega arith) in
    rw i (square_floor c.args.x c.whole_units.result (10 ^ 18) (simp to_z-of_z at c.whole_units.ensures.value))

pub returns-clause-value : goal.returns-clause-value
returns-clause-value c = value c

pub returns-clause-low : goal.returns-clause-low
returns-clause-low c = rw (value c) (square_low c.args.x (10 ^ 18))

pub returns-clause-high : goal.returns-clause-high
returns-clause-high c =
    let h : unsigned_abs (rounded_square c.args.x) ≤ 4 * 10 ^ 18 = square_high c.args.x c.requires in
    rw (value c) (omega (arith, ints))
