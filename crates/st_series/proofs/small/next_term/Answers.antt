use Rattle.std.proofs.Common.{◌≡◌, ◌*◌, ◌^◌, ◌≤◌, ◌<◌, ℤ, pos, negsuc, ◌-ℤ◌, ◌*ℤ◌, ◌≤ℤ◌, unsigned_abs, arith, lit<, rules}
use Rattle.std.specs.Int.{w128}
use Rattle.std.specs.Int.RustNames.{FitsSigned}
use Rattle.std.proofs.lemmas.Int.{ints, to_z-of_z, fits_signed_mul, unsigned_abs-mul}
use Rattle.st_series.specs.Small.{floor_of}
use Rattle.st_series.proofs.Rounded.{floor_within}
use Rattle.st_series.proofs.Quotients.{floor_below_zero, floor_from_zero}
use Rattle.st_series.proofs.small.next_term.Goals as goal

value_below : (c : goal.After-quotient) → negsuc 0 -ℤ c.quotient.result ≡ floor_of (c.args.term *ℤ c.args.square) (10 ^ 18 * unsigned_abs c.args.divisor)
value_below c =
    let t = c.ranges.term in
    let s = c.ranges.square in
    let d = c.ranges.divisor in
    let p = fits_signed_mul w128 c.args.term c.args.square (2 * 10 ^ 18) (4 * 10 ^ 18) c.requires.term (omega (arith, ints)) (lit< tt) in
    let n : FitsSigned w128 (negsuc 0 -ℤ (c.args.term *ℤ c.args.square)) = omega (arith, ints) in
    floor_below_zero (c.args.term *ℤ c.args.square) c.quotient.result (10 ^ 18 * unsigned_abs c.args.divisor) (simp to_z-of_z at c.if-product-lt0.true) (simp to_z-of_z at c.quotient.ensures.value)

value_from : (c : goal.After-quotient-else-product-lt0) → c.quotient-else-product-lt0.result ≡ floor_of (c.args.term *ℤ c.args.square) (10 ^ 18 * unsigned_abs c.args.divisor)
value_from c =
    let t = c.ranges.term in
    let s = c.ranges.square in
    let d = c.ranges.divisor in
    let p = fits_signed_mul w128 c.args.term c.args.square (2 * 10 ^ 18) (4 * 10 ^ 18) c.requires.term (omega (arith, ints)) (lit< tt) in
    floor_from_zero (c.args.term *ℤ c.args.square) c.quotient-else-product-lt0.result (10 ^ 18 * unsigned_abs c.args.divisor) (simp to_z-of_z at c.if-product-lt0.false) (simp to_z-of_z at c.quotient-else-product-lt0.ensures.value)

-- the quotient is at most 2 units
small : (t s d : ℤ) → pos 1 ≤ℤ d → unsigned_abs t * unsigned_abs s ≤ 2 * 10 ^ 36 * unsigned_abs d → unsigned_abs (floor_of (t *ℤ s) (10 ^ 18 * unsigned_abs d)) ≤ 2 * 10 ^ 18
small t s d low product =
    let some : 0 < 10 ^ 18 * unsigned_abs d = omega (arith, ints) in
    floor_within (t *ℤ s) (10 ^ 18 * unsigned_abs d) (2 * 10 ^ 18) some (omega (arith, unsigned_abs-mul t s, product))

pub returns-then-product-lt0-clause-value : goal.returns-then-product-lt0-clause-value
returns-then-product-lt0-clause-value c =
    let q : FitsSigned w128 c.quotient.result = search rules in
    let m = small c.args.term c.args.square c.args.divisor c.requires.divisor_low c.requires.product in
    let f : FitsSigned w128 (negsuc 0 -ℤ c.quotient.result) = rw (value_below c) (omega (arith, ints)) in
    simp to_z-of_z (value_below c)

pub returns-then-product-lt0-clause-small : goal.returns-then-product-lt0-clause-small
returns-then-product-lt0-clause-small c =
    let q : FitsSigned w128 c.quotient.result = search rules in
    let m = small c.args.term c.args.square c.args.divisor c.requires.divisor_low c.requires.product in
    let f : FitsSigned w128 (negsuc 0 -ℤ c.quotient.result) = rw (value_below c) (omega (arith, ints)) in
    simp to_z-of_z (rw (value_below c) m)

pub returns-else-product-lt0-clause-value : goal.returns-else-product-lt0-clause-value
returns-else-product-lt0-clause-value c =
    let q : FitsSigned w128 c.quotient-else-product-lt0.result = search rules in
    simp to_z-of_z (value_from c)

pub returns-else-product-lt0-clause-small : goal.returns-else-product-lt0-clause-small
returns-else-product-lt0-clause-small c =
    let q : FitsSigned w128 c.quotient-else-product-lt0.result = search rules in
    simp to_z-of_z (rw (value_from c) (small c.args.term c.args.square c.args.divisor c.requires.divisor_low c.requires.product))
