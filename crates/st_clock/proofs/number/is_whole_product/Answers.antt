use Rattle.std.proofs.Common.{◌≡◌, ◌^◌, ◌<◌, pos, ◌<ℤ◌, ◌+ℤ◌, ◌-ℤ◌, FitsSigned, unsigned_abs, ap, refl, of_z, to_z, arith}
use Rattle.std.specs.Int.{w32, w128}
use Rattle.std.proofs.lemmas.Int.{ints, to_z-of_z}
use Rattle.st_clock.proofs.Wholes.{whole_up, whole_zero, too_low, as_units, from_units, at_least_zero, below_zero}
use Rattle.st_clock.proofs.number.is_whole_product.Goals as goal

pub returns-then-tens-ge0 : goal.returns-then-tens-ge0
returns-then-tens-ge0 c =
    let h = rw (to_z-of_z w32 c.args.tens c.ranges.tens) at c.if-tens-ge0.true in
    (λ e. whole_up c.args.digits c.args.tens (at_least_zero c.args.tens h), λ h. refl)

pub returns-then-digits-eq0 : goal.returns-then-digits-eq0
returns-then-digits-eq0 c =
    let zero : c.args.digits ≡ pos 0 = rw (to_z-of_z w128 c.args.digits c.ranges.digits) at (ap (to_z w128) c.if-digits-eq0.true) in
    (λ e. rw zero (whole_zero c.args.tens), λ h. refl)

pub returns-then-tens-ltminus40 : goal.returns-then-tens-ltminus40
returns-then-tens-ltminus40 c =
    let h = rw (to_z-of_z w32 c.args.tens c.ranges.tens) at c.if-tens-ltminus40.true in
    let low : (c.args.tens +ℤ pos 40) <ℤ pos 0 = omega (arith, ints, h) in
    let small : unsigned_abs c.args.digits < 2 ^ 128 = omega (arith, ints, c.ranges.digits) in
    (λ e. absurd cc, λ w. absurd (too_low c.args.digits c.args.tens w.0 (λ z. c.if-digits-eq0.false (ap (of_z w128) z)) small low w.1))

pub returns-in-Some : goal.returns-in-Some
returns-in-Some c =
    let t = to_z-of_z w32 c.args.tens c.ranges.tens in
    let low = rw t at c.if-tens-ltminus40.false in
    let shifted : FitsSigned w32 (c.args.tens -ℤ pos 18) = omega (arith, ints, low, c.ranges.tens) in
    let g = rw (to_z-of_z w128 c.args.digits c.ranges.digits, t, to_z-of_z w32 (c.args.tens -ℤ pos 18) shifted) at c.in-Some.ensures.some in
    (λ e. (c.in-Some.field-0, from_units c.args.digits c.args.tens c.in-Some.field-0 g), λ h. refl)

pub returns-in-None : goal.returns-in-None
returns-in-None c =
    let t = to_z-of_z w32 c.args.tens c.ranges.tens in
    let low = rw t at c.if-tens-ltminus40.false in
    let shifted : FitsSigned w32 (c.args.tens -ℤ pos 18) = omega (arith, ints, low, c.ranges.tens) in
    let g = rw (to_z-of_z w128 c.args.digits c.ranges.digits, t, to_z-of_z w32 (c.args.tens -ℤ pos 18) shifted) at c.in-None.ensures.none.0 in
    let negative = below_zero c.args.tens (rw t at c.if-tens-ge0.false) in
    let small : unsigned_abs c.args.digits < 2 ^ 128 = omega (arith, ints, c.ranges.digits) in
    (λ e. absurd cc, λ w. absurd (g refl w.0 (as_units c.args.digits c.args.tens w.0 small negative w.1)))
