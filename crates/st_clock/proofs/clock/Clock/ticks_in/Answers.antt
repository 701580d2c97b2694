use Rattle.std.proofs.Common.{◌≡◌, Bool, true, false, FitsSigned, arith}
use Rattle.std.specs.Int.{w128}
use Rattle.std.proofs.lemmas.Int.{ints, to_z-of_z}
use Rattle.st_fraction.specs.Fraction.{units}
use Rattle.st_clock.proofs.Answered.{same_ticks, same_ticks_only, two_ticks_only}
use Rattle.st_clock.proofs.clock.Clock.ticks_in.Goals as goal

differ : (b : Bool) → b ≡ true → b ≡ false → ⊥
differ b t f = cc

pub returns-then-is_same-clause-gives : goal.returns-then-is_same-clause-gives
returns-then-is_same-clause-gives c =
    let low : FitsSigned w128 c.args.time.lo = omega (arith, ints, c.requires.low, c.requires.high, c.args.time.ordered) in
    let high : FitsSigned w128 c.args.time.hi = omega (arith, ints, c.requires.low, c.requires.high, c.args.time.ordered) in
    let a = rw (to_z-of_z w128 c.args.time.lo low) at c.ticks_of-lo.ensures in
    let b = rw (to_z-of_z w128 c.args.time.hi high) at c.ticks_of-hi.ensures in
    same_ticks c.args.self.now (units c.args.time.lo) (units c.args.time.hi) c.ticks_of-lo.result c.ticks_of-hi.result a.gives b.gives (c.is_same.ensures.0 c.if-is_same.true)

pub returns-then-is_same-clause-only : goal.returns-then-is_same-clause-only
returns-then-is_same-clause-only c =
    let low : FitsSigned w128 c.args.time.lo = omega (arith, ints, c.requires.low, c.requires.high, c.args.time.ordered) in
    let high : FitsSigned w128 c.args.time.hi = omega (arith, ints, c.requires.low, c.requires.high, c.args.time.ordered) in
    let a = rw (to_z-of_z w128 c.args.time.lo low) at c.ticks_of-lo.ensures in
    let b = rw (to_z-of_z w128 c.args.time.hi high) at c.ticks_of-hi.ensures in
    same_ticks_only c.args.self.now (units c.args.time.lo) (units c.args.time.hi) c.ticks_of-lo.result c.ticks_of-hi.result a.only b.only (c.is_same.ensures.0 c.if-is_same.true)

pub returns-else-is_same-clause-gives : goal.returns-else-is_same-clause-gives
returns-else-is_same-clause-gives c =
    let low : FitsSigned w128 c.args.time.lo = omega (arith, ints, c.requires.low, c.requires.high, c.args.time.ordered) in
    let high : FitsSigned w128 c.args.time.hi = omega (arith, ints, c.requires.low, c.requires.high, c.args.time.ordered) in
    let a = rw (to_z-of_z w128 c.args.time.lo low) at c.ticks_of-lo.ensures in
    let b = rw (to_z-of_z w128 c.args.time.hi high) at c.ticks_of-hi.ensures in
    (a.gives, (b.gives, (λ e. differ c.is_same.result (c.is_same.ensures.1 e) c.if-is_same.false)))

pub returns-else-is_same-clause-only : goal.returns-else-is_same-clause-only
returns-else-is_same-clause-only c =
    let low : FitsSigned w128 c.args.time.lo = omega (arith, ints, c.requires.low, c.requires.high, c.args.time.ordered) in
    let high : FitsSigned w128 c.args.time.hi = omega (arith, ints, c.requires.low, c.requires.high, c.args.time.ordered) in
    let a = rw (to_z-of_z w128 c.args.time.lo low) at c.ticks_of-lo.ensures in
    let b = rw (to_z-of_z w128 c.args.time.hi high) at c.ticks_of-hi.ensures in
    two_ticks_only c.args.self.now (units c.args.time.lo) (units c.args.time.hi) c.ticks_of-lo.result c.ticks_of-hi.result a.only b.only (λ e. differ c.is_same.result (c.is_same.ensures.1 e) c.if-is_same.false)
