use Rattle.std.proofs.Common.{◌≡◌, ℤ, pos, neg_ℤ, ◌+◌, ◌^◌, ◌+ℤ◌, ◌-ℤ◌, arith, rules}
use Rattle.std.proofs.lemmas.Int.{ints, to_z-of_z}
use Rattle.st_fraction.specs.Fraction.{units}
use Rattle.st_enclosure.specs.Ends.{EndsAtMost}
use Rattle.st_series.specs.Enclosed.{HasSine, HasCosine}
use Rattle.st_sine.proofs.Doubled.{sine_ends, cosine_ends, ends_wider}
use Rattle.st_sine.proofs.Quarter.{after_none, after_one, after_two, after_three}
use Rattle.st_sine.proofs.quarters.sine_after.Goals as goal

-- the ends of a sine, and of a cosine, that is 50 units wide
ends_of_sine : (rest lo hi : ℤ) → HasSine lo hi (units rest) → hi ≡ lo +ℤ pos 50 → EndsAtMost lo hi (10 ^ 18 + 50)
ends_of_sine rest lo hi s w = sine_ends lo hi 50 rest s (omega (arith, ints, w))

ends_of_cosine : (rest lo hi : ℤ) → HasCosine lo hi (units rest) → hi ≡ lo +ℤ pos 50 → EndsAtMost lo hi (10 ^ 18 + 50)
ends_of_cosine rest lo hi s w = cosine_ends lo hi 50 rest s (omega (arith, ints, w))

pub sub-requires-clause-other_ends : goal.sub-requires-clause-other_ends
sub-requires-clause-other_ends c =
    let f = c.ranges.rest in
    let e = c.sin_within_one-in-2.ensures in
    ends_wider _ _ (10 ^ 18 + 50) (10 ^ 37) (ends_of_sine c.args.rest _ _ (simp to_z-of_z at e.sine) e.width) (omega arith)

pub sub-requires-in_default-clause-other_ends : goal.sub-requires-in_default-clause-other_ends
sub-requires-in_default-clause-other_ends c =
    let f = c.ranges.rest in
    let e = c.cos_within_one-in_default.ensures in
    ends_wider _ _ (10 ^ 18 + 50) (10 ^ 37) (ends_of_cosine c.args.rest _ _ (simp to_z-of_z at e.cosine) e.width) (omega arith)

pub returns-in-0-clause-sine : goal.returns-in-0-clause-sine
returns-in-0-clause-sine c turns few =
    let f = c.ranges.rest in
    let e = c.sin_within_one.ensures in
    rw c.in-0.is (after_none c.args.rest turns _ _ c.requires.rest few (simp to_z-of_z at e.sine) e.width).sine

pub returns-in-0-clause-ends : goal.returns-in-0-clause-ends
returns-in-0-clause-ends c =
    let f = c.ranges.rest in
    let e = c.sin_within_one.ensures in
    ends_of_sine c.args.rest _ _ (simp to_z-of_z at e.sine) e.width

pub returns-in-1-clause-sine : goal.returns-in-1-clause-sine
returns-in-1-clause-sine c turns few =
    let f = c.ranges.rest in
    let e = c.cos_within_one.ensures in
    rw c.in-1.is (after_one c.args.rest turns _ _ c.requires.rest few (simp to_z-of_z at e.cosine) e.width).sine

pub returns-in-1-clause-ends : goal.returns-in-1-clause-ends
returns-in-1-clause-ends c =
    let f = c.ranges.rest in
    let e = c.cos_within_one.ensures in
    ends_of_cosine c.args.rest _ _ (simp to_z-of_z at e.cosine) e.width

-- what a difference from 0 has
turned_low : (a b c : ℤ) → a ≡ pos 0 → c ≡ a -ℤ b → c ≡ neg_ℤ b
turned_low a b c h k = omega (arith, ints)

pub returns-in-2-clause-sine : goal.returns-in-2-clause-sine
returns-in-2-clause-sine c turns few =
    let f = c.ranges.rest in
    let e = c.sin_within_one-in-2.ensures in
    rw c.in-2.is (after_two c.args.rest turns c.sin_within_one-in-2.result.lo c.sin_within_one-in-2.result.hi c.sub.result.lo c.sub.result.hi c.requires.rest few (simp to_z-of_z at e.sine) e.width
    (turned_low c.point.result.lo _ _ c.point.ensures.low c.sub.ensures.low) (turned_low c.point.result.hi _ _ c.point.ensures.high c.sub.ensures.high)).sine

pub returns-in-2-clause-ends : goal.returns-in-2-clause-ends
returns-in-2-clause-ends c =
    let f = c.ranges.rest in
    let e = c.sin_within_one-in-2.ensures in
    let s = ends_of_sine c.args.rest _ _ (simp to_z-of_z at e.sine) e.width in
    let l = s.low in
    let h = s.high in
    record { low = omega (arith, ints, c.sub.ensures.low, c.point.ensures.low); high = omega (arith, ints, c.sub.ensures.high, c.point.ensures.high) }

pub returns-in_default-clause-sine : goal.returns-in_default-clause-sine
returns-in_default-clause-sine c turns few =
    let f = c.ranges.rest in
    let e = c.cos_within_one-in_default.ensures in
    let three : c.args.quarter ≡ 3 = search rules in
    rw three (after_three c.args.rest turns c.cos_within_one-in_default.result.lo c.cos_within_one-in_default.result.hi c.sub-in_default.result.lo c.sub-in_default.result.hi c.requires.rest few (simp to_z-of_z at e.cosine) e.width
    (turned_low c.point-in_default.result.lo _ _ c.point-in_default.ensures.low c.sub-in_default.ensures.low) (turned_low c.point-in_default.result.hi _ _ c.point-in_default.ensures.high c.sub-in_default.ensures.high)).sine

pub returns-in_default-clause-ends : goal.returns-in_default-clause-ends
returns-in_default-clause-ends c =
    let f = c.ranges.rest in
    let e = c.cos_within_one-in_default.ensures in
    let s = ends_of_cosine c.args.rest _ _ (simp to_z-of_z at e.cosine) e.width in
    let l = s.low in
    let h = s.high in
    record { low = omega (arith, ints, c.sub-in_default.ensures.low, c.point-in_default.ensures.low); high = omega (arith, ints, c.sub-in_default.ensures.high, c.point-in_default.ensures.high) }
