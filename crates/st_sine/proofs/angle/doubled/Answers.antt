use Rattle.std.proofs.Common.{◌≡◌, ℕ, ◌+◌, ◌*◌, ◌^◌, pos, ◌*ℤ◌, add-one, subst, arith}
use Rattle.std.proofs.lemmas.Int.{ints, to_z-of_z}
use Rattle.st_sine.proofs.Widths.{width_after, width_after_eleven, width_before_last}
use Rattle.st_sine.proofs.Doubled.{AreDoubled, doubled_start, doubled_next, are_narrow, ends_wider}
use Rattle.st_sine.proofs.angle.doubled.Goals as goal

pub loop-i-init : goal.loop-i-init
loop-i-init c =
    let f = c.ranges.start in
    let e = c.sin_cos_small.ensures in
    simp to_z-of_z (doubled_start c.args.start _ _ _ _ (simp to_z-of_z at e.sine) (simp to_z-of_z at e.cosine) e.sine_narrow e.cosine_narrow)

pub double-requires-clause-sine_ends : goal.double-requires-clause-sine_ends
double-requires-clause-sine_ends c =
    let f = c.ranges.start in
    let d = simp to_z-of_z at c.loop-i.invariant in
    let n = are_narrow c.args.start c.loop-i.i _ _ _ _ d in
    let w = width_before_last c.loop-i.i (omega arith) in
    ends_wider _ _ (10 ^ 18 + width_after c.loop-i.i) (2 * 10 ^ 18) n.sine_ends (omega arith)

pub double-requires-clause-cosine_ends : goal.double-requires-clause-cosine_ends
double-requires-clause-cosine_ends c =
    let f = c.ranges.start in
    let d = simp to_z-of_z at c.loop-i.invariant in
    let n = are_narrow c.args.start c.loop-i.i _ _ _ _ d in
    let w = width_before_last c.loop-i.i (omega arith) in
    ends_wider _ _ (10 ^ 18 + width_after c.loop-i.i) (2 * 10 ^ 18) n.cosine_ends (omega arith)

pub loop-i-preserved : goal.loop-i-preserved
loop-i-preserved c =
    let f = c.ranges.start in
    let d = simp to_z-of_z at c.loop-i.invariant in
    let n = are_narrow c.args.start c.loop-i.i _ _ _ _ d in
    let w = width_before_last c.loop-i.i (omega arith) in
    let e = c.double.ensures in
    let z = c.args.start *ℤ pos (2 ^ c.loop-i.i) in
    simp to_z-of_z (rw add-one (doubled_next c.args.start c.loop-i.i _ _ _ _ (e.sine z d.sine d.cosine) (e.cosine z d.sine d.cosine) (e.sine_narrow (width_after c.loop-i.i) w n) (e.cosine_narrow (width_after c.loop-i.i) w n)))

-- after the last turn
last : (c : goal.After-loop-i) → AreDoubled c.args.start c.args.doublings c.loop-i.sine.lo c.loop-i.sine.hi c.loop-i.cosine.lo c.loop-i.cosine.hi
last c =
    let f = c.ranges.start in
    let e : c.loop-i.i ≡ c.args.doublings = omega arith in
    subst (λ (i : ℕ). AreDoubled c.args.start i c.loop-i.sine.lo c.loop-i.sine.hi c.loop-i.cosine.lo c.loop-i.cosine.hi) e (simp to_z-of_z at c.loop-i.invariant)

pub returns-clause-sine : goal.returns-clause-sine
returns-clause-sine c = (last c).sine

pub returns-clause-cosine : goal.returns-clause-cosine
returns-clause-cosine c = (last c).cosine

pub returns-clause-sine_narrow : goal.returns-clause-sine_narrow
returns-clause-sine_narrow c =
    let d = last c in
    let w = width_after_eleven c.args.doublings c.requires.doublings in
    let h = d.sine_width in
    omega (arith, ints, h)

pub returns-clause-cosine_narrow : goal.returns-clause-cosine_narrow
returns-clause-cosine_narrow c =
    let d = last c in
    let w = width_after_eleven c.args.doublings c.requires.doublings in
    let h = d.cosine_width in
    omega (arith, ints, h)

pub returns-clause-sine_ends : goal.returns-clause-sine_ends
returns-clause-sine_ends c =
    let w = width_after_eleven c.args.doublings c.requires.doublings in
    ends_wider _ _ (10 ^ 18 + width_after c.args.doublings) (10 ^ 18 + 219501908) (are_narrow c.args.start c.args.doublings _ _ _ _ (last c)).sine_ends (omega arith)

pub returns-clause-cosine_ends : goal.returns-clause-cosine_ends
returns-clause-cosine_ends c =
    let w = width_after_eleven c.args.doublings c.requires.doublings in
    ends_wider _ _ (10 ^ 18 + width_after c.args.doublings) (10 ^ 18 + 219501908) (are_narrow c.args.start c.args.doublings _ _ _ _ (last c)).cosine_ends (omega arith)
