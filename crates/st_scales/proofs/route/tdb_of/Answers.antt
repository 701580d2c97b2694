use Rattle.std.proofs.Common.{◌≡◌, ℤ, pos, ◌+ℤ◌, ◌-ℤ◌, to_z, ap, arith}
use Rattle.std.specs.Int.{w128}
use Rattle.std.specs.Int.RustNames.{FitsSigned}
use Rattle.std.proofs.lemmas.Int.{ints, to_z-of_z}
use Rattle.st_scales.proofs.Units.{plain_low, plain_high, tdb_low_of, tdb_high_of}
use Rattle.st_scales.proofs.route.tdb_of.Goals as goal

pub returns-then-k-eq0-clause-at_least : goal.returns-then-k-eq0-clause-at_least
returns-then-k-eq0-clause-at_least c x px within =
    let d = c.args.c.now in
    let y : FitsSigned w128 c.k.result = omega (arith, ints, c.k.ensures, d.k_low, d.k_high) in
    let i : c.k.result ≡ pos 0 = simp to_z-of_z at (ap (to_z w128) c.if-k-eq0.true) in
    plain_low d c.args.r.lo c.args.r.hi x (omega (arith, ints, i, c.k.ensures)) px within

pub returns-then-k-eq0-clause-at_most : goal.returns-then-k-eq0-clause-at_most
returns-then-k-eq0-clause-at_most c x px within =
    let d = c.args.c.now in
    let y : FitsSigned w128 c.k.result = omega (arith, ints, c.k.ensures, d.k_low, d.k_high) in
    let i : c.k.result ≡ pos 0 = simp to_z-of_z at (ap (to_z w128) c.if-k-eq0.true) in
    plain_high d c.args.r.lo c.args.r.hi x (omega (arith, ints, i, c.k.ensures)) px within

pub returns-clause-at_least : goal.returns-clause-at_least
returns-clause-at_least c x px within =
    let a : FitsSigned w128 c.args.r.lo = omega (arith, ints, c.requires.ends.low, c.requires.ends.high, c.args.r.ordered) in
    let e : c.add.result.lo ≡ c.tdb_at-first.result.lo = omega (arith, ints, c.add.ensures.low) in
    rw e (tdb_low_of c.args.c.now c.args.r.lo c.args.r.hi c.tdb_at-first.result.lo x px within (simp to_z-of_z at c.tdb_at-first.ensures.at_least))

pub returns-clause-at_most : goal.returns-clause-at_most
returns-clause-at_most c x px within =
    let lo = c.args.r.lo in
    let hi = c.args.r.hi in
    let a : FitsSigned w128 lo = omega (arith, ints, c.requires.ends.low, c.requires.ends.high, c.args.r.ordered) in
    let b : FitsSigned w128 hi = omega (arith, ints, c.requires.ends.low, c.requires.ends.high, c.args.r.ordered) in
    let w : FitsSigned w128 (hi -ℤ lo) = omega (arith, ints, c.requires.narrow, c.args.r.ordered) in
    let v : FitsSigned w128 (hi -ℤ lo +ℤ pos 1) = omega (arith, ints, c.requires.narrow, c.args.r.ordered) in
    tdb_high_of c.args.c.now lo hi c.tdb_at-first.result.hi c.add.result.hi x px c.args.r.ordered c.requires.narrow (simp to_z-of_z at c.add.ensures.high) within
    (simp to_z-of_z at c.tdb_at-first.ensures.at_most)

pub returns-clause-narrow : goal.returns-clause-narrow
returns-clause-narrow c =
    let lo = c.args.r.lo in
    let hi = c.args.r.hi in
    let a : FitsSigned w128 lo = omega (arith, ints, c.requires.ends.low, c.requires.ends.high, c.args.r.ordered) in
    let b : FitsSigned w128 hi = omega (arith, ints, c.requires.ends.low, c.requires.ends.high, c.args.r.ordered) in
    let w : FitsSigned w128 (hi -ℤ lo) = omega (arith, ints, c.requires.narrow, c.args.r.ordered) in
    let v : FitsSigned w128 (hi -ℤ lo +ℤ pos 1) = omega (arith, ints, c.requires.narrow, c.args.r.ordered) in
    let h = simp to_z-of_z at c.add.ensures.high in
    omega (arith, ints, h, c.add.ensures.low, c.tdb_at-first.ensures.narrow)

pub returns-clause-high_near : goal.returns-clause-high_near
returns-clause-high_near c =
    let lo = c.args.r.lo in
    let hi = c.args.r.hi in
    let a : FitsSigned w128 lo = omega (arith, ints, c.requires.ends.low, c.requires.ends.high, c.args.r.ordered) in
    let b : FitsSigned w128 hi = omega (arith, ints, c.requires.ends.low, c.requires.ends.high, c.args.r.ordered) in
    let w : FitsSigned w128 (hi -ℤ lo) = omega (arith, ints, c.requires.narrow, c.args.r.ordered) in
    let v : FitsSigned w128 (hi -ℤ lo +ℤ pos 1) = omega (arith, ints, c.requires.narrow, c.args.r.ordered) in
    let h = simp to_z-of_z at c.add.ensures.high in
    let n = simp to_z-of_z at c.tdb_at-first.ensures.near in
    omega (arith, ints, h, n.high, n.low, c.tdb_at-first.result.ordered)
