use Rattle.std.proofs.Common.{◌≡◌, ℤ, pos, ◌+ℤ◌, ◌-ℤ◌, to_z, ap, arith}
use Rattle.std.specs.Int.{w128}
use Rattle.std.specs.Int.RustNames.{FitsSigned}
use Rattle.std.proofs.lemmas.Int.{ints, to_z-of_z}
use Rattle.st_scales.proofs.Units.{plain_back_low, plain_back_high, close_to, tt_low_of, tt_high_of, low_near_of, high_near_of}
use Rattle.st_scales.proofs.route.tt_of.Goals as goal

pub returns-then-k-eq0-clause-at_least : goal.returns-then-k-eq0-clause-at_least
returns-then-k-eq0-clause-at_least c x px within =
    let d = c.args.c.now in
    let y : FitsSigned w128 c.k.result = omega (arith, ints, c.k.ensures, d.k_low, d.k_high) in
    let i : c.k.result ≡ pos 0 = simp to_z-of_z at (ap (to_z w128) c.if-k-eq0.true) in
    plain_back_low d c.args.r.lo c.args.r.hi x (omega (arith, ints, i, c.k.ensures)) px within

pub returns-then-k-eq0-clause-at_most : goal.returns-then-k-eq0-clause-at_most
returns-then-k-eq0-clause-at_most c x px within =
    let d = c.args.c.now in
    let y : FitsSigned w128 c.k.result = omega (arith, ints, c.k.ensures, d.k_low, d.k_high) in
    let i : c.k.result ≡ pos 0 = simp to_z-of_z at (ap (to_z w128) c.if-k-eq0.true) in
    plain_back_high d c.args.r.lo c.args.r.hi x (omega (arith, ints, i, c.k.ensures)) px within

pub ends_from-requires-clause-t : goal.ends_from-requires-clause-t
ends_from-requires-clause-t c =
    let lo = c.args.r.lo in
    let a : FitsSigned w128 lo = omega (arith, ints, c.requires.ends.low, c.requires.ends.high, c.args.r.ordered) in
    let near = simp to_z-of_z at c.tdb_at-first.ensures.near in
    let b : FitsSigned w128 c.tdb_at-first.result.lo = omega (arith, ints, c.requires.ends.low, c.requires.ends.high, c.args.r.ordered, near.low, near.high, c.tdb_at-first.result.ordered) in
    let e = simp to_z-of_z at c.mirrored-t.ensures.value in
    let f : FitsSigned w128 c.mirrored-t.result = omega (arith, ints, c.requires.ends.low, c.requires.ends.high, c.args.r.ordered, near.low, near.high, c.tdb_at-first.result.ordered, e) in
    simp to_z-of_z (omega (arith, ints, c.requires.ends.low, c.requires.ends.high, c.args.r.ordered, near.low, near.high, c.tdb_at-first.result.ordered, e))

pub returns-clause-at_least : goal.returns-clause-at_least
returns-clause-at_least c x px within =
    let lo = c.args.r.lo in
    let a : FitsSigned w128 lo = omega (arith, ints, c.requires.ends.low, c.requires.ends.high, c.args.r.ordered) in
    let near = simp to_z-of_z at c.tdb_at-first.ensures.near in
    let b : FitsSigned w128 c.tdb_at-first.result.lo = omega (arith, ints, c.requires.ends.low, c.requires.ends.high, c.args.r.ordered, near.low, near.high, c.tdb_at-first.result.ordered) in
    let e = simp to_z-of_z at c.mirrored-t.ensures.value in
    let f : FitsSigned w128 c.mirrored-t.result = omega (arith, ints, c.requires.ends.low, c.requires.ends.high, c.args.r.ordered, near.low, near.high, c.tdb_at-first.result.ordered, e) in
    let close = close_to c.args.c.now lo c.tdb_at-first.result.lo c.tdb_at-first.result.hi c.mirrored-t.result c.tdb_at-found.result.lo c.tdb_at-found.result.hi
    (simp to_z-of_z at c.tdb_at-first.ensures.at_least) (simp to_z-of_z at c.tdb_at-first.ensures.at_most) c.tdb_at-first.ensures.narrow near e
    (simp to_z-of_z at c.tdb_at-found.ensures.at_least) (simp to_z-of_z at c.tdb_at-found.ensures.at_most) c.tdb_at-found.result.ordered c.tdb_at-found.ensures.narrow c.tdb_at-first.result.ordered in
    let l = simp to_z-of_z at c.ends_from.ensures.low in
    let h = simp to_z-of_z at c.ends_from.ensures.high in
    tt_low_of c.args.c.now lo c.args.r.hi c.mirrored-t.result c.tdb_at-found.result.lo c.tdb_at-found.result.hi c.ends_from.result.lo x px c.args.r.ordered within close c.tdb_at-found.result.ordered
    (simp to_z-of_z at c.tdb_at-found.ensures.at_most) l

pub returns-clause-at_most : goal.returns-clause-at_most
returns-clause-at_most c x px within =
    let lo = c.args.r.lo in
    let a : FitsSigned w128 lo = omega (arith, ints, c.requires.ends.low, c.requires.ends.high, c.args.r.ordered) in
    let near = simp to_z-of_z at c.tdb_at-first.ensures.near in
    let b : FitsSigned w128 c.tdb_at-first.result.lo = omega (arith, ints, c.requires.ends.low, c.requires.ends.high, c.args.r.ordered, near.low, near.high, c.tdb_at-first.result.ordered) in
    let e = simp to_z-of_z at c.mirrored-t.ensures.value in
    let f : FitsSigned w128 c.mirrored-t.result = omega (arith, ints, c.requires.ends.low, c.requires.ends.high, c.args.r.ordered, near.low, near.high, c.tdb_at-first.result.ordered, e) in
    let close = close_to c.args.c.now lo c.tdb_at-first.result.lo c.tdb_at-first.result.hi c.mirrored-t.result c.tdb_at-found.result.lo c.tdb_at-found.result.hi
    (simp to_z-of_z at c.tdb_at-first.ensures.at_least) (simp to_z-of_z at c.tdb_at-first.ensures.at_most) c.tdb_at-first.ensures.narrow near e
    (simp to_z-of_z at c.tdb_at-found.ensures.at_least) (simp to_z-of_z at c.tdb_at-found.ensures.at_most) c.tdb_at-found.result.ordered c.tdb_at-found.ensures.narrow c.tdb_at-first.result.ordered in
    let l = simp to_z-of_z at c.ends_from.ensures.low in
    let h = simp to_z-of_z at c.ends_from.ensures.high in
    tt_high_of c.args.c.now lo c.args.r.hi c.mirrored-t.result c.tdb_at-found.result.lo c.tdb_at-found.result.hi c.ends_from.result.hi x px c.args.r.ordered c.requires.narrow within close c.tdb_at-found.result.ordered
    (simp to_z-of_z at c.tdb_at-found.ensures.at_least) h

pub returns-clause-narrow : goal.returns-clause-narrow
returns-clause-narrow c =
    let lo = c.args.r.lo in
    let a : FitsSigned w128 lo = omega (arith, ints, c.requires.ends.low, c.requires.ends.high, c.args.r.ordered) in
    let near = simp to_z-of_z at c.tdb_at-first.ensures.near in
    let b : FitsSigned w128 c.tdb_at-first.result.lo = omega (arith, ints, c.requires.ends.low, c.requires.ends.high, c.args.r.ordered, near.low, near.high, c.tdb_at-first.result.ordered) in
    let e = simp to_z-of_z at c.mirrored-t.ensures.value in
    let f : FitsSigned w128 c.mirrored-t.result = omega (arith, ints, c.requires.ends.low, c.requires.ends.high, c.args.r.ordered, near.low, near.high, c.tdb_at-first.result.ordered, e) in
    let l = simp to_z-of_z at c.ends_from.ensures.low in
    let h = simp to_z-of_z at c.ends_from.ensures.high in
    omega (arith, ints, l, h, c.tdb_at-found.ensures.narrow)

pub returns-clause-low_near : goal.returns-clause-low_near
returns-clause-low_near c =
    let lo = c.args.r.lo in
    let a : FitsSigned w128 lo = omega (arith, ints, c.requires.ends.low, c.requires.ends.high, c.args.r.ordered) in
    let near = simp to_z-of_z at c.tdb_at-first.ensures.near in
    let b : FitsSigned w128 c.tdb_at-first.result.lo = omega (arith, ints, c.requires.ends.low, c.requires.ends.high, c.args.r.ordered, near.low, near.high, c.tdb_at-first.result.ordered) in
    let e = simp to_z-of_z at c.mirrored-t.ensures.value in
    let f : FitsSigned w128 c.mirrored-t.result = omega (arith, ints, c.requires.ends.low, c.requires.ends.high, c.args.r.ordered, near.low, near.high, c.tdb_at-first.result.ordered, e) in
    let close = close_to c.args.c.now lo c.tdb_at-first.result.lo c.tdb_at-first.result.hi c.mirrored-t.result c.tdb_at-found.result.lo c.tdb_at-found.result.hi
    (simp to_z-of_z at c.tdb_at-first.ensures.at_least) (simp to_z-of_z at c.tdb_at-first.ensures.at_most) c.tdb_at-first.ensures.narrow near e
    (simp to_z-of_z at c.tdb_at-found.ensures.at_least) (simp to_z-of_z at c.tdb_at-found.ensures.at_most) c.tdb_at-found.result.ordered c.tdb_at-found.ensures.narrow c.tdb_at-first.result.ordered in
    let l = simp to_z-of_z at c.ends_from.ensures.low in
    let h = simp to_z-of_z at c.ends_from.ensures.high in
    low_near_of lo c.tdb_at-first.result.lo c.tdb_at-first.result.hi c.mirrored-t.result c.tdb_at-found.result.lo c.tdb_at-found.result.hi c.ends_from.result.lo near c.tdb_at-first.result.ordered e close c.tdb_at-found.result.ordered l

pub returns-clause-high_near : goal.returns-clause-high_near
returns-clause-high_near c =
    let lo = c.args.r.lo in
    let a : FitsSigned w128 lo = omega (arith, ints, c.requires.ends.low, c.requires.ends.high, c.args.r.ordered) in
    let near = simp to_z-of_z at c.tdb_at-first.ensures.near in
    let b : FitsSigned w128 c.tdb_at-first.result.lo = omega (arith, ints, c.requires.ends.low, c.requires.ends.high, c.args.r.ordered, near.low, near.high, c.tdb_at-first.result.ordered) in
    let e = simp to_z-of_z at c.mirrored-t.ensures.value in
    let f : FitsSigned w128 c.mirrored-t.result = omega (arith, ints, c.requires.ends.low, c.requires.ends.high, c.args.r.ordered, near.low, near.high, c.tdb_at-first.result.ordered, e) in
    let close = close_to c.args.c.now lo c.tdb_at-first.result.lo c.tdb_at-first.result.hi c.mirrored-t.result c.tdb_at-found.result.lo c.tdb_at-found.result.hi
    (simp to_z-of_z at c.tdb_at-first.ensures.at_least) (simp to_z-of_z at c.tdb_at-first.ensures.at_most) c.tdb_at-first.ensures.narrow near e
    (simp to_z-of_z at c.tdb_at-found.ensures.at_least) (simp to_z-of_z at c.tdb_at-found.ensures.at_most) c.tdb_at-found.result.ordered c.tdb_at-found.ensures.narrow c.tdb_at-first.result.ordered in
    let l = simp to_z-of_z at c.ends_from.ensures.low in
    let h = simp to_z-of_z at c.ends_from.ensures.high in
    high_near_of lo c.args.r.hi c.tdb_at-first.result.lo c.tdb_at-first.result.hi c.mirrored-t.result c.tdb_at-found.result.lo c.tdb_at-found.result.hi c.ends_from.result.hi near c.tdb_at-first.result.ordered e close c.tdb_at-found.result.ordered h
