use Rattle.std.proofs.Common.{pos, ℤ, ◌+ℤ◌, ◌-ℤ◌, ◌*ℤ◌, ◌≤ℤ◌, ◌<ℤ◌, inl, inr, refl, arith, rules}
use Rattle.std.specs.Int.{w128}
use Rattle.std.specs.Int.RustNames.{FitsSigned}
use Rattle.std.proofs.lemmas.Int.{to_z-of_z}
use Rattle.st_fraction.proofs.Ring.{lin}
use Rattle.st_enclosure.specs.Ends.{IsEither}
use Rattle.st_enclosure.proofs.Contained.{times_lies, ends_in_order, in_order_up, in_order_down, negative, not_negative}
use Rattle.st_enclosure.proofs.enclosure.Enc.times_fraction.Goals as goal
use Rattle.st_enclosure.proofs.enclosure.Enc.times_fraction.Goals.{then-num-lt0, else-num-lt0}

-- the ends of the result against those of the argument times y
record Facts (al ah y d lo hi : ℤ) : Type 0 where
  l1 : (lo *ℤ d) ≤ℤ (al *ℤ y)
  l2 : (lo *ℤ d) ≤ℤ (ah *ℤ y)
  h1 : (al *ℤ y) ≤ℤ (hi *ℤ d)
  h2 : (ah *ℤ y) ≤ℤ (hi *ℤ d)
  low : (e : ℤ) × (IsEither al ah e × ((e *ℤ y) <ℤ ((lo +ℤ pos 1) *ℤ d)))
  high : (e : ℤ) × (IsEither al ah e × (((hi -ℤ pos 1) *ℤ d) <ℤ (e *ℤ y)))

facts : (c : goal.After-result-1) → Facts c.args.self.lo c.args.self.hi c.args.num c.args.den c.if-num-lt0.result.0 c.if-num-lt0.result.1.0
facts c =
    let al : FitsSigned w128 c.args.self.lo = search rules in
    let ah : FitsSigned w128 c.args.self.hi = search rules in
    let y = c.ranges.num in
    let d = c.ranges.den in
    elim c.if-num-lt0.branch [
      | then-num-lt0 w ↦
          let lo : FitsSigned w128 w.floor_scaled.result = search rules in
          let hi : FitsSigned w128 w.ceil_scaled.result = search rules in
          let s : c.args.num ≤ℤ pos 0 = negative c.args.num (simp to_z-of_z at w.if-num-lt0.true) in
          let o = in_order_down c.args.self.lo c.args.self.hi c.args.num c.args.self.ordered s in
          let a = simp to_z-of_z at w.floor_scaled.ensures.below in
          let a2 = simp to_z-of_z at w.floor_scaled.ensures.above in
          let b = simp to_z-of_z at w.ceil_scaled.ensures.above in
          let b2 = simp to_z-of_z at w.ceil_scaled.ensures.below in
          rw w.result-is (simp to_z-of_z (record {
            l1 = omega (arith, lin);
            l2 = a;
            h1 = b;
            h2 = omega (arith, lin);
            low = (c.args.self.hi, (inr refl, a2));
            high = (c.args.self.lo, (inl refl, b2));
          }))
      | else-num-lt0 w ↦
          let lo : FitsSigned w128 w.floor_scaled-else-num-lt0.result = search rules in
          let hi : FitsSigned w128 w.ceil_scaled-else-num-lt0.result = search rules in
          let s : pos 0 ≤ℤ c.args.num = not_negative c.args.num (simp to_z-of_z at w.if-num-lt0.false) in
          let o = in_order_up c.args.self.lo c.args.self.hi c.args.num c.args.self.ordered s in
          let a = simp to_z-of_z at w.floor_scaled-else-num-lt0.ensures.below in
          let a2 = simp to_z-of_z at w.floor_scaled-else-num-lt0.ensures.above in
          let b = simp to_z-of_z at w.ceil_scaled-else-num-lt0.ensures.above in
          let b2 = simp to_z-of_z at w.ceil_scaled-else-num-lt0.ensures.below in
          rw w.result-is (simp to_z-of_z (record {
            l1 = a;
            l2 = omega (arith, lin);
            h1 = omega (arith, lin);
            h2 = b;
            low = (c.args.self.lo, (inl refl, a2));
            high = (c.args.self.hi, (inr refl, b2));
          }))
    ]

pub invariant_of-result : goal.invariant_of-result
invariant_of-result c =
    let al : FitsSigned w128 c.args.self.lo = search rules in
    let ah : FitsSigned w128 c.args.self.hi = search rules in
    let y = c.ranges.num in
    let d = c.ranges.den in
    elim c.if-num-lt0.branch [
      | then-num-lt0 w ↦
          let lo : FitsSigned w128 w.floor_scaled.result = search rules in
          let hi : FitsSigned w128 w.ceil_scaled.result = search rules in
          let s : c.args.num ≤ℤ pos 0 = negative c.args.num (simp to_z-of_z at w.if-num-lt0.true) in
          let o = in_order_down c.args.self.lo c.args.self.hi c.args.num c.args.self.ordered s in
          let a = simp to_z-of_z at w.floor_scaled.ensures.below in
          let b = simp to_z-of_z at w.ceil_scaled.ensures.above in
          rw w.result-is (simp to_z-of_z (record { ordered = ends_in_order w.floor_scaled.result w.ceil_scaled.result (c.args.self.hi *ℤ c.args.num) c.args.den c.requires.den_low a (omega (arith, lin)) }))
      | else-num-lt0 w ↦
          let lo : FitsSigned w128 w.floor_scaled-else-num-lt0.result = search rules in
          let hi : FitsSigned w128 w.ceil_scaled-else-num-lt0.result = search rules in
          let s : pos 0 ≤ℤ c.args.num = not_negative c.args.num (simp to_z-of_z at w.if-num-lt0.false) in
          let o = in_order_up c.args.self.lo c.args.self.hi c.args.num c.args.self.ordered s in
          let a = simp to_z-of_z at w.floor_scaled-else-num-lt0.ensures.below in
          let b = simp to_z-of_z at w.ceil_scaled-else-num-lt0.ensures.above in
          rw w.result-is (simp to_z-of_z (record { ordered = ends_in_order w.floor_scaled-else-num-lt0.result w.ceil_scaled-else-num-lt0.result (c.args.self.lo *ℤ c.args.num) c.args.den c.requires.den_low a (omega (arith, lin)) }))
    ]

pub returns-clause-contains : goal.returns-clause-contains
returns-clause-contains c x h =
    let f = facts c in
    times_lies c.if-num-lt0.result.0 c.if-num-lt0.result.1.0 c.args.self.lo c.args.self.hi c.args.num c.args.den x c.requires.den_low f.l1 f.l2 f.h1 f.h2 h

pub returns-clause-tight_low : goal.returns-clause-tight_low
returns-clause-tight_low c = (facts c).low

pub returns-clause-tight_high : goal.returns-clause-tight_high
returns-clause-tight_high c = (facts c).high
