use Rattle.std.proofs.Common.{◌^◌, pos, negsuc, ℤ, ◌+ℤ◌, ◌-ℤ◌, ◌*ℤ◌, ◌≤ℤ◌, ◌<ℤ◌, arith, rules}
use Rattle.std.specs.Int.{w128}
use Rattle.std.specs.Int.RustNames.{FitsSigned}
use Rattle.std.proofs.lemmas.Int.{ints, to_z-of_z}
use Rattle.st_fraction.proofs.Ring.{lin}
use Rattle.st_enclosure.specs.Ends.{IsProductOfEnds}
use Rattle.st_enclosure.specs.declared.rounding.TheConstants.{UNIT}
use Rattle.st_enclosure.proofs.Contained.{product_lies, ends_in_order, one_of}
use Rattle.st_enclosure.proofs.enclosure.Enc.mul_unit.Goals as goal

pub floor_unit-requires-clause-low : goal.floor_unit-requires-clause-low
floor_unit-requires-clause-low c =
    let f : FitsSigned w128 c.least.result = search rules in
    let P : ℤ → Type 0 = λ z. negsuc 99999999999999999999999999999999999999 ≤ℤ z in
    simp to_z-of_z (one_of P c.least.ensures.reached (omega (arith, ints)) (omega (arith, ints)) (omega (arith, ints)) (omega (arith, ints)))

pub floor_unit-requires-clause-high : goal.floor_unit-requires-clause-high
floor_unit-requires-clause-high c = let h = c.least.ensures.at_most_a in omega (arith, ints)

pub ceil_unit-requires-clause-low : goal.ceil_unit-requires-clause-low
ceil_unit-requires-clause-low c = let h = c.greatest.ensures.at_least_a in omega (arith, ints)

pub ceil_unit-requires-clause-high : goal.ceil_unit-requires-clause-high
ceil_unit-requires-clause-high c =
    let f : FitsSigned w128 c.greatest.result = search rules in
    let P : ℤ → Type 0 = λ z. z ≤ℤ pos (10 ^ 38) in
    simp to_z-of_z (one_of P c.greatest.ensures.reached (omega (arith, ints)) (omega (arith, ints)) (omega (arith, ints)) (omega (arith, ints)))

pub invariant_of-result : goal.invariant_of-result
invariant_of-result c =
    let l : FitsSigned w128 c.least.result = search rules in
    let g : FitsSigned w128 c.greatest.result = search rules in
    let lo : FitsSigned w128 c.floor_unit.result = search rules in
    let hi : FitsSigned w128 c.ceil_unit.result = search rules in
    let b = simp to_z-of_z at c.floor_unit.ensures.below in
    let a = simp to_z-of_z at c.ceil_unit.ensures.above in
    let m : c.least.result ≤ℤ c.greatest.result = omega (arith, lin, c.least.ensures.at_most_a, c.greatest.ensures.at_least_a) in
    simp to_z-of_z (record { ordered = ends_in_order c.floor_unit.result c.ceil_unit.result c.least.result (pos (10 ^ 18)) (omega (arith, ints)) b (omega (arith, lin)) })

-- the ends of the result against the four products, with no cast
record Facts (al ah bl bh lo hi : ℤ) : Type 0 where
  l1 : (lo *ℤ pos (10 ^ 18)) ≤ℤ (al *ℤ bl)
  l2 : (lo *ℤ pos (10 ^ 18)) ≤ℤ (al *ℤ bh)
  l3 : (lo *ℤ pos (10 ^ 18)) ≤ℤ (ah *ℤ bl)
  l4 : (lo *ℤ pos (10 ^ 18)) ≤ℤ (ah *ℤ bh)
  g1 : (al *ℤ bl) ≤ℤ (hi *ℤ pos (10 ^ 18))
  g2 : (al *ℤ bh) ≤ℤ (hi *ℤ pos (10 ^ 18))
  g3 : (ah *ℤ bl) ≤ℤ (hi *ℤ pos (10 ^ 18))
  g4 : (ah *ℤ bh) ≤ℤ (hi *ℤ pos (10 ^ 18))
  low : (m : ℤ) × (IsProductOfEnds al ah bl bh m × (m <ℤ ((lo +ℤ pos 1) *ℤ UNIT)))
  high : (m : ℤ) × (IsProductOfEnds al ah bl bh m × (((hi -ℤ pos 1) *ℤ UNIT) <ℤ m))

facts : (c : goal.After-result-1) → Facts c.args.self.lo c.args.self.hi c.args.other.lo c.args.other.hi c.floor_unit.result c.ceil_unit.result
facts c =
    let al : FitsSigned w128 c.args.self.lo = search rules in
    let ah : FitsSigned w128 c.args.self.hi = search rules in
    let bl : FitsSigned w128 c.args.other.lo = search rules in
    let bh : FitsSigned w128 c.args.other.hi = search rules in
    let pa : FitsSigned w128 c.product-a.result = search rules in
    let pb : FitsSigned w128 c.product-b.result = search rules in
    let pc : FitsSigned w128 c.product-c.result = search rules in
    let pd : FitsSigned w128 c.product-d.result = search rules in
    let lf : FitsSigned w128 c.least.result = search rules in
    let gf : FitsSigned w128 c.greatest.result = search rules in
    let a = simp to_z-of_z at c.product-a.ensures.value in
    let b = simp to_z-of_z at c.product-b.ensures.value in
    let d = simp to_z-of_z at c.product-c.ensures.value in
    let e = simp to_z-of_z at c.product-d.ensures.value in
    let l1 = simp to_z-of_z at c.least.ensures.at_most_a in
    let l2 = simp to_z-of_z at c.least.ensures.at_most_b in
    let l3 = simp to_z-of_z at c.least.ensures.at_most_c in
    let l4 = simp to_z-of_z at c.least.ensures.at_most_d in
    let g1 = simp to_z-of_z at c.greatest.ensures.at_least_a in
    let g2 = simp to_z-of_z at c.greatest.ensures.at_least_b in
    let g3 = simp to_z-of_z at c.greatest.ensures.at_least_c in
    let g4 = simp to_z-of_z at c.greatest.ensures.at_least_d in
    let lr = simp to_z-of_z at c.least.ensures.reached in
    let gr = simp to_z-of_z at c.greatest.ensures.reached in
    let down = simp to_z-of_z at c.floor_unit.ensures.below in
    let down_near = simp to_z-of_z at c.floor_unit.ensures.above in
    let up = simp to_z-of_z at c.ceil_unit.ensures.above in
    let up_near = simp to_z-of_z at c.ceil_unit.ensures.below in
    record {
      l1 = omega (arith, lin);
      l2 = omega (arith, lin);
      l3 = omega (arith, lin);
      l4 = omega (arith, lin);
      g1 = omega (arith, lin);
      g2 = omega (arith, lin);
      g3 = omega (arith, lin);
      g4 = omega (arith, lin);
      low = (c.least.result, (rw (a, b, d, e) at lr, down_near));
      high = (c.greatest.result, (rw (a, b, d, e) at gr, up_near));
    }

pub returns-clause-contains : goal.returns-clause-contains
returns-clause-contains c x y h k =
    let lo : FitsSigned w128 c.floor_unit.result = search rules in
    let hi : FitsSigned w128 c.ceil_unit.result = search rules in
    let f = facts c in
    simp to_z-of_z (product_lies _ _ c.args.self.lo c.args.self.hi c.args.other.lo c.args.other.hi x y f.l1 f.l2 f.l3 f.l4 f.g1 f.g2 f.g3 f.g4 h k)

pub returns-clause-tight_low : goal.returns-clause-tight_low
returns-clause-tight_low c =
    let lo : FitsSigned w128 c.floor_unit.result = search rules in
    simp to_z-of_z ((facts c).low)

pub returns-clause-tight_high : goal.returns-clause-tight_high
returns-clause-tight_high c =
    let hi : FitsSigned w128 c.ceil_unit.result = search rules in
    simp to_z-of_z ((facts c).high)
