use Rattle.std.proofs.Common.{◌≡◌, ℕ, ◌+◌, ◌*◌, ◌≤◌, ◌<◌, pos, ◌-ℤ◌, ◌⊎◌, inl, inr, add-one, arith, rules, mul-le-mul}
use Rattle.std.specs.Int.{w128}
use mir.Val.{to_z}
use Rattle.std.specs.Int.RustNames.{FitsSigned}
use Rattle.std.proofs.lemmas.Int.{ints, to_z-of_z, to_z_pos}
use Rattle.st_series.proofs.Rounded.{divisor, small_so_far, sums_start, sums_next, sums_done}
use Rattle.st_series.proofs.small.alternating_sum.Goals as goal

-- the divisor, cast to a signed number
divisor_plain : (k i : ℕ) → k ≤ 1 → i < 13 → to_z w128 ((2 * i + k + 1) * (2 * i + k + 2)) ≡ pos ((2 * i + k + 1) * (2 * i + k + 2))
divisor_plain k i hk hi =
    let a : 2 * i + k + 1 ≤ 28 = omega arith in
    let b : 2 * i + k + 2 ≤ 29 = omega arith in
    to_z_pos w128 ((2 * i + k + 1) * (2 * i + k + 2)) (omega (arith, mul-le-mul a b))

at_most_13 : (turns : ℕ) → (turns ≡ 9) ⊎ (turns ≡ 13) → turns ≤ 13
at_most_13 turns t = elim t [ inl e ↦ omega arith | inr e ↦ omega arith ]

below_13 : (turns i : ℕ) → (turns ≡ 9) ⊎ (turns ≡ 13) → i < turns → i < 13
below_13 turns i t h = let m = at_most_13 turns t in omega arith

pub loop-i-init : goal.loop-i-init
loop-i-init c =
    let f = c.ranges.first in
    let q = c.ranges.square in
    simp to_z-of_z (sums_start c.args.first c.args.square c.args.degree)

pub next_term-term-requires-clause-term : goal.next_term-term-requires-clause-term
next_term-term-requires-clause-term c =
    let f = c.ranges.first in
    let q = c.ranges.square in
    let inv = simp to_z-of_z at c.loop-i.invariant in
    let s = small_so_far c.args.first c.args.square c.args.degree c.loop-i.i _ _ c.requires.degree c.requires.first c.requires.square_low c.requires.square_high inv in
    s.term_small

pub next_term-term-requires-clause-product : goal.next_term-term-requires-clause-product
unfolding divisor
next_term-term-requires-clause-product c =
    let f = c.ranges.first in
    let q = c.ranges.square in
    let inv = simp to_z-of_z at c.loop-i.invariant in
    let s = small_so_far c.args.first c.args.square c.args.degree c.loop-i.i _ _ c.requires.degree c.requires.first c.requires.square_low c.requires.square_high inv in
    let d = divisor_plain c.args.degree c.loop-i.i c.requires.degree (below_13 c.args.turns c.loop-i.i c.requires.turns c.loop-i-test.true) in
    let n = s.fits in
    simp to_z-of_z (rw d n)

pub overflow_sub-sum : goal.overflow_sub-sum
overflow_sub-sum c =
    let f = c.ranges.first in
    let q = c.ranges.square in
    let inv = simp to_z-of_z at c.loop-i.invariant in
    let s = small_so_far c.args.first c.args.square c.args.degree c.loop-i.i _ _ c.requires.degree c.requires.first c.requires.square_low c.requires.square_high inv in
    let n = s.sum_small in
    let t : FitsSigned w128 c.next_term-term.result = search rules in
    let m = c.next_term-term.ensures.small in
    simp to_z-of_z (omega (arith, ints))

pub loop-i-preserved : goal.loop-i-preserved
loop-i-preserved c =
    let f = c.ranges.first in
    let q = c.ranges.square in
    let inv = simp to_z-of_z at c.loop-i.invariant in
    let s = small_so_far c.args.first c.args.square c.args.degree c.loop-i.i _ _ c.requires.degree c.requires.first c.requires.square_low c.requires.square_high inv in
    let n = s.sum_small in
    let t : FitsSigned w128 c.next_term-term.result = search rules in
    let m = c.next_term-term.ensures.small in
    let d = divisor_plain c.args.degree c.loop-i.i c.requires.degree (below_13 c.args.turns c.loop-i.i c.requires.turns c.loop-i-test.true) in
    let v = simp to_z-of_z at c.next_term-term.ensures.value in
    let fits : FitsSigned w128 (c.next_term-term.result -ℤ to_z w128 c.loop-i.sum-bits) = omega (arith, ints) in
    simp to_z-of_z (rw add-one (sums_next c.args.first c.args.square c.args.degree c.loop-i.i _ _ c.next_term-term.result inv (rw d at v)))

pub overflow_sub-result : goal.overflow_sub-result
overflow_sub-result c =
    let f = c.ranges.first in
    let q = c.ranges.square in
    let e : c.loop-i.i ≡ c.args.turns = omega arith in
    let most = at_most_13 c.args.turns c.requires.turns in
    let inv = simp to_z-of_z at c.loop-i.invariant in
    let s = small_so_far c.args.first c.args.square c.args.degree c.loop-i.i _ _ c.requires.degree c.requires.first c.requires.square_low c.requires.square_high inv in
    let n = s.sum_small in
    omega (arith, ints)

pub returns-clause-value : goal.returns-clause-value
returns-clause-value c =
    let f = c.ranges.first in
    let q = c.ranges.square in
    let e : c.loop-i.i ≡ c.args.turns = omega arith in
    let most = at_most_13 c.args.turns c.requires.turns in
    let inv = simp to_z-of_z at c.loop-i.invariant in
    let s = small_so_far c.args.first c.args.square c.args.degree c.loop-i.i _ _ c.requires.degree c.requires.first c.requires.square_low c.requires.square_high inv in
    let n = s.sum_small in
    let last = rw e at inv in
    let fits : FitsSigned w128 (pos 0 -ℤ to_z w128 c.loop-i.sum-bits) = omega (arith, ints) in
    simp to_z-of_z (sums_done c.args.first c.args.square c.args.degree c.args.turns _ _ c.requires.turns last)

pub returns-clause-small : goal.returns-clause-small
returns-clause-small c =
    let f = c.ranges.first in
    let q = c.ranges.square in
    let e : c.loop-i.i ≡ c.args.turns = omega arith in
    let most = at_most_13 c.args.turns c.requires.turns in
    let inv = simp to_z-of_z at c.loop-i.invariant in
    let s = small_so_far c.args.first c.args.square c.args.degree c.loop-i.i _ _ c.requires.degree c.requires.first c.requires.square_low c.requires.square_high inv in
    let n = s.sum_small in
    let fits : FitsSigned w128 (pos 0 -ℤ to_z w128 c.loop-i.sum-bits) = omega (arith, ints) in
    simp to_z-of_z (omega (arith, ints))
