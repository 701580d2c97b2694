use Rattle.std.proofs.Common.{◌≡◌, ℕ, ℤ, pos, ◌*◌, ◌^◌, ◌+ℤ◌, ◌-ℤ◌, ◌*ℤ◌, ◌≤ℤ◌, arith, rules}
use Rattle.std.specs.Int.{w64, w128}
use Rattle.std.specs.Int.RustNames.{FitsSigned}
use Rattle.std.proofs.lemmas.Int.{ints, to_z-of_z}
use Rattle.st_fraction.specs.Fraction.{Fraction, IsFraction, units, LiesWithin}
use Rattle.st_enclosure.specs.Ends.{EndsAtMost}
use Rattle.st_series.specs.Enclosed.{HasSine}
use Rattle.st_sine.proofs.Carried.{has_sine_near, has_sine_low, has_sine_high}
use Rattle.st_sine.proofs.Doubled.{units-fraction}
use Rattle.st_sine.proofs.Reduced.{near_contained}
use Rattle.st_sine.proofs.quarters.sine_of.Goals as goal

pub overflow_sub-arg : goal.overflow_sub-arg
overflow_sub-arg c =
    let al : FitsSigned w128 c.args.arg.lo = search rules in
    let ah : FitsSigned w128 c.args.arg.hi = search rules in
    let o = c.args.arg.ordered in
    let n = c.requires.narrow in
    simp to_z-of_z (omega (arith, ints))

pub widen-requires-2-clause-ends : goal.widen-requires-2-clause-ends
widen-requires-2-clause-ends c =
    let k : FitsSigned w128 c.cost_of-cost.result = search rules in
    let l = simp to_z-of_z at c.widen.ensures.low in
    let h = simp to_z-of_z at c.widen.ensures.high in
    let e = c.sine_after-sine.ensures.ends in
    let el = e.low in
    let eh = e.high in
    let small = c.cost_of-cost.ensures.small in
    record { low = omega (arith, ints); high = omega (arith, ints) }

pub widen-requires-2-clause-by_low : goal.widen-requires-2-clause-by_low
widen-requires-2-clause-by_low c =
    let al : FitsSigned w128 c.args.arg.lo = search rules in
    let ah : FitsSigned w128 c.args.arg.hi = search rules in
    let o = c.args.arg.ordered in
    let n = c.requires.narrow in
    let d : FitsSigned w128 (c.args.arg.hi -ℤ c.args.arg.lo) = omega (arith, ints) in
    simp to_z-of_z (omega (arith, ints))

pub widen-requires-2-clause-by_high : goal.widen-requires-2-clause-by_high
widen-requires-2-clause-by_high c =
    let al : FitsSigned w128 c.args.arg.lo = search rules in
    let ah : FitsSigned w128 c.args.arg.hi = search rules in
    let o = c.args.arg.ordered in
    let n = c.requires.narrow in
    let d : FitsSigned w128 (c.args.arg.hi -ℤ c.args.arg.lo) = omega (arith, ints) in
    simp to_z-of_z (omega (arith, ints))

-- linear steps over plain variables
put_back : (rest angle quarters turns : ℤ) (quarter : ℕ) → rest ≡ angle -ℤ quarters *ℤ pos 1570796326794896619 → quarters ≡ pos 4 *ℤ turns +ℤ pos quarter
    → rest +ℤ (pos 4 *ℤ turns +ℤ pos quarter) *ℤ pos 1570796326794896619 ≡ angle
put_back rest angle quarters turns quarter h k = omega (arith, ints)

twice_down : (a b c k d : ℤ) → b ≡ a -ℤ k → c ≡ b -ℤ d → c ≡ a -ℤ k -ℤ d
twice_down a b c k d h j = omega (arith, ints)

twice_up : (a b c k d : ℤ) → b ≡ a +ℤ k → c ≡ b +ℤ d → c ≡ a +ℤ k +ℤ d
twice_up a b c k d h j = omega (arith, ints)

not_negative : (a : ℤ) (n : ℕ) → a ≡ pos n → pos 0 ≤ℤ a
not_negative a n h = omega (arith, ints)

-- the result, by the sine at the lower end
record IsWidened (lo hi l h al ah : ℤ) : Type 0 where
  cost : ℤ
  low : lo ≡ l -ℤ cost -ℤ (ah -ℤ al)
  high : hi ≡ h +ℤ cost +ℤ (ah -ℤ al)
  cost_low : pos 0 ≤ℤ cost
  cost_high : cost ≤ℤ pos 108162
  sine : HasSine (l -ℤ cost) (h +ℤ cost) (units al)

is_widened : (c : goal.After-widen-2) → IsWidened c.widen-2.result.lo c.widen-2.result.hi c.sine_after-sine.result.lo c.sine_after-sine.result.hi c.args.arg.lo c.args.arg.hi
is_widened c =
    let al : FitsSigned w128 c.args.arg.lo = search rules in
    let ah : FitsSigned w128 c.args.arg.hi = search rules in
    let o = c.args.arg.ordered in
    let n = c.requires.narrow in
    let d : FitsSigned w128 (c.args.arg.hi -ℤ c.args.arg.lo) = omega (arith, ints) in
    let q : FitsSigned w64 c.quarters_in-quarters.result = search rules in
    let t : FitsSigned w64 c.whole_turns-turns.result.0 = search rules in
    let r : FitsSigned w128 c.rest_of.result = search rules in
    let k : FitsSigned w128 c.cost_of-cost.result = search rules in
    let cost = simp to_z-of_z at c.cost_of-cost.ensures.value in
    let rest = simp to_z-of_z at c.rest_of.ensures.value in
    let turns = simp to_z-of_z at c.whole_turns-turns.ensures.value in
    let few = c.whole_turns-turns.ensures.turns in
    let at = simp to_z-of_z at c.sine_after-sine.ensures.sine in
    let i = put_back c.rest_of.result c.args.arg.lo c.quarters_in-quarters.result c.whole_turns-turns.result.0 c.whole_turns-turns.result.1 rest turns in
    let sine = rw (i, ← cost) at (at c.whole_turns-turns.result.0 few) in
    let l1 = simp to_z-of_z at c.widen.ensures.low in
    let h1 = simp to_z-of_z at c.widen.ensures.high in
    let l2 = simp to_z-of_z at c.widen-2.ensures.low in
    let h2 = simp to_z-of_z at c.widen-2.ensures.high in
    let small = c.cost_of-cost.ensures.small in
    record {
      cost = c.cost_of-cost.result;
      low = twice_down c.sine_after-sine.result.lo _ _ c.cost_of-cost.result _ l1 l2;
      high = twice_up c.sine_after-sine.result.hi _ _ c.cost_of-cost.result _ h1 h2;
      cost_low = not_negative _ _ cost;
      cost_high = small;
      sine = sine;
    }

widened_sine : (lo hi l h al ah : ℤ) (x : Fraction) → IsFraction x → al ≤ℤ ah → LiesWithin al ah x → IsWidened lo hi l h al ah → HasSine lo hi x
widened_sine lo hi l h al ah x px order lies w =
    let same : al ≤ℤ al = omega (arith, ints) in
    let near = near_contained al ah al (ah -ℤ al) x same (omega (arith, ints)) order lies in
    rw (w.low, w.high) (has_sine_near (l -ℤ w.cost) (h +ℤ w.cost) (ah -ℤ al) (units al) x (units-fraction al) px near w.sine)

widened_width : (lo hi l h al ah : ℤ) → (h -ℤ l) ≤ℤ pos 50 → IsWidened lo hi l h al ah → (hi -ℤ lo) ≤ℤ (pos 2 *ℤ (ah -ℤ al) +ℤ pos 250000)
widened_width lo hi l h al ah n w = omega (arith, ints, w.low, w.high, w.cost_high)

widened_ends : (lo hi l h al ah : ℤ) → (h -ℤ l) ≤ℤ pos 50 → (ah -ℤ al) ≤ℤ pos (10 ^ 7) → IsWidened lo hi l h al ah → EndsAtMost lo hi (2 * 10 ^ 18)
widened_ends lo hi l h al ah n m w =
    let a = has_sine_low _ _ (units al) (units-fraction al) w.sine in
    let b = has_sine_high _ _ (units al) (units-fraction al) w.sine in
    record { low = omega (arith, ints, a, b, w.low, w.cost_high); high = omega (arith, ints, a, b, w.high, w.cost_high) }

pub returns-clause-sine : goal.returns-clause-sine
returns-clause-sine c x px lies = widened_sine _ _ _ _ c.args.arg.lo c.args.arg.hi x px c.args.arg.ordered lies (is_widened c)

pub returns-clause-narrow : goal.returns-clause-narrow
returns-clause-narrow c = widened_width _ _ _ _ _ _ c.sine_after-sine.ensures.narrow (is_widened c)

pub returns-clause-ends : goal.returns-clause-ends
returns-clause-ends c = widened_ends _ _ _ _ _ _ c.sine_after-sine.ensures.narrow c.requires.narrow (is_widened c)
