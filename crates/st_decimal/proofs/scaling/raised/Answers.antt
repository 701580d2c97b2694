use Rattle.std.proofs.Common.{arith, ap, ◌*◌, ◌-◌, ℕ}
use Rattle.st_decimal.proofs.ScalingLaws.{raised_over, raised_most, raised_below, small_power}
use Rattle.st_decimal.proofs.scaling.raised.Goals as goal

pub returns-then-count-gt37 : goal.returns-then-count-gt37
returns-then-count-gt37 c = raised_over c.args.size c.args.count (omega arith) (omega arith)

pub pow-requires : goal.pow-requires
pow-requires c = omega (arith, small_power (38 - c.args.count) (omega arith))

pub returns-then-size-pow : goal.returns-then-size-pow
returns-then-size-pow c = raised_most c.args.size c.args.count (omega arith) (omega arith)

pub pow-requires-2 : goal.pow-requires-2
pow-requires-2 c = omega (arith, small_power c.args.count (omega arith))

pub overflow_mul-result : goal.overflow_mul-result
overflow_mul-result c =
    let below = raised_below c.args.size c.args.count (omega arith) (omega arith) in
    omega (arith, below, ap (λ (p : ℕ). c.args.size * p) c.pow-2.ensures)

pub returns : goal.returns
returns c =
    let below = raised_below c.args.size c.args.count (omega arith) (omega arith) in
    let same = ap (λ (p : ℕ). c.args.size * p) c.pow-2.ensures in
    (same, omega (arith, below, same))
