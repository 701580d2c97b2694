use Rattle.std.proofs.Common.{arith, ap, ◌*◌, ◌/◌, ◌≡◌, ◌^◌, ℕ, sym, ◌∙◌}
use Rattle.st_decimal.proofs.ScalingLaws.{power_some, lowered_over, lowered_part, lowered_whole, lowered_below, small_power}
use Rattle.st_decimal.proofs.scaling.lowered.Goals as goal

pub returns-then-count-gt38 : goal.returns-then-count-gt38
returns-then-count-gt38 c = λ m is. lowered_over c.args.size c.args.count m (omega arith) (omega arith) (omega arith) is

pub pow-divisor-requires : goal.pow-divisor-requires
pow-divisor-requires c = omega (arith, small_power c.args.count (omega arith))

pub nonzero_rem-size : goal.nonzero_rem-size
nonzero_rem-size c = omega (arith, power_some c.args.count)

pub returns-then-size-divisor-ne0 : goal.returns-then-size-divisor-ne0
returns-then-size-divisor-ne0 c = λ m is.
    lowered_part c.args.size c.pow-divisor.result m (omega (arith, power_some c.args.count)) c.if-size-divisor-ne0.true
    (ap (λ (p : ℕ). m * p) c.pow-divisor.ensures ∙ is)

pub returns : goal.returns
returns c =
    let whole : c.args.size / c.pow-divisor.result * 10 ^ c.args.count ≡ c.args.size =
    ap (λ (p : ℕ). c.args.size / c.pow-divisor.result * p) (sym c.pow-divisor.ensures)
    ∙ lowered_whole c.args.size c.pow-divisor.result (omega (arith, power_some c.args.count)) (omega arith) in
    (whole, lowered_below (c.args.size / c.pow-divisor.result) c.args.size c.args.count (omega arith) (omega arith) whole)
