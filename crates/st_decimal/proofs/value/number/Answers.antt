use Rattle.std.proofs.Common.{arith, length, ap, ◌<◌, ◌*◌, ◌^◌, ℕ}
use Rattle.std.proofs.Math.Nat.{one-le-pow}
use Rattle.st_text.proofs.Numbers.{number_of-append}
use Rattle.st_decimal.proofs.ValueCode.{two_pieces, piece_power}
use Rattle.st_decimal.proofs.value.number.Goals as goal

pub pow-requires : goal.pow-requires
pow-requires c = omega (arith, piece_power (length c.args.back.now) (omega arith))

pub overflow_mul-result : goal.overflow_mul-result
overflow_mul-result c =
    let some : 0 < 10 ^ length c.args.back.now = omega (arith, one-le-pow (length c.args.back.now) 10 (omega arith)) in
    let most = two_pieces c.read_wide_digits.result 0 (length c.args.front.now) (length c.args.back.now) c.read_wide_digits.ensures.below some (omega arith) in
    let product = ap (λ (p : ℕ). c.read_wide_digits.result * p) c.pow.ensures in
    omega (arith, most, product)

pub overflow_add-result : goal.overflow_add-result
overflow_add-result c =
    let most = two_pieces c.read_wide_digits.result c.read_wide_digits-2.result (length c.args.front.now) (length c.args.back.now) c.read_wide_digits.ensures.below c.read_wide_digits-2.ensures.below (omega arith) in
    let product = ap (λ (p : ℕ). c.read_wide_digits.result * p) c.pow.ensures in
    omega (arith, most, product)

pub returns-clause-value : goal.returns-clause-value
returns-clause-value c =
    let front = ap (λ (n : ℕ). n * 10 ^ length c.args.back.now) c.read_wide_digits.ensures.value in
    let product = ap (λ (p : ℕ). c.read_wide_digits.result * p) c.pow.ensures in
    omega (arith, number_of-append c.args.front.now c.args.back.now, front, product, c.read_wide_digits-2.ensures.value)

pub returns-clause-below : goal.returns-clause-below
returns-clause-below c =
    let most = two_pieces c.read_wide_digits.result c.read_wide_digits-2.result (length c.args.front.now) (length c.args.back.now) c.read_wide_digits.ensures.below c.read_wide_digits-2.ensures.below (omega arith) in
    let product = ap (λ (p : ℕ). c.read_wide_digits.result * p) c.pow.ensures in
    omega (arith, most, product)
