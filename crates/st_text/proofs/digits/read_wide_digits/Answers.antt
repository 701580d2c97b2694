use Rattle.std.proofs.Common.{arith, rules, ◌≡◌, true}
use Rattle.st_text.specs.Bytes.{are_digits}
use Rattle.st_text.proofs.Numbers.{digit_at, number_of-take_more, more_below, wide_room}
use Rattle.st_text.proofs.digits.read_wide_digits.Goals as goal

pub overflow_mul-number : goal.overflow_mul-number
overflow_mul-number c = omega (arith, wide_room c.loop-byte.byte-index (omega arith))

pub overflow_add-number : goal.overflow_add-number
overflow_add-number c =
    let digits : are_digits c.args.text.now ≡ true = search rules in
    let small = digit_at c.args.text.now c.loop-byte.byte-index (omega arith) digits in
    omega (arith, wide_room c.loop-byte.byte-index (omega arith))

pub loop-byte-preserved : goal.loop-byte-preserved
loop-byte-preserved c =
    let digits : are_digits c.args.text.now ≡ true = search rules in
    let small = digit_at c.args.text.now c.loop-byte.byte-index (omega arith) digits in
    let step = number_of-take_more c.args.text.now c.loop-byte.byte-index (omega arith) in
    record {
      value = omega arith;
      below = more_below c.loop-byte.number c.from.result c.loop-byte.byte-index (omega arith) (omega arith);
    }
