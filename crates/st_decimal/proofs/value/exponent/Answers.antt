use Rattle.std.proofs.Common.{arith, rules, ap, ◌∙◌, ◌≡◌, true, ℕ, ℤ, length, Some}
use Rattle.std.proofs.lemmas.Int.{to_z-of_z}
use Rattle.std.specs.Int.{w128}
use Rattle.st_text.specs.Bytes.{are_digits, number_of}
use Rattle.st_decimal.specs.Value.{signed}
use Rattle.st_decimal.proofs.ValueCode.{many_digits, skip_digits, exponent_none, exponent_some}
use Rattle.st_decimal.proofs.ZeroDigits.{number_of-skip_zeros}
use Rattle.st_decimal.proofs.value.exponent.Goals as goal

pub returns-then-digits-gt3 : goal.returns-then-digits-gt3
returns-then-digits-gt3 c =
    let digits : are_digits c.args.digits.now ≡ true = search rules in
    let count = ap length c.drop_zeros-digits.ensures in
    let many = many_digits c.args.digits.now digits (omega arith) in
    record { value = exponent_none (number_of c.args.digits.now) (signed c.args.negative (number_of c.args.digits.now)) (omega (arith, number_of-skip_zeros c.args.digits.now)) }

pub read_digits-size-requires-clause-digits : goal.read_digits-size-requires-clause-digits
read_digits-size-requires-clause-digits c =
    let digits : are_digits c.args.digits.now ≡ true = search rules in
    let left : are_digits c.drop_zeros-digits.result.now ≡ true = ap are_digits c.drop_zeros-digits.ensures ∙ skip_digits c.args.digits.now digits in
    search rules

pub returns-then-size-gt-MOST_EXPONENT : goal.returns-then-size-gt-MOST_EXPONENT
returns-then-size-gt-MOST_EXPONENT c =
    let size = c.read_digits-size.ensures.value ∙ ap number_of c.drop_zeros-digits.ensures ∙ number_of-skip_zeros c.args.digits.now in
    record { value = exponent_none (number_of c.args.digits.now) (signed c.args.negative (number_of c.args.digits.now)) (omega (arith, size)) }

pub returns : goal.returns
returns c =
    let size = c.read_digits-size.ensures.value ∙ ap number_of c.drop_zeros-digits.ensures ∙ number_of-skip_zeros c.args.digits.now in
    let same = to_z-of_z w128 c.signed.result (search rules) ∙ c.signed.ensures ∙ ap (λ (n : ℕ). signed c.args.negative n) (c.from.ensures ∙ size) in
    record {
      value = ap (λ (z : ℤ). Some z) same ∙ exponent_some (number_of c.args.digits.now) (signed c.args.negative (number_of c.args.digits.now)) (omega (arith, size));
    }
