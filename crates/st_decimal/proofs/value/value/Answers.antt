use Rattle.std.proofs.Common.{arith, rules, ap, sym, ◌∙◌, ◌≡◌, ◌++◌, ◌-◌, ◌+◌, ℕ, ℤ, pos, ◌+ℤ◌, ◌-ℤ◌, List, length, length-append}
use Rattle.std.proofs.lemmas.Int.{to_z-of_z}
use Rattle.std.specs.Int.{w32, w128}
use Rattle.st_text.specs.Bytes.{are_digits, number_of}
use Rattle.st_decimal.specs.Value.{signed, skip_zeros, without_end_zeros}
use Rattle.st_decimal.proofs.ValueCode.{value_some, end_shorter, skip_digits, end_digits, both_digits, front_digits, back_digits, exponent_known, same_dec}
use Rattle.st_decimal.proofs.value.value.Goals as goal

pub overflow_sub-dropped : goal.overflow_sub-dropped
overflow_sub-dropped c =
    let all : List ℕ = c.args.pieces.now.whole.now ++ c.args.pieces.now.decimals.now in
    let count = ap length c.without_end_zeros.ensures in
    omega (arith, length-append c.without_end_zeros.result.0.now c.without_end_zeros.result.1.now, count, end_shorter all, length-append c.args.pieces.now.whole.now c.args.pieces.now.decimals.now)

pub number-requires-clause-front : goal.number-requires-clause-front
number-requires-clause-front c =
    let all : List ℕ = c.args.pieces.now.whole.now ++ c.args.pieces.now.decimals.now in
    let digits = both_digits c.args.pieces.now.whole.now c.args.pieces.now.decimals.now c.requires.whole c.requires.decimals in
    let core = c.skip_zeros.ensures ∙ ap skip_zeros c.without_end_zeros.ensures in
    front_digits c.skip_zeros.result.0.now c.skip_zeros.result.1.now (ap are_digits core ∙ skip_digits (without_end_zeros all) (end_digits all digits))

pub number-requires-clause-back : goal.number-requires-clause-back
number-requires-clause-back c =
    let all : List ℕ = c.args.pieces.now.whole.now ++ c.args.pieces.now.decimals.now in
    let digits = both_digits c.args.pieces.now.whole.now c.args.pieces.now.decimals.now c.requires.whole c.requires.decimals in
    let core = c.skip_zeros.ensures ∙ ap skip_zeros c.without_end_zeros.ensures in
    back_digits c.skip_zeros.result.0.now c.skip_zeros.result.1.now (ap are_digits core ∙ skip_digits (without_end_zeros all) (end_digits all digits))

pub returns : goal.returns
returns c =
    let w : List ℕ = c.args.pieces.now.whole.now in
    let d : List ℕ = c.args.pieces.now.decimals.now in
    let e : List ℕ = c.args.pieces.now.exponent.now in
    let core = c.skip_zeros.ensures ∙ ap skip_zeros c.without_end_zeros.ensures in
    let size = length-append c.skip_zeros.result.0.now c.skip_zeros.result.1.now in
    let significant_size = ap length core in
    let raised = exponent_known (number_of e) c.in-Some.exponent (signed c.args.pieces.now.exponent_negative (number_of e)) (sym c.exponent.ensures.value ∙ c.in-Some.is) in
    let digits = to_z-of_z w128 c.signed.result (search rules) ∙ c.signed.ensures
    ∙ ap (λ (n : ℕ). signed c.args.pieces.now.negative n) (c.number.ensures.value ∙ ap number_of core) in
    let dropped : length w + length d - (length c.without_end_zeros.result.0.now + length c.without_end_zeros.result.1.now) ≡ length (w ++ d) - length (without_end_zeros (w ++ d)) =
    omega (arith, length-append w d, length-append c.without_end_zeros.result.0.now c.without_end_zeros.result.1.now, ap length c.without_end_zeros.ensures) in
    let tens = to_z-of_z w32 c.last_tens.result (search rules) ∙ c.last_tens.ensures
    ∙ ap (λ (z : ℤ). (z -ℤ pos (length d)) +ℤ pos (length w + length d - (length c.without_end_zeros.result.0.now + length c.without_end_zeros.result.1.now))) (to_z-of_z w128 c.in-Some.exponent (search rules) ∙ raised.1)
    ∙ ap (λ (n : ℕ). (signed c.args.pieces.now.exponent_negative (number_of e) -ℤ pos (length d)) +ℤ pos n) dropped in
    same_dec _ _ _ _ digits tens
    ∙ sym (value_some c.args.pieces.now.negative c.args.pieces.now.exponent_negative w d e (omega (arith, size, significant_size)) raised.0 (omega (arith, size, significant_size)))
