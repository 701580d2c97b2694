use Rattle.std.proofs.Common.{ap, arith, sym, ◌∙◌, List, ℕ, length}
use Rattle.st_text.specs.Bytes.{are_digits}
use Rattle.st_decimal.proofs.Answered.{pieces_fit}
use Rattle.st_decimal.proofs.read.read.Goals as goal

pub value-requires-clause-whole : goal.value-requires-clause-whole
value-requires-clause-whole c =
    let fit = pieces_fit c.args.text.now (sym c.number_stop.ensures ∙ c.in_default.is) in
    ap (λ (xs : List ℕ). are_digits xs) c.split.ensures.whole ∙ fit.0

pub value-requires-clause-decimals : goal.value-requires-clause-decimals
value-requires-clause-decimals c =
    let fit = pieces_fit c.args.text.now (sym c.number_stop.ensures ∙ c.in_default.is) in
    ap (λ (xs : List ℕ). are_digits xs) c.split.ensures.decimals ∙ fit.1

pub value-requires-clause-exponent : goal.value-requires-clause-exponent
value-requires-clause-exponent c =
    let fit = pieces_fit c.args.text.now (sym c.number_stop.ensures ∙ c.in_default.is) in
    ap (λ (xs : List ℕ). are_digits xs) c.split.ensures.exponent ∙ fit.2

pub value-requires-clause-short : goal.value-requires-clause-short
value-requires-clause-short c =
    let fit = pieces_fit c.args.text.now (sym c.number_stop.ensures ∙ c.in_default.is) in
    omega (arith, fit.3, ap (λ (xs : List ℕ). length xs) c.split.ensures.whole, ap (λ (xs : List ℕ). length xs) c.split.ensures.decimals)
