use Rattle.std.proofs.Common.{rules, arith, refl, length, take, drop, ◌-◌}
use Rattle.st_dates.proofs.DecimalLaws.{scaled}
use Rattle.st_dates.proofs.decimals.find_decimals.Goals as goal

pub overflow_mul-result : goal.overflow_mul-result
overflow_mul-result c =
    let text = c.args.text.now in
    let run = c.is_digit_run.ensures.run.0 (search rules) in
    omega (arith, scaled c.read_digits.result c.read_digits.result c.pow.result (length (take (length text - 1) (drop 1 text))) refl c.read_digits.ensures.below c.pow.ensures run.at_most)

pub returns-in-46-clause-below : goal.returns-in-46-clause-below
returns-in-46-clause-below c =
    let text = c.args.text.now in
    let run = c.is_digit_run.ensures.run.0 (search rules) in
    scaled c.read_digits.result c.read_digits.result c.pow.result (length (take (length text - 1) (drop 1 text))) refl c.read_digits.ensures.below c.pow.ensures run.at_most
