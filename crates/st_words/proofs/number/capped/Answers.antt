use Rattle.std.proofs.Common.{arith}
use Rattle.st_text.proofs.Numbers.{number_of-take_more}
use Rattle.st_words.proofs.number.capped.Goals as goal

pub loop-digit-preserved : goal.loop-digit-preserved
loop-digit-preserved c =
    let step = number_of-take_more c.args.digits.now c.loop-digit.digit-index (omega arith) in
    omega (arith, step)
