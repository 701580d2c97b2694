use Rattle.std.proofs.Common.{arith}
use Rattle.st_ticks.proofs.SpellingLaws.{digits_begun, digits_more, digits_few}
use Rattle.st_ticks.proofs.spelling.digit_count.Goals as goal

pub loop-rest-init : goal.loop-rest-init
loop-rest-init c = digits_begun c.args.number

pub overflow_add-digits : goal.overflow_add-digits
overflow_add-digits c = omega (arith, c.loop-rest.invariant, digits_few c.args.number (omega arith))

pub loop-rest-preserved : goal.loop-rest-preserved
loop-rest-preserved c = digits_more c.loop-rest.digits c.loop-rest.rest _ (omega arith) c.loop-rest.invariant

pub returns-clause-few : goal.returns-clause-few
returns-clause-few c = omega (arith, c.loop-rest.invariant, digits_few c.args.number (omega arith))
