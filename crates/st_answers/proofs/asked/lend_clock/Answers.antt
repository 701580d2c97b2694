use Rattle.std.proofs.Common.{sym, ◌∙◌}
use Rattle.st_answers.proofs.LentLaws.{clock-is-some, clock-lent, clock-unlent}
use Rattle.st_answers.proofs.asked.lend_clock.Goals as goal

pub clock-requires : goal.clock-requires
clock-requires c = clock-is-some c.args.job.now c.args.kernels.now c.requires.ready c.requires.found (sym c.has_clock.ensures ∙ c.if-has_clock.true)

pub returns-then-has_clock : goal.returns-then-has_clock
returns-then-has_clock c =
    clock-lent c.args.job.now c.args.kernels.now c.clock.result.now c.requires.ready c.requires.found (sym c.has_clock.ensures ∙ c.if-has_clock.true) c.clock.ensures

pub returns-else-has_clock : goal.returns-else-has_clock
returns-else-has_clock c = clock-unlent c.args.job.now c.args.kernels.now.loaded (sym c.has_clock.ensures ∙ c.if-has_clock.false)
