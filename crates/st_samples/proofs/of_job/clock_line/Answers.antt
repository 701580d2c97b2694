use Rattle.std.proofs.Common.{ap, ◌∙◌}
use Rattle.st_samples.specs.Generator.{tick}
use Rattle.st_samples.proofs.FoundClock.{found-gives}
use Rattle.st_samples.proofs.JobLaws.{no-clock-line, tick-line}
use Rattle.st_ticks.specs.Face.{total}
use Rattle.st_samples.proofs.of_job.clock_line.Goals as goal

pub returns-in-Ok-clause-line : goal.returns-in-Ok-clause-line
returns-in-Ok-clause-line c =
    tick-line c.spell_tick.result c.args.job.now c.args.kernels.now.loaded c.args.form c.args.x c.in-Some.n c.tick_of.result c.clock-clock.result.now c.in-Some.is (found-gives c.in-Some.n c.args.kernels.now _ c.clock-clock.result.now c.in-Ok.ensures.found c.clock-clock.ensures)
    (c.tick_of.ensures.value ∙ ap (tick c.args.x) (c.total.ensures.value ∙ ap total c.face.ensures.value)) c.spell_tick.ensures.gives

pub returns-in-Err-clause-line : goal.returns-in-Err-clause-line
returns-in-Err-clause-line c =
    no-clock-line c.refused_line.result c.args.job.now c.args.kernels.now.loaded c.args.form c.args.x c.in-Some.n c.in-Err.fault c.in-Some.is c.in-Err.ensures.gives
    c.refused_line.ensures
