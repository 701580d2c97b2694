use Rattle.st_clock.proofs.PartLaws.{scale_answer_is_one}
use Rattle.st_clock.proofs.system.check_system.Goals as goal

pub returns-clause-only : goal.returns-clause-only
returns-clause-only c =
    λ answer h. scale_answer_is_one c.args.data_type.now c.args.time_system.now c.judged.result answer c.judged.ensures h
