use Rattle.std.proofs.Common.{◌∙◌}
use Rattle.st_answers.proofs.LentLaws.{clock-refuses, constants-refuse, leaps-refuse}
use Rattle.st_answers.proofs.asked.find_tables.Goals as goal

pub returns-in_err-find_leaps-clause-err : goal.returns-in_err-find_leaps-clause-err
returns-in_err-find_leaps-clause-err c =
    leaps-refuse c.args.job.now c.args.kernels.now.loaded c.in_err-find_leaps.field-0.0 c.from_residual.result c.from_residual.ensures.1 c.in_err-find_leaps.ensures.gives

pub returns-in_err-find_constants-clause-err : goal.returns-in_err-find_constants-clause-err
returns-in_err-find_constants-clause-err c =
    constants-refuse c.args.job.now c.args.kernels.now.loaded _ c.in_err-find_constants.field-0.0 c.from_residual-in_err-find_constants.result
    c.in_ok-find_leaps.ensures.later.loaded c.from_residual-in_err-find_constants.ensures.1 c.in_ok-find_leaps.ensures.gives c.in_err-find_constants.ensures.gives

pub returns-clause-err : goal.returns-clause-err
returns-clause-err c =
    clock-refuses c.args.job.now c.args.kernels.now.loaded _ _ c.find_clock.result c.in_ok-find_leaps.ensures.later.loaded
    (c.in_ok-find_constants.ensures.later.loaded ∙ c.in_ok-find_leaps.ensures.later.loaded) c.in_ok-find_leaps.ensures.gives c.in_ok-find_constants.ensures.gives
    c.find_clock.ensures.gives
