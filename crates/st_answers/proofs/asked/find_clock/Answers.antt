use Rattle.std.proofs.Common.{None, sym, ◌∙◌}
use Rattle.st_answers.proofs.LentLaws.{clock-unlent, finds-clock, found-clock, later-clock, no-clock-asked}
use Rattle.st_answers.proofs.asked.find_clock.Goals as goal

pub returns-in-Some-clause-gives : goal.returns-in-Some-clause-gives
returns-in-Some-clause-gives c =
    finds-clock c.args.job.now c.args.kernels.now.loaded c.in-Some.n c.find_clock.result (sym c.has_clock.ensures ∙ c.if-has_clock.true) c.in-Some.is c.find_clock.ensures.gives

pub returns-in-Some-clause-found : goal.returns-in-Some-clause-found
returns-in-Some-clause-found c = found-clock _ c.in-Some.n _ c.find_clock.result _ _ c.in-Some.is c.find_clock.ensures.found

pub returns-in-Some-clause-later : goal.returns-in-Some-clause-later
returns-in-Some-clause-later c = later-clock c.in-Some.n c.find_clock.result _ _ c.find_clock.ensures.found

pub returns-in_default-clause-gives : goal.returns-in_default-clause-gives
returns-in_default-clause-gives c = (None, clock-unlent c.args.job.now c.args.kernels.now.loaded (sym c.has_clock.ensures ∙ c.if-has_clock.false))

pub returns-in_default-2-clause-gives : goal.returns-in_default-2-clause-gives
returns-in_default-2-clause-gives c =
    (None, clock-unlent c.args.job.now c.args.kernels.now.loaded (no-clock-asked c.args.job.now c.requires c.in_default.is))
