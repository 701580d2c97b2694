use Rattle.std.proofs.Common.{◌∙◌}
use Rattle.st_leaps.proofs.Casts.{kept128}
use Rattle.st_picture.proofs.ValueLaws.{julian_half, second_half, count_half}
use Rattle.st_picture.proofs.value.half_of.Goals as goal

pub returns-in-Julian-clause-half : goal.returns-in-Julian-clause-half
returns-in-Julian-clause-half c =
    julian_half c.args.unit c.in-Julian.places _ c.requires c.in-Julian.is (kept128 _ c.half_step-in-Julian.type_inv ∙ c.half_step-in-Julian.ensures.value)

pub returns-in-Second-clause-half : goal.returns-in-Second-clause-half
returns-in-Second-clause-half c =
    second_half c.args.unit c.in-Second.places _ c.requires c.in-Second.is (kept128 _ c.half_step.type_inv ∙ c.half_step.ensures.value)

pub returns-in-Count-clause-half : goal.returns-in-Count-clause-half
returns-in-Count-clause-half c =
    count_half c.args.unit c.in-Count.places _ c.requires c.in-Count.is (kept128 _ c.half_step-in-Count.type_inv ∙ c.half_step-in-Count.ensures.value)
