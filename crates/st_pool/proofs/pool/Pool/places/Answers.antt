use Rattle.std.proofs.Common.{ap, ◌∙◌}
use Rattle.st_pool.specs.Places.{loaded_places}
use Rattle.st_pool.proofs.StandingLaws.{absent}
use Rattle.st_pool.proofs.pool.Pool.places.Goals as goal

pub returns-clause-absent : goal.returns-clause-absent
returns-clause-absent c =
    absent c.args.name.now c.args.self.now c.places.result.now
    (c.places.ensures ∙ c.self.invariant.2 c.args.name.now ∙ ap (loaded_places c.args.name.now) c.self.view_is)
