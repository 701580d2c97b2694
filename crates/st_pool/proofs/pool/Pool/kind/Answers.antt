use Rattle.std.proofs.Common.{ap, sym, ◌∙◌}
use Rattle.st_pool.specs.Places.{loaded_places}
use Rattle.st_pool.specs.Variable.{loaded_kind}
use Rattle.st_pool.proofs.StandingLaws.{kind-stands}
use Rattle.st_pool.proofs.pool.Pool.kind.Goals as goal

pub returns : goal.returns
returns c =
    c.kind_of.ensures
    ∙ kind-stands c.args.name.now c.as_slice.result.now c.places.result.now
    (c.places.ensures ∙ c.self.invariant.2 c.args.name.now ∙ ap (loaded_places c.args.name.now) (sym c.as_slice.ensures.value))
    ∙ ap (loaded_kind c.args.name.now) (c.as_slice.ensures.value ∙ c.self.view_is)
