use Rattle.std.proofs.Common.{List, length, ap, sym, ◌∙◌, arith}
use Rattle.st_kernel_text.specs.declared.value.Value.{Value}
use Rattle.st_pool.specs.Loaded.{loaded_count}
use Rattle.st_pool.specs.Places.{loaded_places}
use Rattle.st_pool.specs.Variable.{loaded_values}
use Rattle.st_pool.proofs.StandingLaws.{values-stand, values-few}
use Rattle.st_pool.proofs.pool.Pool.values.Goals as goal

pub returns-clause-values : goal.returns-clause-values
returns-clause-values c =
    c.new.ensures
    ∙ values-stand c.args.name.now c.as_slice.result.now c.places.result.now
    (c.places.ensures ∙ c.self.invariant.2 c.args.name.now ∙ ap (loaded_places c.args.name.now) (sym c.as_slice.ensures.value))
    ∙ ap (loaded_values c.args.name.now) (c.as_slice.ensures.value ∙ c.self.view_is)

pub returns-clause-few : goal.returns-clause-few
returns-clause-few c = omega (
  arith,
  ap (λ (vs : List Value). length vs) (returns-clause-values c),
  values-few c.args.name.now c.args.self.now,
  ap loaded_count c.self.view_is,
  c.self.invariant.1,
)
