-- How a clock is kept, and what is true of each.
use Rattle.std.specs.Prelude.{List}
use Rattle.st_scales.specs.declared.scale.Scale.{Scale}
use Rattle.st_ticks.specs.Face.{Face}
use Rattle.st_clock.specs.declared.coefficient.Coefficient.{Coefficient}
use Rattle.st_clock.specs.Clock.{Clock, IsClock}
use Rattle.st_clock.specs.SmallSteps.{AreSmall}

abbrev pub seen : Face → Scale → List Coefficient → Clock
seen face scale records = record { face = face; scale = scale; records = records }

pub record IsSound (c : Clock) : Type 0 where
  pub clock : IsClock c
  pub small : AreSmall c.records
