-- What the parts of a face may lack.
use Rattle.std.specs.Prelude.{◌≡◌, List}
use Rattle.st_decimal.specs.declared.number.Dec.{Dec}
use Rattle.st_ticks.specs.Variables.{HaveEnds, rule}
use Rattle.st_ticks.specs.declared.fault.FaceFault.{FaceFault}
use Rattle.st_ticks.specs.declared.fault.FaceFault.TheVariants.{Bad, OutOfMemory}
use Rattle.st_ticks.specs.declared.field.Partition.{Partition}
use Rattle.st_ticks.specs.declared.variable.ClockVar.TheVariants.{End}
use Rattle.st_ticks.specs.declared.variable.ClockWhy.TheVariants.{Range}

-- no partitions have these starts and ends, unless memory was refused
abbrev pub LacksEnds : List Dec → List Dec → FaceFault → Type 0
LacksEnds starts ends (Bad fault) = (fault ≡ rule End Range) × ((ps : List Partition) → HaveEnds starts ends ps → ⊥)
LacksEnds starts ends OutOfMemory = Unit {0}
