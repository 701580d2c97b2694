-- The parts of a clock string as the reader keeps them.
use Rattle.std.specs.Prelude.{◌≡◌, ℕ, List, Some}
use Rattle.st_ticks.specs.ClockText.{Parts}
use Rattle.st_ticks.specs.ReadingMachine.{capped_partition}
use Rattle.st_ticks.specs.TextMachine.{parts_of}
use Rattle.st_ticks.specs.ValuesSteps.{HoldsFields}
use Rattle.st_ticks.specs.declared.clock_text.Written.{Written}

pub record HoldsParts (text : List ℕ) (written : Written) : Type 0 where
  pub parts : Parts
  pub parts_are : parts_of text ≡ Some parts
  pub partition_is : written.partition ≡ capped_partition parts.partition
  pub values_are : HoldsFields parts.fields written.values
