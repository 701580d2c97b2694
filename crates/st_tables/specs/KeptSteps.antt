-- What is true of each kept table: it is the table of the numbers that are kept with it.
use Rattle.std.specs.Prelude.{◌≡◌, List, length, Ok}
use Rattle.st_decimal.specs.declared.number.Dec.{Dec}
use Rattle.st_leaps.specs.declared.pair.LeapPair.{LeapPair}
use Rattle.st_scales.specs.declared.deltet.Deltet.{Deltet}
use Rattle.st_clock.specs.Clock.{Clock}
use Rattle.st_tables.specs.Tables.{LeapsMade, ConstantsMade, ClockMade}
use Rattle.st_tables.specs.TablesMachine.{list_at, clock_numbers}

pub record AreLeaps (numbers : List (List Dec)) (pairs : List LeapPair) : Type 0 where
  pub lists : length numbers ≡ 1
  pub made : LeapsMade (list_at numbers 0) (Ok pairs)

pub record AreConstants (numbers : List (List Dec)) (constants : Deltet) : Type 0 where
  pub lists : length numbers ≡ 4
  pub made : ConstantsMade (list_at numbers 0) (list_at numbers 1) (list_at numbers 2) (list_at numbers 3) (Ok constants)

pub record IsClock (numbers : List (List Dec)) (clock : Clock) : Type 0 where
  pub lists : length numbers ≡ 9
  pub made : ClockMade (clock_numbers numbers) (Ok clock)
