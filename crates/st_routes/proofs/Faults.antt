-- The refusals of a clock's times are those of a tick.
use Rattle.std.proofs.Common.{◌≡◌, ℕ, Result, Ok, Err, ap}
use Rattle.st_clock.specs.Clock.{Clock}
use Rattle.st_clock.specs.Time.{GivesTime}
use Rattle.st_clock.specs.declared.point.Point.{Point}
use Rattle.st_clock.specs.declared.point.ClockRange.{ClockRange}
use Rattle.st_clock.specs.declared.point.ClockRange.TheVariants as ranges
use Rattle.st_routes.specs.FaultSteps.{of_range}
use Rattle.st_routes.specs.Source.{TimeGives}
use Rattle.st_routes.specs.declared.fault.TimeFault.{TimeFault}
use Rattle.st_routes.specs.declared.fault.TimeFault.TheVariants as faults

abbrev pub of_time : Result Point ClockRange → Result Point TimeFault
of_time (Ok time) = Ok time
of_time (Err why) = Err (of_range why)

pub one_time : (clock : Clock) (k : ℕ) (found : Result Point ClockRange) → ((answer : Result Point ClockRange) → GivesTime clock k answer → found ≡ answer)
    → (answer : Result Point TimeFault) → TimeGives clock k answer → of_time found ≡ answer
one_time clock k found only (Ok time) g = ap of_time (only (Ok time) g)
one_time clock k found only (Err faults.BeforeClock) g = ap of_time (only (Err ranges.Before) g)
one_time clock k found only (Err faults.OutOfRange) g = ap of_time (only (Err ranges.OutOfRange) g)
one_time clock k found only (Err other) g = absurd g
