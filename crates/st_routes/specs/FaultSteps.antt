-- The faults of the parts, as those of a time.
use Rattle.st_clock.specs.declared.point.ClockRange.{ClockRange}
use Rattle.st_clock.specs.declared.point.ClockRange.TheVariants as ranges
use Rattle.st_forms.specs.declared.fault.FormFault.{FormFault}
use Rattle.st_forms.specs.declared.fault.FormFault.TheVariants as forms
use Rattle.st_routes.specs.declared.fault.TimeFault.{TimeFault}
use Rattle.st_routes.specs.declared.fault.TimeFault.TheVariants.{BadTime, WrongSystem, NoSuchDay, OutOfRange, BeforeClock}

abbrev pub of_form : FormFault → TimeFault
of_form forms.BadTime = BadTime
of_form forms.WrongSystem = WrongSystem
of_form forms.NoSuchDay = NoSuchDay
of_form forms.OutOfRange = OutOfRange

abbrev pub of_range : ClockRange → TimeFault
of_range ranges.Before = BeforeClock
of_range ranges.OutOfRange = OutOfRange
