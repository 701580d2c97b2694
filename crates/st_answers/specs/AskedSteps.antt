-- What the calls give that come after the tables of a job were found, by these tables.
use Rattle.std.specs.Prelude.{◌≡◌, ℕ, ℤ, Bool, true, false, Option, Some, IsSome, option_map, Result, Ok, Err, List, ⊤}
use Rattle.st_clock.specs.Clock.{Clock}
use Rattle.st_clock.specs.Time.{value_of}
use Rattle.st_clock.specs.declared.point.Point.{Point}
use Rattle.st_dates.specs.declared.system.System.{System}
use Rattle.st_dates.specs.declared.system.System.TheVariants.{Sclk}
use Rattle.st_fraction.specs.Fraction.{Fraction, IsFraction, ◌≈ᶠ◌, units}
use Rattle.st_leaps.specs.declared.table.LeapTable.{LeapTable}
use Rattle.st_routes.specs.Outcome.{RouteGives, Target, by_clock}
use Rattle.st_routes.specs.declared.fault.TimeFault.{TimeFault}
use Rattle.st_routes.specs.declared.route.Route.{Route}
use Rattle.st_routes.specs.declared.ticks.TickForm.{TickForm}
use Rattle.st_scales.specs.declared.deltet.Deltet.{Deltet}
use Rattle.st_scales.specs.declared.scale.Scale.{Scale}
use Rattle.st_tables.specs.Kernels.{Kernels}
use Rattle.st_tables.specs.Variables.{Loaded}
use Rattle.st_tables.specs.declared.fault.TableFault.{TableFault}
use Rattle.st_words.specs.declared.job.Job.{Job}
use Rattle.st_answers.specs.Answer.{ClockTimeGives, IsTargetOf, SourceGives}
use Rattle.st_answers.specs.Asked.{ClockOf, ConstantsOf, LeapsOf, Tables}
use Rattle.st_answers.specs.Sides.{has_clock, has_utc, is_clock, needs_constants, scale_of}
use Rattle.st_answers.specs.declared.asked.Lent.{Lent}

-- the tables that are lent
abbrev pub shown : Lent → Tables
shown lent = record {
  leaps = option_map (λ t. t.now) lent.leaps;
  constants = option_map (λ t. t.now) lent.constants;
  clock = option_map (λ t. t.now) lent.clock;
}

-- the tables that the job asks for are found
pub record HasFound (job : Job) (kernels : Kernels) : Type 0 where
  pub leaps : has_utc job ≡ true → kernels.leaps ≡ true
  pub constants : needs_constants job ≡ true → kernels.constants ≡ true
  pub clock : has_clock job ≡ true → kernels.clock ≡ job.clock

-- a table is found, where the job asks for it, or refused
abbrev pub FindsLeaps : Job → Loaded → Result ⊤ TableFault → Type 0
FindsLeaps job loaded (Ok done) = (leaps : Option LeapTable) × LeapsOf job loaded (Ok leaps)
FindsLeaps job loaded (Err fault) = LeapsOf job loaded (Err fault)

abbrev pub FindsConstants : Job → Loaded → Result ⊤ TableFault → Type 0
FindsConstants job loaded (Ok done) = (constants : Option Deltet) × ConstantsOf job loaded (Ok constants)
FindsConstants job loaded (Err fault) = ConstantsOf job loaded (Err fault)

abbrev pub FindsClock : Job → Loaded → Result ⊤ TableFault → Type 0
FindsClock job loaded (Ok done) = (clock : Option Clock) × ClockOf job loaded (Ok clock)
FindsClock job loaded (Err fault) = ClockOf job loaded (Err fault)

-- the loaded kernels are the same, and what was found of the first two tables still is
pub record IsLater (before after : Kernels) : Type 0 where
  pub loaded : after.loaded ≡ before.loaded
  pub leaps : before.leaps ≡ true → after.leaps ≡ true
  pub constants : before.constants ≡ true → after.constants ≡ true

-- there is a clock, where one is asked for
abbrev pub HasClockFor : Tables → Bool → Type 0
HasClockFor tables asked = asked ≡ true → (clock : Clock) × (tables.clock ≡ Some clock)

-- there is a table of leap seconds, and a clock, where the job asks for them
pub record HasAsked (job : Job) (tables : Tables) : Type 0 where
  pub leaps : has_utc job ≡ true → IsSome tables.leaps
  pub clock : HasClockFor tables (has_clock job)

-- a value of the source as a point; that of a time text has no part of a unit
pub record IsPointOf (job : Job) (r : Fraction) (time : Point) : Type 0 where
  pub positive : IsFraction r
  pub same : r ≈ᶠ value_of time
  pub whole : is_clock job.from ≡ false → r ≡ units time.units

abbrev pub SourceIs : Job → List ℕ → Tables → Result Point TimeFault → Type 0
SourceIs job text tables (Ok time) = (r : Fraction) × SourceGives job.form job.from tables text (Ok r) × IsPointOf job r time
SourceIs job text tables (Err fault) = SourceGives job.form job.from tables text (Err fault)

-- what a point is printed as by the job's target
abbrev pub PrintIs : Job → Route → Point → Tables → Result (List ℕ) TimeFault → Type 0
PrintIs job route time tables result =
    (r : Fraction) → IsPointOf job r time → (target : Target) × IsTargetOf job.shape tables target × RouteGives route r target result

-- the time of the tick that a text of the source's clock is
abbrev pub ClockTimeIs : TickForm → List ℕ → Tables → Result Point TimeFault → Type 0
ClockTimeIs form text tables (Ok time) = ClockTimeGives tables form text (Ok (value_of time))
ClockTimeIs form text tables (Err fault) = ClockTimeGives tables form text (Err fault)

-- what a value in units is printed as by the target's clock
abbrev pub ClockPrintIs : Route → ℤ → TickForm → Tables → Result (List ℕ) TimeFault → Type 0
ClockPrintIs route u form tables result =
    (clock : Clock) × (tables.clock ≡ Some clock) × RouteGives route (units u) (by_clock clock form) result

-- the scale of a system, by that of the clock
abbrev pub scale_with : System → Scale → Scale
scale_with Sclk scale = scale
scale_with system scale = scale_of system

-- the scale is that of the clock, where there is one
abbrev pub ClockScaleIs : Tables → Scale → Type 0
ClockScaleIs tables scale = (clock : Clock) → tables.clock ≡ Some clock → scale ≡ clock.scale
