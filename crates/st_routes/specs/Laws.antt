-- What the definitions of routes, sources and outcomes say by themselves, as laws.
use Rattle.std.specs.Prelude.{◌≡◌, ◌≢◌, ◌⊎◌, ℕ, ℤ, List, Option, Result, Ok, Err}
use Rattle.st_fraction.specs.Fraction.{Fraction, IsFraction, units}
use Rattle.st_dates.specs.declared.system.System.{System}
use Rattle.st_leaps.specs.declared.table.LeapTable.{LeapTable}
use Rattle.st_forms.specs.declared.form.Form.{Form}
use Rattle.st_picture.specs.Reading.{ReadsPicture}
use Rattle.st_clock.specs.Clock.{Clock, IsClock}
use Rattle.st_clock.specs.Time.{value_of}
use Rattle.st_clock.specs.declared.point.Point.{Point}
use Rattle.st_routes.specs.Outcome.{Outcome, Target, by_picture, by_clock, IsOutcome, MayPrint, MayBeUndecided, Prints, RouteGives}
use Rattle.st_routes.specs.Route.{HasNoSineOnIt, IsNearby, IsSource, shifted}
use Rattle.st_routes.specs.Source.{InstantGives, TickGives, TimeGives}
use Rattle.st_routes.specs.declared.fault.TimeFault.{TimeFault}
use Rattle.st_routes.specs.declared.fault.TimeFault.TheVariants.{OutOfMemory}
use Rattle.st_routes.specs.declared.route.Route.{Route}
use Rattle.st_routes.specs.declared.ticks.TickForm.{TickForm}

-- a picture that a text is read as, or what is true of each clock
abbrev pub IsTarget : Target → Type 0
IsTarget (by_picture picture leaps) = (system : System) × (text : List ℕ) × ReadsPicture system text (Ok picture)
IsTarget (by_clock clock form) = IsClock clock

-- Of one route, source and target one outcome may be printed.
abbrev pub OneOutcome : Type 0
OneOutcome =
    (route : Route) (r : Fraction) (target : Target) (a b : Outcome) → IsTarget target → IsFraction r
    → MayPrint route r target a → MayPrint route r target b → a ≡ b

-- So one answer tells it.
abbrev pub OneAnswer : Type 0
OneAnswer =
    (route : Route) (r : Fraction) (target : Target) (a b : Result (List ℕ) TimeFault) → IsTarget target → IsFraction r
    → Prints route r target a → Prints route r target b → a ≡ b

-- Where no sine stands on the way, exactly the outcome of the shifted source may be printed,
abbrev pub OutcomeIsExact : Type 0
OutcomeIsExact =
    (route : Route) (r : Fraction) (target : Target) (outcome : Outcome) → IsTarget target → IsFraction r → IsNearby r
    → HasNoSineOnIt route
    → (IsOutcome target (shifted route r) outcome → MayPrint route r target outcome)
    × (MayPrint route r target outcome → IsOutcome target (shifted route r) outcome)

-- nothing may be left undecided,
abbrev pub ExactIsDecided : Type 0
ExactIsDecided =
    (route : Route) (r : Fraction) (target : Target) → HasNoSineOnIt route → MayBeUndecided route r target → ⊥

-- and there is one answer, where memory is not refused.
abbrev pub ExactIsOne : Type 0
ExactIsOne =
    (route : Route) (r : Fraction) (target : Target) (a b : Result (List ℕ) TimeFault) → IsTarget target → IsFraction r
    → HasNoSineOnIt route → a ≢ Err OutOfMemory → b ≢ Err OutOfMemory → RouteGives route r target a → RouteGives route r target b → a ≡ b

-- Each source has an answer that tells an outcome, or may be left undecided.
abbrev pub EachHasAnswer : Type 0
EachHasAnswer =
    (route : Route) (r : Fraction) (target : Target) → IsTarget target → IsFraction r → IsNearby r
    → ((answer : Result (List ℕ) TimeFault) × Prints route r target answer) ⊎ MayBeUndecided route r target

-- Each text of a system gives an instant or a refusal, and one.
abbrev pub EachTextGivesInstant : Type 0
EachTextGivesInstant =
    (system : System) (form : Form) (leaps : Option LeapTable) (text : List ℕ)
    → (answer : Result ℤ TimeFault) × InstantGives system form leaps text answer

abbrev pub OneInstant : Type 0
OneInstant =
    (system : System) (form : Form) (leaps : Option LeapTable) (text : List ℕ) (a b : Result ℤ TimeFault)
    → InstantGives system form leaps text a → InstantGives system form leaps text b → a ≡ b

-- Each text of a clock gives a tick or a refusal, and one.
abbrev pub EachTextGivesTick : Type 0
EachTextGivesTick =
    (clock : Clock) (form : TickForm) (text : List ℕ) → IsClock clock
    → (answer : Result ℕ TimeFault) × TickGives clock form text answer

abbrev pub OneTick : Type 0
OneTick =
    (clock : Clock) (form : TickForm) (text : List ℕ) (a b : Result ℕ TimeFault)
    → TickGives clock form text a → TickGives clock form text b → a ≡ b

-- Instants of texts, and times of ticks, are sources.
abbrev pub InstantIsSource : Type 0
InstantIsSource =
    (system : System) (form : Form) (leaps : Option LeapTable) (text : List ℕ) (u : ℤ) → InstantGives system form leaps text (Ok u)
    → IsSource u × IsNearby (units u)

abbrev pub TimeIsSource : Type 0
TimeIsSource =
    (clock : Clock) (k : ℕ) (time : Point) → TimeGives clock k (Ok time)
    → IsSource time.units × IsFraction (value_of time) × IsNearby (value_of time)
