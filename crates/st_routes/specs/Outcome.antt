-- What is answered of a value: the outcome that it has by a target, and the text of that outcome. An outcome is printed where
-- two bounds of the value have it; where a sine stands on the way, two bounds that are close and differ leave it undecided.
-- That the value is known through fractions alone, and how close is close, are this project's own.
use Rattle.std.specs.Prelude.{◌≡◌, ◌≢◌, ℕ, ◌^◌, pos, List, Option, Result, Ok, Err, ⊤}
use Rattle.st_text.specs.Bytes.{decimal_digits}
use Rattle.st_fraction.specs.Fraction.{Fraction, IsFraction, ◌≤ᶠ◌, over, ◌+ᶠ◌}
use Rattle.st_leaps.specs.declared.table.LeapTable.{LeapTable}
use Rattle.st_picture.specs.Cell.{IsCellOf}
use Rattle.st_picture.specs.Picture.{Picture}
use Rattle.st_picture.specs.Text.{IsTextOf}
use Rattle.st_picture.specs.declared.cell.Cell.{Cell}
use Rattle.st_ticks.specs.Tick.{IsCanonical}
use Rattle.st_clock.specs.Clock.{Clock}
use Rattle.st_clock.specs.Tick.{TickOf}
use Rattle.st_clock.specs.declared.ticks.Ticks.{Ticks}
use Rattle.st_clock.specs.declared.ticks.Ticks.TheVariants.{Before, At, After}
use Rattle.st_routes.specs.Route.{IsAtLeast, IsAtMost, HasSineOnIt}
use Rattle.st_routes.specs.declared.fault.TimeFault.{TimeFault}
use Rattle.st_routes.specs.declared.fault.TimeFault.TheVariants.{BeforeClock, AfterClock, Undecided, OutOfMemory}
use Rattle.st_routes.specs.declared.route.Route.{Route}
use Rattle.st_routes.specs.declared.ticks.TickForm.{TickForm}
use Rattle.st_routes.specs.declared.ticks.TickForm.TheVariants as tick_forms

-- the cell of a value by a picture, or its tick by a clock
pub data Outcome : Type 0 where
  in_cell : Cell → Outcome
  at_tick : Ticks → Outcome

-- a picture, with the table that tells UTC's days, or a clock, with the form in which its ticks are told
pub data Target : Type 0 where
  by_picture : Picture → Option LeapTable → Target
  by_clock : Clock → TickForm → Target

-- v has this outcome
abbrev pub IsOutcome : Target → Fraction → Outcome → Type 0
IsOutcome (by_picture picture leaps) v (in_cell cell) = IsCellOf picture leaps v cell
IsOutcome (by_clock clock form) v (at_tick ticks) = TickOf clock v ticks
IsOutcome target v outcome = ⊥

-- The outcome may be printed for the source r: the value is at least one fraction and at most another, and both have it.
pub record MayPrint (route : Route) (r : Fraction) (target : Target) (outcome : Outcome) : Type 0 where
  pub low : Fraction
  pub high : Fraction
  pub low_is : IsFraction low
  pub high_is : IsFraction high
  pub at_least : IsAtLeast route r low
  pub at_most : IsAtMost route r high
  pub low_has : IsOutcome target low outcome
  pub high_has : IsOutcome target high outcome

-- The source r may be left undecided: a sine stands on the way, and the value lies between two fractions, at most 10^-12 s
-- apart, that have different outcomes.
pub record MayBeUndecided (route : Route) (r : Fraction) (target : Target) : Type 0 where
  pub sine : HasSineOnIt route
  pub low : Fraction
  pub high : Fraction
  pub low_is : IsFraction low
  pub high_is : IsFraction high
  pub ordered : low ≤ᶠ high
  pub close : high ≤ᶠ (low +ᶠ over (pos 1) (10 ^ 12))
  pub at_least : IsAtLeast route r low
  pub at_most : IsAtMost route r high
  pub lower : Outcome
  pub upper : Outcome
  pub low_has : IsOutcome target low lower
  pub high_has : IsOutcome target high upper
  pub differ : lower ≢ upper

-- the text of an encoded tick: its canonical spelling, or its number
abbrev pub IsTickText : Clock → TickForm → ℕ → List ℕ → Type 0
IsTickText clock tick_forms.Clock k text = IsCanonical clock.face k text
IsTickText clock tick_forms.Ticks k text = text ≡ decimal_digits k

-- the answer that tells an outcome
abbrev pub Spells : Target → Outcome → Result (List ℕ) TimeFault → Type 0
Spells (by_picture picture leaps) (in_cell cell) (Ok text) = IsTextOf picture.pieces cell text
Spells (by_clock clock form) (at_tick (At k)) (Ok text) = IsTickText clock form k text
Spells (by_clock clock form) (at_tick Before) (Err BeforeClock) = ⊤
Spells (by_clock clock form) (at_tick After) (Err AfterClock) = ⊤
Spells target outcome result = ⊥

-- the answer tells an outcome that may be printed for the source r
abbrev pub Prints : Route → Fraction → Target → Result (List ℕ) TimeFault → Type 0
Prints route r target result = (outcome : Outcome) × MayPrint route r target outcome × Spells target outcome result

-- What may be answered for the source r: what tells an outcome that may be printed, or that it is undecided where it may be.
-- Want of memory may be answered, too.
abbrev pub RouteGives : Route → Fraction → Target → Result (List ℕ) TimeFault → Type 0
RouteGives route r target (Err Undecided) = MayBeUndecided route r target
RouteGives route r target (Err OutOfMemory) = ⊤
RouteGives route r target result = Prints route r target result
