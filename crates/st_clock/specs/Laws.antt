-- Laws of clocks, each the contract of an empty function of `laws`.
use Rattle.std.specs.Prelude.{◌≡◌, ◌≢◌, ℕ, ◌+◌, ◌<◌, ◌<ℤ◌, pos, List, Some, Result, Ok, Err}
use Rattle.std.specs.List.{slice_get}
use Rattle.st_fraction.specs.Fraction.{Fraction, IsFraction, ◌≤ᶠ◌, ◌<ᶠ◌, ◌≈ᶠ◌, over, ◌+ᶠ◌, ◌-ᶠ◌, ◌*ᶠ◌, IsNear}
use Rattle.st_decimal.specs.declared.number.Dec.{Dec}
use Rattle.st_ticks.specs.Face.{Face, IsFace}
use Rattle.st_ticks.specs.declared.fault.FaceFault.{FaceFault}
use Rattle.st_ticks.specs.declared.fault.FaceFault.TheVariants.{OutOfMemory}
use Rattle.st_clock.specs.declared.coefficient.Coefficient.{Coefficient}
use Rattle.st_clock.specs.declared.ticks.Ticks.{Ticks}
use Rattle.st_clock.specs.declared.ticks.Ticks.TheVariants.{At}
use Rattle.st_clock.specs.Clock.{Clock, tpm, AreRising, IsClock, IsTimeOf, line_time}
use Rattle.st_clock.specs.Parts.{GivesClock}
use Rattle.st_clock.specs.Tick.{TickOf, IsNoLater}
use Rattle.st_clock.specs.Covered.{IsCovered, tick_length, half_tick}

-- Before, the ticks and After never fall as the time rises
abbrev pub TickRises : Type 0
TickRises =
    (c : Clock) (v w : Fraction) (s t : Ticks) → IsClock c → IsFraction v → IsFraction w → v ≤ᶠ w
    → TickOf c v s → TickOf c w t → IsNoLater s t

-- each time has one tick
abbrev pub TickIsOne : Type 0
TickIsOne = (c : Clock) (v : Fraction) (s t : Ticks) → IsClock c → IsFraction v → TickOf c v s → TickOf c v t → s ≡ t

abbrev pub TickIsFound : Type 0
TickIsFound = (c : Clock) (v : Fraction) → IsClock c → IsFraction v → (t : Ticks) × TickOf c v t

-- what lies between two times of one tick has that tick
abbrev pub TickBetween : Type 0
TickBetween =
    (c : Clock) (a v b : Fraction) (t : Ticks) → IsClock c → IsFraction a → IsFraction v → IsFraction b
    → a ≤ᶠ v → v ≤ᶠ b → TickOf c a t → TickOf c b t → TickOf c v t

-- a time within half a tick of a covered tick's time gives that tick
abbrev pub TickWithinHalf : Type 0
TickWithinHalf =
    (c : Clock) (k i : ℕ) (r : Coefficient) (v : Fraction) → IsClock c → IsFraction v → IsCovered c k i r
    → (line_time (tpm c) r k -ᶠ half_tick (tpm c) r) ≤ᶠ v → v <ᶠ (line_time (tpm c) r k +ᶠ half_tick (tpm c) r)
    → TickOf c v (At k)

abbrev pub TickWithinQuarter : Type 0
TickWithinQuarter =
    (c : Clock) (k i : ℕ) (r : Coefficient) (u v : Fraction) → IsClock c → IsFraction u → IsFraction v
    → IsCovered c k i r → IsTimeOf c k u → IsNear v u (tick_length (tpm c) r *ᶠ over (pos 1) 4) → TickOf c v (At k)

-- each tick has one time
abbrev pub TimeIsOne : Type 0
TimeIsOne =
    (c : Clock) (k : ℕ) (u v : Fraction) → IsClock c → IsFraction u → IsFraction v → IsTimeOf c k u → IsTimeOf c k v → u ≈ᶠ v

-- records of which each is before the next one are rising
abbrev pub StepsRise : Type 0
StepsRise =
    (records : List Coefficient)
    → ((i : ℕ) (r s : Coefficient) → slice_get records i ≡ Some r → slice_get records (i + 1) ≡ Some s
    → (r.ticks < s.ticks) × (r.time <ℤ s.time))
    → AreRising records

-- what is made of good values is a clock
abbrev pub PartsGiveClock : Type 0
PartsGiveClock =
    (face : Face) (data_type time_system coefficients : List Dec) (c : Clock) → IsFace face
    → GivesClock face data_type time_system coefficients (Ok c) → IsClock c

-- whatever the values of the three variables are, they give a clock of a face or break a first rule
abbrev pub ClockIsFound : Type 0
ClockIsFound =
    (face : Face) (data_type time_system coefficients : List Dec)
    → (answer : Result Clock FaceFault) × GivesClock face data_type time_system coefficients answer × (answer ≢ Err OutOfMemory)
