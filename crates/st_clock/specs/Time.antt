-- The time of a tick as it is answered, and where there is none.
use Rattle.std.specs.Prelude.{◌≡◌, ℕ, ◌*◌, ◌^◌, ◌<◌, pos, Result, Ok, Err, Some}
use Rattle.std.specs.List.{slice_get}
use Rattle.st_fraction.specs.Fraction.{Fraction, IsFraction, ◌≤ᶠ◌, over, units, ◌+ᶠ◌}
use Rattle.st_dates.specs.Range.{range_start, range_end}
use Rattle.st_clock.specs.declared.coefficient.Coefficient.{Coefficient}
use Rattle.st_clock.specs.declared.point.Point.{Point}
use Rattle.st_clock.specs.declared.point.ClockRange.{ClockRange}
use Rattle.st_clock.specs.declared.point.ClockRange.TheVariants.{Before, OutOfRange}
use Rattle.st_clock.specs.Clock.{Clock, tpm, IsTimeOf}

-- units and a part of a unit, in seconds
abbrev pub value_of : Point → Fraction
value_of p = units p.units +ᶠ over (pos p.part) (10 ^ 18 * p.of)

-- a time that is answered
pub record IsInRange (v : Fraction) : Type 0 where
  pub from : units range_start ≤ᶠ v
  pub to : v ≤ᶠ units range_end

-- why the tick k has no time that is answered: it is before each record's tick, or its time is out of range
abbrev pub HasNoTime : Clock → ℕ → ClockRange → Type 0
HasNoTime c k Before = (i : ℕ) (r : Coefficient) → slice_get c.records i ≡ Some r → k < r.ticks
HasNoTime c k OutOfRange = (v : Fraction) × (IsFraction v × (IsTimeOf c k v × (IsInRange v → ⊥)))

-- what is answered for the tick k: its time, with less than a unit as so many parts of one as a count of the first field
-- has ticks
abbrev pub GivesTime : Clock → ℕ → Result Point ClockRange → Type 0
GivesTime c k (Ok p) = IsTimeOf c k (value_of p) × (IsInRange (value_of p) × ((p.part < p.of) × (p.of ≡ tpm c)))
GivesTime c k (Err why) = HasNoTime c k why
