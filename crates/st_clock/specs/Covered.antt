-- Where a tick's time gives that tick back.
use Rattle.std.specs.Prelude.{◌≡◌, ℕ, ◌+◌, ◌≤◌, pos, Some}
use Rattle.std.specs.List.{slice_get}
use Rattle.st_fraction.specs.Fraction.{Fraction, ◌≤ᶠ◌, over, units, ◌*ᶠ◌}
use Rattle.st_ticks.specs.Tick.{IsStrictlyInside}
use Rattle.st_clock.specs.declared.coefficient.Coefficient.{Coefficient}
use Rattle.st_clock.specs.Clock.{Clock, tpm, IsLast, StartsBy, line_time}

-- how long one tick is by the record, and half of that: R / tpm
abbrev pub tick_length : ℕ → Coefficient → Fraction
tick_length tpm r = units (pos r.rate) *ᶠ over (pos 1) tpm

abbrev pub half_tick : ℕ → Coefficient → Fraction
half_tick tpm r = tick_length tpm r *ᶠ over (pos 1) 2

-- the tick k is covered, by the record r at that place: it lies strictly inside its partition, at least one tick after
-- the record's, and where a next record is there, the line's tick after it is still the record's, by tick and by time
pub record IsCovered (c : Clock) (k place : ℕ) (r : Coefficient) : Type 0 where
  pub inside : IsStrictlyInside c.face k
  pub last : IsLast (StartsBy k) c.records place r
  pub after_start : r.ticks + 1 ≤ k
  pub before_next : (s : Coefficient) → slice_get c.records (place + 1) ≡ Some s
      → (k + 1 ≤ s.ticks) × (line_time (tpm c) r (k + 1) ≤ᶠ units s.time)
