-- The tick of a time: the nearest one on the line of the record in force, after NAIF's SCLK Required Reading, type 1.
-- That a half counts up, that a line is capped at the next record's tick, and that what lies after the last partition is
-- After, are choices of this project: so the tick never falls as the time rises.
use Rattle.std.specs.Prelude.{◌≡◌, ◌≢◌, ℕ, ◌+◌, ◌*◌, ◌^◌, ◌≤◌, ℤ, pos, ◌<ℤ◌, Option, None, Some, Result, Ok, Err}
use Rattle.std.specs.List.{slice_get}
use Rattle.st_fraction.specs.Fraction.{Fraction, ◌<ᶠ◌, over, whole, units, ◌+ᶠ◌, ◌-ᶠ◌, ◌*ᶠ◌, least}
use Rattle.st_fraction.specs.Floor.{IsFloor}
use Rattle.st_clock.specs.declared.coefficient.Coefficient.{Coefficient}
use Rattle.st_clock.specs.declared.ticks.Ticks.{Ticks}
use Rattle.st_clock.specs.declared.ticks.Ticks.TheVariants.{Before, At, After}
use Rattle.st_clock.specs.declared.ticks.TicksUndecided.{TicksUndecided}
use Rattle.st_clock.specs.Clock.{Clock, tpm, total, IsLast, BeginsBy}

-- the tick of the time v on the record's line, with its part: S + (v - T) tpm / R
abbrev pub line_tick : ℕ → Coefficient → Fraction → Fraction
line_tick tpm r v = whole (pos r.ticks) +ᶠ (v -ᶠ units r.time) *ᶠ over (pos (tpm * 10 ^ 18)) r.rate

-- no more than the next record's tick, where there is a next record
abbrev pub capped : Option Coefficient → Fraction → Fraction
capped None x = x
capped (Some next) x = least x (whole (pos next.ticks))

-- n is the number of the tick nearest to v by the last record that begins by v; a half counts up
pub record IsNumberOf (c : Clock) (v : Fraction) (n : ℤ) : Type 0 where
  pub place : ℕ
  pub by : Coefficient
  pub last : IsLast (BeginsBy v) c.records place by
  pub rounded : IsFloor (capped (slice_get c.records (place + 1)) (line_tick (tpm c) by v) +ᶠ over (pos 1) 2) n

-- the tick of v: Before where v is before each record's time, After where the number is greater than the total
abbrev pub TickOf : Clock → Fraction → Ticks → Type 0
TickOf c v Before = (i : ℕ) (r : Coefficient) → slice_get c.records i ≡ Some r → v <ᶠ units r.time
TickOf c v (At k) = IsNumberOf c v (pos k) × (k ≤ total c)
TickOf c v After = (n : ℤ) × (IsNumberOf c v n × (pos (total c) <ℤ n))

-- the order of answers: Before, the ticks, After
abbrev pub IsNoLater : Ticks → Ticks → Type 0
IsNoLater Before t = Unit {0}
IsNoLater (At j) Before = ⊥
IsNoLater (At j) (At k) = j ≤ k
IsNoLater (At j) After = Unit {0}
IsNoLater After Before = ⊥
IsNoLater After (At k) = ⊥
IsNoLater After After = Unit {0}

-- what is answered for a time that lies from lo to hi: the tick of both ends, or their two ticks
abbrev pub GivesTicks : Clock → Fraction → Fraction → Result Ticks TicksUndecided → Type 0
GivesTicks c lo hi (Ok t) = TickOf c lo t × TickOf c hi t
GivesTicks c lo hi (Err e) = TickOf c lo e.lo × (TickOf c hi e.hi × (e.lo ≢ e.hi))
