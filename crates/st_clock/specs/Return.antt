-- The way back: a covered tick's time, printed in TDB as seconds past J2000, gives that tick back.
use Rattle.std.specs.Prelude.{◌≡◌, ℕ, ◌*◌, ◌^◌, ◌≤◌, ℤ, pos, Bool, true, false}
use Rattle.st_fraction.specs.Fraction.{Fraction, IsFraction, ◌≤ᶠ◌, over, whole, ◌+ᶠ◌, ◌*ᶠ◌}
use Rattle.st_fraction.specs.Floor.{IsFloor}
use Rattle.st_scales.specs.declared.deltet.Deltet.{Deltet}
use Rattle.st_scales.specs.declared.scale.Scale.{Scale}
use Rattle.st_scales.specs.declared.scale.Scale.TheVariants.{Tdb}
use Rattle.st_scales.specs.Route.{IsAtLeast, IsAtMost}
use Rattle.st_clock.specs.declared.coefficient.Coefficient.{Coefficient}
use Rattle.st_clock.specs.declared.ticks.Ticks.{Ticks}
use Rattle.st_clock.specs.declared.ticks.Ticks.TheVariants.{At}
use Rattle.st_clock.specs.Clock.{Clock, tpm, IsClock, IsTimeOf}
use Rattle.st_clock.specs.Covered.{IsCovered, tick_length}
use Rattle.st_clock.specs.Tick.{TickOf}

-- v as it is cut off to p places: itself, or with half of the last place where that rounds
abbrev pub moved : ℕ → Bool → Fraction → Fraction
moved p false v = v
moved p true v = v +ᶠ over (pos 1) (2 * 10 ^ p)

-- n is the number of last places that v prints
abbrev pub IsCell : ℕ → Bool → Fraction → ℤ → Type 0
IsCell p rounds v n = IsFloor (whole (pos (10 ^ p)) *ᶠ moved p rounds v) n

-- what is then printed, as a number
abbrev pub printed : ℕ → ℤ → Fraction
printed p n = over n (10 ^ p)

-- n may be printed for TDB of u: two bounds of it print n
pub record MayPrint (d : Deltet) (from : Scale) (u : Fraction) (p : ℕ) (rounds : Bool) (n : ℤ) : Type 0 where
  pub low : Fraction
  pub high : Fraction
  pub low_is : IsFraction low
  pub high_is : IsFraction high
  pub at_least : IsAtLeast d from Tdb u low
  pub at_most : IsAtMost d from Tdb u high
  pub low_cell : IsCell p rounds low n
  pub high_cell : IsCell p rounds high n

-- n may be printed with p places for the covered tick k, whose ticks are four last places long or longer
pub record IsPrinted (d : Deltet) (c : Clock) (k p : ℕ) (rounds : Bool) (n : ℤ) : Type 0 where
  pub is_clock : IsClock c
  pub place : ℕ
  pub by : Coefficient
  pub covered : IsCovered c k place by
  pub time : Fraction
  pub time_is : IsFraction time
  pub is_time : IsTimeOf c k time
  pub long : over (pos 4) (10 ^ p) ≤ᶠ tick_length (tpm c) by
  pub prints : MayPrint d c.scale time p rounds n

-- of the printed number no other tick may be given
abbrev pub TickReturns : Type 0
TickReturns =
    (d : Deltet) (c : Clock) (k p : ℕ) (rounds : Bool) (n : ℤ) → IsPrinted d c k p rounds n → (a b : Fraction) (t : Ticks)
    → IsFraction a → IsFraction b → IsAtLeast d Tdb c.scale (printed p n) a → IsAtMost d Tdb c.scale (printed p n) b
    → TickOf c a t → TickOf c b t → t ≡ At k

-- and bounds of it that are 10^-12 s apart or closer both give the tick
abbrev pub WayBackIsDecided : Type 0
WayBackIsDecided =
    (d : Deltet) (c : Clock) (k p : ℕ) (rounds : Bool) (n : ℤ) → p ≤ 9 → IsPrinted d c k p rounds n → (a b : Fraction)
    → IsFraction a → IsFraction b → IsAtLeast d Tdb c.scale (printed p n) a → IsAtMost d Tdb c.scale (printed p n) b
    → b ≤ᶠ (a +ᶠ over (pos 1) (10 ^ 12)) → TickOf c a (At k) × TickOf c b (At k)
