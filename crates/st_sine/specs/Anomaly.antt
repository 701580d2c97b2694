-- The sine in the formula for TDB, after the header of a leapseconds kernel: TDB = TT + K sin E, with E = M + EB sin M and
-- M = M0 + M1 t. That t is TT, in seconds past J2000, is this project's choice. EB, M0 and M1 are given in units of
-- 10^-18.
use Rattle.std.specs.Prelude.{ℕ, ℤ}
use Rattle.st_fraction.specs.Fraction.{Fraction, ◌≤ᶠ◌, units, ◌+ᶠ◌, ◌-ᶠ◌, ◌*ᶠ◌}
use Rattle.st_series.specs.Series.{IsLongEnough, sine_lower, sine_upper}

-- M, the mean anomaly
abbrev pub mean_anomaly : ℤ → ℤ → Fraction → Fraction
mean_anomaly m0 m1 t = units m0 +ᶠ t *ᶠ units m1

-- E is known through the ends of sin M: with the n-th lower end in place of sin M, E is at least this,
unfoldable pub low_anomaly : ℤ → ℤ → ℤ → Fraction → ℕ → Fraction
low_anomaly eb m0 m1 t n = mean_anomaly m0 m1 t +ᶠ sine_lower (mean_anomaly m0 m1 t) n *ᶠ units eb

-- and greater by at most this, which is EB times how far the ends are apart; no two sines are farther apart than their
-- angles.
unfoldable pub anomaly_gap : ℤ → ℤ → ℤ → Fraction → ℕ → Fraction
anomaly_gap eb m0 m1 t n = (sine_upper (mean_anomaly m0 m1 t) n -ᶠ sine_lower (mean_anomaly m0 m1 t) n) *ᶠ units eb

-- n is long enough for both angles
pub record FitsAnomaly (eb m0 m1 : ℤ) (t : Fraction) (n : ℕ) : Type 0 where
  pub mean : IsLongEnough (mean_anomaly m0 m1 t) n
  pub low : IsLongEnough (low_anomaly eb m0 m1 t n) n

-- sin E is at least a where no upper end, raised by the gap, is below a; and at most b where no lower end, lowered by the
-- gap, is above b.
pub record AnomalySineIsAtLeast (eb m0 m1 : ℤ) (t a : Fraction) : Type 0 where
  pub at_each : (n : ℕ) → FitsAnomaly eb m0 m1 t n → a ≤ᶠ (sine_upper (low_anomaly eb m0 m1 t n) n +ᶠ anomaly_gap eb m0 m1 t n)

pub record AnomalySineIsAtMost (eb m0 m1 : ℤ) (t b : Fraction) : Type 0 where
  pub at_each : (n : ℕ) → FitsAnomaly eb m0 m1 t n → (sine_lower (low_anomaly eb m0 m1 t n) n -ᶠ anomaly_gap eb m0 m1 t n) ≤ᶠ b

-- the interval from lo to hi, in units, has sin E
pub record HasAnomalySine (eb m0 m1 : ℤ) (t : Fraction) (lo hi : ℤ) : Type 0 where
  pub at_least : AnomalySineIsAtLeast eb m0 m1 t (units lo)
  pub at_most : AnomalySineIsAtMost eb m0 m1 t (units hi)
