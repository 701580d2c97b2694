-- TDB of a TT value, by the formula in the header of a leapseconds kernel: TDB = TT + K sin E, with E = M + EB sin M and
-- M = M0 + M1 t. That t is TT is this project's choice. Values are fractions, in seconds past J2000; the constants are in
-- units of 10^-18. As sin E is known through its bounds for each n alone, so is TDB.
use Rattle.std.specs.Prelude.{ℕ}
use Rattle.st_fraction.specs.Fraction.{Fraction, ◌≤ᶠ◌, units, ◌+ᶠ◌, ◌-ᶠ◌, ◌*ᶠ◌}
use Rattle.st_series.specs.Series.{sine_lower, sine_upper}
use Rattle.st_sine.specs.Anomaly.{low_anomaly, anomaly_gap, FitsAnomaly}
use Rattle.st_scales.specs.declared.deltet.Deltet.{Deltet}

-- n fits the TT value t: it is long enough for the angles of both sines
abbrev pub Fits : Deltet → Fraction → ℕ → Type 0
Fits c t n = FitsAnomaly c.orbit.eb c.orbit.m0 c.orbit.m1 t n

-- the ends of sin E at t, for n
unfoldable pub sine_low : Deltet → Fraction → ℕ → Fraction
sine_low c t n = sine_lower (low_anomaly c.orbit.eb c.orbit.m0 c.orbit.m1 t n) n -ᶠ anomaly_gap c.orbit.eb c.orbit.m0 c.orbit.m1 t n

unfoldable pub sine_high : Deltet → Fraction → ℕ → Fraction
sine_high c t n = sine_upper (low_anomaly c.orbit.eb c.orbit.m0 c.orbit.m1 t n) n +ᶠ anomaly_gap c.orbit.eb c.orbit.m0 c.orbit.m1 t n

-- the ends of TDB
abbrev pub tdb_low : Deltet → Fraction → ℕ → Fraction
tdb_low c t n = t +ᶠ sine_low c t n *ᶠ units c.k

abbrev pub tdb_high : Deltet → Fraction → ℕ → Fraction
tdb_high c t n = t +ᶠ sine_high c t n *ᶠ units c.k

-- TDB of t is at least a where no upper end is below a, and at most b where no lower end is above b.
pub record TdbIsAtLeast (c : Deltet) (t a : Fraction) : Type 0 where
  pub at_each : (n : ℕ) → Fits c t n → a ≤ᶠ tdb_high c t n

pub record TdbIsAtMost (c : Deltet) (t b : Fraction) : Type 0 where
  pub at_each : (n : ℕ) → Fits c t n → tdb_low c t n ≤ᶠ b

-- TT of a TDB value d is the TT value whose TDB is d. TDB rises with TT, so TT of d is at least a where TDB of a is at
-- most d, and at most b where TDB of b is at least d.
abbrev pub TtIsAtLeast : Deltet → Fraction → Fraction → Type 0
TtIsAtLeast c d a = TdbIsAtMost c a d

abbrev pub TtIsAtMost : Deltet → Fraction → Fraction → Type 0
TtIsAtMost c d b = TdbIsAtLeast c b d
