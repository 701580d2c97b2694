-- The sine in the formula has one value, which moves with t no faster than M does, but for EB.
use Rattle.std.specs.Prelude.{ℕ, ℤ, pos, ◌≤◌, ◌*◌, ◌^◌, ◌+ℤ◌, ◌-ℤ◌, ◌≤ℤ◌}
use Rattle.st_fraction.specs.Fraction.{Fraction, IsFraction, ◌≤ᶠ◌, ◌<ᶠ◌, whole, units, ◌+ᶠ◌, ◌-ᶠ◌, ◌*ᶠ◌, LiesWithin, IsNear}
use Rattle.st_enclosure.specs.Ends.{EndsAtMost}
use Rattle.st_series.specs.Series.{sine_lower, sine_upper}
use Rattle.st_series.specs.Enclosed.{HasSine, HasCosine}
use Rattle.st_sine.specs.Anomaly.{mean_anomaly, low_anomaly, anomaly_gap, FitsAnomaly, AnomalySineIsAtLeast, AnomalySineIsAtMost, HasAnomalySine}

-- From some n on every n fits, and its two bounds are no farther apart than e, for every fraction e above 0.
abbrev pub AnomalyNarrows : Type 0
AnomalyNarrows = (eb m0 m1 : ℤ) (t e : Fraction) → pos 0 ≤ℤ eb → IsFraction t → IsFraction e → whole (pos 0) <ᶠ e
    → (n : ℕ) × ((m : ℕ) → n ≤ m → FitsAnomaly eb m0 m1 t m × ((sine_upper (low_anomaly eb m0 m1 t m) m +ᶠ anomaly_gap eb m0 m1 t m) ≤ᶠ ((sine_lower (low_anomaly eb m0 m1 t m) m -ᶠ anomaly_gap eb m0 m1 t m) +ᶠ e)))

-- So what sin E is at least is no more than what it is at most.
abbrev pub AnomalyAgrees : Type 0
AnomalyAgrees = (eb m0 m1 : ℤ) (t a b : Fraction) → pos 0 ≤ℤ eb → IsFraction t → IsFraction a → IsFraction b
    → AnomalySineIsAtLeast eb m0 m1 t a → AnomalySineIsAtMost eb m0 m1 t b → a ≤ᶠ b

-- How far sin E moves at most while t moves by e: M1 e, for M, and EB times as much again, for EB sin M.
abbrev pub anomaly_step : ℤ → ℤ → Fraction → Fraction
anomaly_step eb m1 e = e *ᶠ units m1 +ᶠ e *ᶠ units m1 *ᶠ units eb

-- Whatever n fits t and whatever m fits u: no lower end at t is above an upper end at u by more than the step from the one
-- to the other. With t and u the same this says that no lower end is above an upper one.
abbrev pub AnomalyLipschitz : Type 0
AnomalyLipschitz = (eb m0 m1 : ℤ) (t u e : Fraction) (n m : ℕ) → pos 0 ≤ℤ eb → pos 0 ≤ℤ m1 → IsFraction t → IsFraction u → IsFraction e → IsNear t u e
    → FitsAnomaly eb m0 m1 t n → FitsAnomaly eb m0 m1 u m
    → (sine_lower (low_anomaly eb m0 m1 t n) n -ᶠ anomaly_gap eb m0 m1 t n)
    ≤ᶠ ((sine_upper (low_anomaly eb m0 m1 u m) m +ᶠ anomaly_gap eb m0 m1 u m) +ᶠ anomaly_step eb m1 e)

-- What sin E is at least, and at most, at t it is at u, but for the step.
abbrev pub AnomalyMoves : Type 0
AnomalyMoves = (eb m0 m1 : ℤ) (t u e a : Fraction) → pos 0 ≤ℤ eb → pos 0 ≤ℤ m1 → IsFraction t → IsFraction u → IsFraction e → IsFraction a → IsNear t u e
    → (AnomalySineIsAtLeast eb m0 m1 t a → AnomalySineIsAtLeast eb m0 m1 u (a -ᶠ anomaly_step eb m1 e))
    × (AnomalySineIsAtMost eb m0 m1 t a → AnomalySineIsAtMost eb m0 m1 u (a +ᶠ anomaly_step eb m1 e))

-- Doubling: of an angle in units whose sine and cosine lie within ends of at most 2, what contains `2 s c` for all sines s
-- and cosines c in there has the sine of twice the angle,
abbrev pub SineDoubles : Type 0
SineDoubles = (z sl sh cl ch lo hi : ℤ) → sl ≤ℤ sh → cl ≤ℤ ch → EndsAtMost sl sh (2 * 10 ^ 18) → EndsAtMost cl ch (2 * 10 ^ 18)
    → HasSine sl sh (units z) → HasCosine cl ch (units z)
    → ((s c p q : Fraction) → LiesWithin sl sh s → LiesWithin cl ch c → LiesWithin sl sh p → LiesWithin cl ch q → LiesWithin lo hi (s *ᶠ q +ᶠ c *ᶠ p))
    → HasSine lo hi (units (z +ℤ z))

-- and what contains `c c - s s` has its cosine.
abbrev pub CosineDoubles : Type 0
CosineDoubles = (z sl sh cl ch lo hi : ℤ) → sl ≤ℤ sh → cl ≤ℤ ch → EndsAtMost sl sh (2 * 10 ^ 18) → EndsAtMost cl ch (2 * 10 ^ 18)
    → HasSine sl sh (units z) → HasCosine cl ch (units z)
    → ((s c p q : Fraction) → LiesWithin sl sh s → LiesWithin cl ch c → LiesWithin sl sh p → LiesWithin cl ch q → LiesWithin lo hi (c *ᶠ q -ᶠ s *ᶠ p))
    → HasCosine lo hi (units (z +ℤ z))

-- What has the sine of x has that of each y at most so many units away, once it is widened by as much.
abbrev pub SineMoves : Type 0
SineMoves = (lo hi by : ℤ) (x y : Fraction) → IsFraction x → IsFraction y → IsNear x y (units by) → HasSine lo hi x → HasSine (lo -ℤ by) (hi +ℤ by) y

-- The sine in the formula by two sines: where the first ends have that of M, and for each s between them the second ends
-- have that of `M + EB s`, the second ends have sin E.
abbrev pub AnomalyBySines : Type 0
AnomalyBySines = (eb m0 m1 : ℤ) (t : Fraction) (il ih lo hi : ℤ) → IsFraction t → pos 0 ≤ℤ eb → il ≤ℤ ih → HasSine il ih (mean_anomaly m0 m1 t)
    → ((s : Fraction) → IsFraction s → LiesWithin il ih s → HasSine lo hi (mean_anomaly m0 m1 t +ᶠ s *ᶠ units eb)) → HasAnomalySine eb m0 m1 t lo hi
