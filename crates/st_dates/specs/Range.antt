-- The range of times: from 1800-01-01 00:00 to 2200-01-01 00:00, as formal counts in units of
-- 10^-18 s past 2000-01-01 12:00:00. The bounds are a choice of this project.
use Rattle.std.specs.Prelude.{ℤ, pos, neg_ℤ, ◌≤ℤ◌}
use Rattle.st_dates.specs.Label.{formal}
use Rattle.st_dates.specs.declared.label.Label.{Label}

abbrev pub range_start : ℤ
range_start = neg_ℤ (pos 6_311_390_400_000_000_000_000_000_000)

abbrev pub range_end : ℤ
range_end = pos 6_311_390_400_000_000_000_000_000_000

-- a formal count in the range, both bounds included
abbrev pub IsInRange : ℤ → Type 0
IsInRange z = (range_start ≤ℤ z) × (z ≤ℤ range_end)

-- a label lies in the range
abbrev pub LiesInRange : Label → Type 0
LiesInRange label = IsInRange (formal label)
