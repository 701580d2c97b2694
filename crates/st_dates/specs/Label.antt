-- Labels and their formal count. Source: Time Required Reading, which counts formal seconds of the
-- calendar from the epoch J2000, 2000-01-01 12:00:00.
use Rattle.std.specs.Prelude.{ℤ, pos, neg_ℤ, ◌+ℤ◌, ◌-ℤ◌, ◌*ℤ◌, ◌<ℤ◌, ◌≤ℤ◌}
use Rattle.st_dates.specs.declared.label.Label.{Label}

-- seconds of formal counts as units of 10^-18 s
abbrev pub units : ℤ → ℤ
units seconds = seconds *ℤ pos 1_000_000_000_000_000_000

-- The formal count of a label, in units past 2000-01-01 12:00:00: its day's 86,400 seconds each,
-- less the half day from midnight to noon, and what has passed of its day.
abbrev pub formal : Label → ℤ
formal label = units ((label.day *ℤ pos 86_400) -ℤ pos 43_200) +ℤ label.of_day

-- a formal count that calls take: at most 6,311,600,000 s in magnitude
abbrev pub IsFormal : ℤ → Type 0
IsFormal z =
    (neg_ℤ (pos 6_311_600_000_000_000_000_000_000_000) ≤ℤ z)
    × (z ≤ℤ pos 6_311_600_000_000_000_000_000_000_000)

-- a label of a day of 86,400 s: what has passed of it is from 0 to less than that
pub record IsPlainLabel (label : Label) : Type 0 where
  pub from : pos 0 ≤ℤ label.of_day
  pub to : label.of_day <ℤ units (pos 86_400)
