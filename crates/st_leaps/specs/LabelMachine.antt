-- The start of a day as the code counts it.
use Rattle.std.specs.Prelude.{ℤ, pos, ◌+ℤ◌, ◌*ℤ◌}
use Rattle.st_dates.specs.Label.{formal}

-- TAI at the start of a day, in units of 10^-18 s past J2000: its formal count and its seconds
unfoldable pub start_units : (ℤ → ℤ) → ℤ → ℤ
start_units count day =
    formal (record { day = day; of_day = pos 0 }) +ℤ (count day *ℤ pos 1_000_000_000_000_000_000)
