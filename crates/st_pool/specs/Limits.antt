-- The limits of the pool, which are this project's own.
use Rattle.std.specs.Prelude.{ℕ}

-- the most kernels that may be loaded at a time
abbrev pub most_kernels : ℕ
most_kernels = 1_000

-- the most values that the loaded kernels may have together
abbrev pub most_values : ℕ
most_values = 2_000_000
