-- How wide a pair of enclosures, of a sine and of a cosine, may be before it is doubled.
use Rattle.std.specs.Prelude.{ℕ, ◌+◌, ◌^◌, ℤ, pos, ◌-ℤ◌, ◌≤ℤ◌}
use Rattle.st_enclosure.specs.Ends.{EndsAtMost}

-- both are at most w units wide, and no end is more than w units beyond 1
pub record AreNarrow (w : ℕ) (sine_lo sine_hi cosine_lo cosine_hi : ℤ) : Type 0 where
  pub sine : (sine_hi -ℤ sine_lo) ≤ℤ pos w
  pub cosine : (cosine_hi -ℤ cosine_lo) ≤ℤ pos w
  pub sine_ends : EndsAtMost sine_lo sine_hi (10 ^ 18 + w)
  pub cosine_ends : EndsAtMost cosine_lo cosine_hi (10 ^ 18 + w)
