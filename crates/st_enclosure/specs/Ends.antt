-- What is said of the ends of an enclosure.
use Rattle.std.specs.Prelude.{◌≡◌, ℕ, ℤ, pos, neg_ℤ, ◌*ℤ◌, ◌≤ℤ◌, ◌⊎◌}

-- no end is more than n units from 0; lo ≤ hi stands in every enclosure, so two bounds say it
pub record EndsAtMost (lo hi : ℤ) (n : ℕ) : Type 0 where
  pub low : neg_ℤ (pos n) ≤ℤ lo
  pub high : hi ≤ℤ pos n

abbrev pub IsEither : ℤ → ℤ → ℤ → Type 0
IsEither a b e = (e ≡ a) ⊎ (e ≡ b)

abbrev pub IsOneOf : ℤ → ℤ → ℤ → ℤ → ℤ → Type 0
IsOneOf a b c d e = (e ≡ a) ⊎ ((e ≡ b) ⊎ ((e ≡ c) ⊎ (e ≡ d)))

-- m is an end of the one times an end of the other
abbrev pub IsProductOfEnds : ℤ → ℤ → ℤ → ℤ → ℤ → Type 0
IsProductOfEnds a b c d m = IsOneOf (a *ℤ c) (a *ℤ d) (b *ℤ c) (b *ℤ d) m
