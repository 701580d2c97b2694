-- Decimals with a fixed count of places, as text.
use Rattle.std.specs.Prelude.{ℕ, ℤ, pos, negsuc, ◌/◌, ◌%◌, ◌^◌, List, [], ◌∷◌, ◌++◌, ◌==◌, if◌then◌else◌, unsigned_abs}
use Rattle.st_text.specs.Ascii.{dash, point}
use Rattle.st_text.specs.Bytes.{decimal_digits, padded}

-- `-` before a negative number; zero is none
abbrev pub sign : ℤ → List ℕ
sign (pos n) = []
sign (negsuc n) = dash ∷ []

-- the point and the decimals after it, and neither for no places
abbrev pub decimals : ℕ → ℕ → List ℕ
decimals places n = if places == 0 then [] else point ∷ padded places n

-- n / 10^places, with exactly `places` decimals
abbrev pub fixed : ℤ → ℕ → List ℕ
fixed n places =
    sign n
    ++ decimal_digits (unsigned_abs n / 10 ^ places)
    ++ decimals places (unsigned_abs n % 10 ^ places)
