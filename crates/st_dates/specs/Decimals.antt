-- The decimals of a second as they stand after it, and their count of 10^-18 s. That at most 12 of
-- them are taken is a choice of this project.
use Rattle.std.specs.Prelude.{◌≡◌, ℕ, ◌-◌, ◌*◌, ◌^◌, List, [], ◌∷◌, length}
use Rattle.st_text.specs.Ascii.{point}
use Rattle.st_text.specs.Bytes.{number_of}
use Rattle.st_text.specs.Scan.{IsDigitRun}

-- what decimals stand for, in units of 10^-18
abbrev pub units_of_decimals : List ℕ → ℕ
units_of_decimals digits = number_of digits * 10 ^ (18 - length digits)

-- no text, which stands for no units, or a point and 1 to 12 decimals
abbrev pub SpellsDecimals : List ℕ → ℕ → Type 0
SpellsDecimals [] units = units ≡ 0
SpellsDecimals (b ∷ digits) units =
    (b ≡ point) × IsDigitRun 1 12 digits × (units ≡ units_of_decimals digits)
