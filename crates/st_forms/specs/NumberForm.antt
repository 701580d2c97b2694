-- The decimals of a time text, which count days or seconds: digits, and a point and 1 to 12 digits where
-- there is one. That at most 12 decimals are taken is a choice of this project.
use Rattle.std.specs.Prelude.{ℕ, ◌+◌, ◌*◌, ◌^◌, ◌≤◌, List, ◌++◌, length, Option, Some, None, IsTrue}
use Rattle.st_text.specs.Bytes.{are_digits, number_of}
use Rattle.st_text.specs.Scan.{IsDigitRun}
use Rattle.st_dates.specs.Decimals.{units_of_decimals}
use Rattle.st_decimal.specs.Number.{pointed}

-- a decimal as it is written: the digits, and those after a point where there is one
pub record NumberText : Type 0 where
  pub whole : List ℕ
  pub decimals : Option (List ℕ)

abbrev pub number_spelling : NumberText → List ℕ
number_spelling n = n.whole ++ pointed n.decimals

abbrev pub AreDecimals : Option (List ℕ) → Type 0
AreDecimals None = Unit {0}
AreDecimals (Some digits) = IsDigitRun 1 12 digits

-- there is a digit before the point
pub record AreNumberParts (n : NumberText) : Type 0 where
  pub digits : IsTrue (are_digits n.whole)
  pub some : 1 ≤ length n.whole
  pub decimals : AreDecimals n.decimals

abbrev pub decimal_part : Option (List ℕ) → ℕ
decimal_part None = 0
decimal_part (Some digits) = units_of_decimals digits

-- the value in units of 10^-18
abbrev pub number_units : NumberText → ℕ
number_units n = number_of n.whole * 10 ^ 18 + decimal_part n.decimals
