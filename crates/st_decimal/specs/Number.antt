-- The numbers of text kernels, after NAIF's Kernel Required Reading: an optional
-- sign, digits with an optional point, and an optional exponent after `E`, `e`, `D` or `d`. The
-- parts are the bytes as they stand in the text.
use Rattle.std.specs.Prelude.{◌≡◌, ℕ, ◌+◌, ◌<◌, ◌≤◌, Bool, List, [], ◌∷◌, ◌++◌, length, take, Option, Some, None, ◌==◌, ◌||◌, IsTrue, ⊤}
use Rattle.st_text.specs.Ascii.{plus, dash, point}
use Rattle.st_text.specs.Bytes.{are_digits}

-- `+` or `-`
abbrev pub is_sign : ℕ → Bool
is_sign b = (b == plus) || (b == dash)

-- `E`, `e`, `D` or `d`
abbrev pub is_mark : ℕ → Bool
is_mark b = (b == 69) || (b == 101) || (b == 68) || (b == 100)

pub record Exponent : Type 0 where
  pub mark : ℕ
  pub sign : List ℕ
  pub digits : List ℕ

pub record Parts : Type 0 where
  pub sign : List ℕ
  pub whole : List ℕ
  -- the digits after the point, where there is a point
  pub decimals : Option (List ℕ)
  pub exponent : Option Exponent

abbrev pub pointed : Option (List ℕ) → List ℕ
pointed None = []
pointed (Some digits) = point ∷ digits

abbrev pub marked : Option Exponent → List ℕ
marked None = []
marked (Some e) = e.mark ∷ (e.sign ++ e.digits)

-- the text of the parts
abbrev pub spelling : Parts → List ℕ
spelling p = p.sign ++ (p.whole ++ (pointed p.decimals ++ marked p.exponent))

abbrev pub decimals_of : Option (List ℕ) → List ℕ
decimals_of None = []
decimals_of (Some digits) = digits

-- nothing, or one sign
abbrev pub IsOptionalSign : List ℕ → Type 0
IsOptionalSign [] = ⊤
IsOptionalSign (b ∷ []) = IsTrue (is_sign b)
IsOptionalSign (b ∷ c ∷ more) = ⊥

pub record IsExponent (e : Exponent) : Type 0 where
  pub mark : IsTrue (is_mark e.mark)
  pub sign : IsOptionalSign e.sign
  pub digits : IsTrue (are_digits e.digits)
  pub some : 0 < length e.digits

abbrev pub IsOptionalExponent : Option Exponent → Type 0
IsOptionalExponent None = ⊤
IsOptionalExponent (Some e) = IsExponent e

-- at least one digit stands before or after the point
pub record AreParts (p : Parts) : Type 0 where
  pub sign : IsOptionalSign p.sign
  pub whole : IsTrue (are_digits p.whole)
  pub decimals : IsTrue (are_digits (decimals_of p.decimals))
  pub some : 0 < length p.whole + length (decimals_of p.decimals)
  pub exponent : IsOptionalExponent p.exponent

abbrev pub IsNumber : List ℕ → Type 0
IsNumber text = (p : Parts) × AreParts p × (text ≡ spelling p)

-- something that follows the text makes it a number
abbrev pub BeginsNumber : List ℕ → Type 0
BeginsNumber text = (rest : List ℕ) × IsNumber (text ++ rest)

-- k is the first place at which the text stops being a beginning of a number, or its length where
-- all of it begins a number and it is none
pub record StopsAt (text : List ℕ) (k : ℕ) : Type 0 where
  pub within : k ≤ length text
  pub before : BeginsNumber (take k text)
  pub after : k < length text → BeginsNumber (take (k + 1) text) → ⊥
  pub whole : k ≡ length text → IsNumber text → ⊥
