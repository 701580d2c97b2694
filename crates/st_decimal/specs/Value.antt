-- The value of a number's parts, and the answer of the reader of numbers.
use Rattle.std.specs.Prelude.{◌≡◌, ◌≢◌, ℕ, zero, suc, ℤ, pos, negsuc, neg_ℤ, ◌+ℤ◌, ◌-ℤ◌, ◌*◌, ◌%◌, ◌^◌, ◌<◌, ◌≤◌, Bool, true, false, List, [], ◌∷◌, ◌++◌, length, Option, Some, None, Result, Ok, Err, ◌==◌, if◌then◌else◌, unsigned_abs}
use Rattle.std.specs.List.{list_all}
use Rattle.st_text.specs.Ascii.{dash, digit_zero}
use Rattle.st_decimal.specs.Limits.{most_digits, most_exponent}
use Rattle.st_text.specs.Bytes.{number_of}
use Rattle.st_decimal.specs.declared.number.Dec.{Dec}
use Rattle.st_decimal.specs.declared.number.DecFault.{DecFault}
use Rattle.st_decimal.specs.declared.number.DecFault.TheVariants.{Empty, BadByte, TooManyDigits, BadExponent}
use Rattle.st_decimal.specs.Number.{Parts, Exponent, AreParts, StopsAt, spelling, decimals_of}

-- the digit 0
abbrev pub is_zero : ℕ → Bool
is_zero b = b == digit_zero

abbrev pub are_zeros : List ℕ → Bool
are_zeros digits = list_all is_zero digits

-- the digits from the first on that is not 0
abbrev pub skip_zeros : List ℕ → List ℕ
skip_zeros [] = []
skip_zeros (b ∷ bs) = if is_zero b then skip_zeros bs else b ∷ bs

-- the digits up to the last that is not 0
abbrev pub without_end_zeros : List ℕ → List ℕ
without_end_zeros [] = []
without_end_zeros (b ∷ bs) = if are_zeros (b ∷ bs) then [] else b ∷ without_end_zeros bs

-- all digits, without the point
abbrev pub digits_of : Parts → List ℕ
digits_of p = p.whole ++ decimals_of p.decimals

-- how many digits stand from the first nonzero digit to the last
abbrev pub significant : List ℕ → ℕ
significant digits = length (skip_zeros (without_end_zeros digits))

-- whether a text begins with `-`
abbrev pub is_minus : List ℕ → Bool
is_minus [] = false
is_minus (b ∷ more) = b == dash

abbrev pub is_negative : ℤ → Bool
is_negative (pos n) = false
is_negative (negsuc n) = true

-- a magnitude with its sign
abbrev pub signed : Bool → ℕ → ℤ
signed true n = neg_ℤ (pos n)
signed false n = pos n

-- the number after the mark, and its magnitude; 0 where there is no exponent
abbrev pub exponent_of : Option Exponent → ℤ
exponent_of None = pos 0
exponent_of (Some e) = signed (is_minus e.sign) (number_of e.digits)

abbrev pub exponent_size : Option Exponent → ℕ
exponent_size None = 0
exponent_size (Some e) = number_of e.digits

-- the decimal is n times ten to the given power, by the one pair whose digits are no multiple of
-- ten, or by two zeros
abbrev pub IsScaled : Bool → ℕ → ℤ → Dec → Type 0
IsScaled minus zero tens d = (d.digits ≡ pos 0) × (d.tens ≡ pos 0)
IsScaled minus (suc n) tens d =
    (m k : ℕ) × (suc n ≡ m * 10 ^ k) × (m % 10 ≢ 0)
    × (d.digits ≡ signed minus m) × (d.tens ≡ (tens +ℤ pos k))

-- the decimal of a count of units of 10^-18
abbrev pub IsOfUnits18 : ℤ → Dec → Type 0
IsOfUnits18 units d = IsScaled (is_negative units) (unsigned_abs units) (negsuc 17) d

-- the digits without the point, times ten to the exponent less the count of decimals
abbrev pub IsValue : Parts → Dec → Type 0
IsValue p d =
    IsScaled (is_minus p.sign) (number_of (digits_of p))
    (exponent_of p.exponent -ℤ pos (length (decimals_of p.decimals))) d

-- what the reader answers to a text. The limits are this project's own
abbrev pub ReadsDec : List ℕ → Result Dec DecFault → Type 0
ReadsDec text (Ok d) =
    (p : Parts) × AreParts p × (text ≡ spelling p) × (significant (digits_of p) ≤ most_digits)
    × (exponent_size p.exponent ≤ most_exponent) × IsValue p d
ReadsDec text (Err Empty) = text ≡ []
ReadsDec text (Err (BadByte k)) = (0 < length text) × StopsAt text k
ReadsDec text (Err TooManyDigits) =
    (p : Parts) × AreParts p × (text ≡ spelling p) × (most_digits < significant (digits_of p))
ReadsDec text (Err BadExponent) =
    (p : Parts) × AreParts p × (text ≡ spelling p) × (significant (digits_of p) ≤ most_digits)
    × (most_exponent < exponent_size p.exponent)
