-- Whole numbers times powers of ten, by magnitude and sign, as the code works them out.
use Rattle.std.specs.Prelude.{◌≡◌, ℕ, zero, suc, ℤ, pos, negsuc, ◌+ℤ◌, ◌+◌, ◌*◌, ◌/◌, ◌%◌, ◌^◌, ◌==◌, if◌then◌else◌, unsigned_abs}
use Rattle.st_decimal.specs.declared.number.Dec.{Dec}
use Rattle.st_decimal.specs.Value.{is_negative, signed}

-- m is size times ten to the power, where that is whole
abbrev pub IsSizeTimesTen : ℕ → ℤ → ℕ → Type 0
IsSizeTimesTen size (pos k) m = m ≡ size * 10 ^ k
IsSizeTimesTen size (negsuc k) m = m * 10 ^ suc k ≡ size

-- a magnitude with the sign of n
abbrev pub with_sign_of : ℤ → ℕ → ℤ
with_sign_of n m = signed (is_negative n) m

-- a number without the zeros at its end, at most so many of them, and how many there were
unfoldable pub strip_of : ℕ → ℕ → ℕ → ℕ × ℕ
strip_of zero n zeros = (n, zeros)
strip_of (suc more) n zeros = if n % 10 == 0 then strip_of more (n / 10) (zeros + 1) else (n, zeros)

abbrev pub stripped : ℤ → ℕ × ℕ
stripped z = strip_of 38 (unsigned_abs z) 0

-- the decimal of a count of units of 10^-18
unfoldable pub dec_of_units18 : ℤ → Dec
dec_of_units18 z =
    if unsigned_abs z == 0 then record { digits = pos 0; tens = pos 0 }
    else record { digits = with_sign_of z (stripped z).0; tens = negsuc 17 +ℤ pos (stripped z).1 }
