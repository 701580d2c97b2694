-- Bytes of a text: blanks, and the digits that write a number.
use Rattle.std.specs.Prelude.{ℕ, ◌+◌, ◌-◌, ◌*◌, ◌^◌, Bool, List, [], ◌∷◌, ◌++◌, length, map, replicate, ◌==◌, ◌||◌}
use Rattle.std.specs.Char.{is_ascii_digit}
use Rattle.std.specs.Int.Digits.{digits_of}
use Rattle.std.specs.List.{list_all}
use Rattle.st_text.specs.Ascii.{tab, space, digit_zero}

-- a space or a tab, which NAIF's Kernel Required Reading counts as blanks
abbrev pub is_blank : ℕ → Bool
is_blank b = (b == space) || (b == tab)

-- whether every byte is a blank; so is each byte of a text that has none
abbrev pub are_blanks : List ℕ → Bool
are_blanks text = list_all is_blank text

-- whether every byte is a digit; so is each byte of a text that has none
abbrev pub are_digits : List ℕ → Bool
are_digits text = list_all is_ascii_digit text

-- the number that digits spell: the sum of each digit times the power of ten of its place
abbrev pub number_of : List ℕ → ℕ
number_of [] = 0
number_of (b ∷ bs) = (b - digit_zero) * 10 ^ length bs + number_of bs

-- the digits of a number, the most significant first, with zeros before them where they are fewer
-- than the width; std's digits of 0 are none, so 0 is as many zeros as the width says
abbrev pub padded : ℕ → ℕ → List ℕ
padded width n =
    replicate (width - length (digits_of 10 n)) digit_zero ++ map (λ d. digit_zero + d) (digits_of 10 n)

-- the digits of a number, and the one digit 0 for zero
abbrev pub decimal_digits : ℕ → List ℕ
decimal_digits n = padded 1 n
