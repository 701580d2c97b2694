-- How the time after a day is read: a mark, then fields from the left.
use Rattle.std.specs.Prelude.{ℕ, ◌+◌, ◌*◌, ◌^◌, ◌&&◌, ◌||◌, ◌==◌, nat_le, List, [], ◌∷◌, Option, Some, None, if◌then◌else◌}
use Rattle.st_text.specs.Bytes.{number_of}
use Rattle.st_dates.specs.Decimals.{units_of_decimals}
use Rattle.st_dates.specs.declared.clock.TimeOfDay.{TimeOfDay}
use Rattle.st_text.specs.Scan.{◌>>=◌, leading_digits, past_digits, after, is_digit_run}

-- a field that is at most `last`, and the rest
unfoldable pub field : ℕ → List ℕ → Option (ℕ × List ℕ)
field last text =
    if is_digit_run 1 2 (leading_digits text) && nat_le (number_of (leading_digits text)) last
    then Some (number_of (leading_digits text), past_digits text)
    else None

-- decimals of a second as units, after a point, or nothing
unfoldable pub decimal_units : List ℕ → Option ℕ
decimal_units [] = Some 0
decimal_units (b ∷ t) =
    if (b == 46) && is_digit_run 1 12 t then Some (units_of_decimals t) else None

-- seconds up to the last that is taken as units, after a colon, or nothing
unfoldable pub seconds_of : ℕ → List ℕ → Option ℕ
seconds_of last [] = Some 0
seconds_of last (b ∷ t) =
    after 58 (b ∷ t) >>= λ u. field last u
    >>= λ s. decimal_units s.1
    >>= λ part. Some (s.0 * 10 ^ 18 + part)

-- a time and nothing else
unfoldable pub clock_of : ℕ → List ℕ → Option TimeOfDay
clock_of last text =
    field 23 text
    >>= λ h. after 58 h.1
    >>= λ t. field 59 t
    >>= λ m. seconds_of last m.1
    >>= λ units. Some (record { minute = 60 * h.0 + m.0; units = units })

-- the units of a day that have passed at a time
abbrev pub day_units : TimeOfDay → ℕ
day_units time = time.minute * (60 * 10 ^ 18) + time.units

-- the text without a slash that it begins with
unfoldable pub past_slash : List ℕ → List ℕ
past_slash [] = []
past_slash (b ∷ t) = if b == 47 then t else b ∷ t

-- what stands after `/`, `//`, `T`, `t` or `-`
unfoldable pub past_mark : List ℕ → Option (List ℕ)
past_mark [] = None
past_mark (b ∷ t) =
    if b == 47 then Some (past_slash t)
    else (if (b == 84) || (b == 116) || (b == 45) then Some t else None)

-- the units of the day that the text after a day tells
unfoldable pub time_of_text : List ℕ → Option ℕ
time_of_text [] = Some 0
time_of_text (b ∷ t) = past_mark (b ∷ t) >>= λ u. clock_of 59 u >>= λ time. Some (day_units time)
