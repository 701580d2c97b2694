-- How a decimal is read. A number of days or seconds that is far out of the range is read as the least
-- of these.
use Rattle.std.specs.Prelude.{ℕ, ◌+◌, ◌*◌, ◌^◌, ◌==◌, min, List, length, Option, Some, None, if◌then◌else◌}
use Rattle.st_text.specs.Bytes.{number_of}
use Rattle.st_text.specs.Scan.{◌>>=◌, leading_digits, past_digits}
use Rattle.st_dates.specs.TimeTextMachine.{decimal_units}
use Rattle.st_forms.specs.declared.number.TheConstants.{FAR}

abbrev pub capped : List ℕ → ℕ
capped digits = min (number_of digits) FAR

-- a decimal and nothing else, in units of 10^-18
unfoldable pub number_of_text : List ℕ → Option ℕ
number_of_text text =
    if length (leading_digits text) == 0 then None
    else (decimal_units (past_digits text)
    >>= λ part. Some (capped (leading_digits text) * 10 ^ 18 + part))
