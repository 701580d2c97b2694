-- How a value is read, as functions on bytes: each is the twin of a function of the code.
use Rattle.std.specs.Prelude.{ℕ, ℤ, Bool, true, List, [], ◌∷◌, length, Option, Some, None, Result, Ok, Err, ◌==◌, nat_lt, if◌then◌else◌}
use Rattle.st_decimal.specs.declared.number.Dec.{Dec}
use Rattle.st_decimal.specs.declared.number.DecFault.{DecFault}
use Rattle.st_decimal.specs.NumberMachine.{dec_of}
use Rattle.st_decimal.specs.ScalingMachine.{dec_of_units18}
use Rattle.st_dates.specs.declared.fault.DateFault.{DateFault}
use Rattle.st_dates.specs.AtDateMachine.{at_date_of}
use Rattle.st_kernel_text.specs.Grammar.{same_kind}
use Rattle.st_kernel_text.specs.declared.value.Value.{Value}

abbrev pub dated : Result ℤ DateFault → Option Dec
dated (Ok z) = Some (dec_of_units18 z)
dated (Err e) = None

abbrev pub numbered_value : Result Dec DecFault → Option Dec
numbered_value (Ok d) = Some d
numbered_value (Err e) = None

abbrev pub date_number : List ℕ → Option Dec
date_number text = dated (at_date_of text)

abbrev pub short_number : List ℕ → Option Dec
short_number run = if nat_lt 1000 (length run) then None else numbered_value (dec_of run)

-- the number that a run of bytes spells: a date after an `@`, else a number. No line has more than
-- 1,000 bytes
unfoldable pub number_of_run : List ℕ → Option Dec
number_of_run [] = None
number_of_run (b ∷ t) =
    if b == 64 then date_number t else short_number (b ∷ t)

-- whether a value has the kind of the first of those before it
abbrev pub fits : List Value → Value → Bool
fits [] v = true
fits (first ∷ more) v = same_kind first v
