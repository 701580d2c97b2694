-- A date of a text kernel as it is written by a program: YYYY-MM-DD. Source: Time Required Reading.
use Rattle.std.specs.Prelude.{ℕ, List, ◌∷◌, ◌++◌, ◌<◌, ℤ, Ok, unsigned_abs}
use Rattle.st_text.specs.Ascii.{dash}
use Rattle.st_text.specs.Bytes.{padded}
use Rattle.st_dates.specs.AtDate.{ReadsAtDate, moment}
use Rattle.st_dates.specs.Civil.{IsCivil}
use Rattle.st_dates.specs.Range.{IsInRange}
use Rattle.st_dates.specs.declared.civil.Civil.{Civil}

-- the year in four digits, the month and the day in two
abbrev pub date_text : Civil → List ℕ
date_text c = padded 4 (unsigned_abs c.year) ++ (dash ∷ (padded 2 c.month ++ (dash ∷ padded 2 c.day)))

-- A day of the range of times that is written so is read as the moment at which it begins.
abbrev pub DateReads : Type 0
DateReads =
    (n : ℤ) (c : Civil) → IsCivil n c → unsigned_abs c.year < 10_000 → IsInRange (moment n 0)
    → ReadsAtDate (date_text c) (Ok (moment n 0))
