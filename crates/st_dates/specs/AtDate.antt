-- The dates of a text kernel: what stands after the `@`. Source: Kernel Required Reading, which
-- takes dates by the forms of Time Required Reading; those that are taken are in DayText and
-- TimeText. Its value is the formal count of seconds past 2000-01-01 12:00:00, every day having
-- 86,400 s.
use Rattle.std.specs.Prelude.{◌≡◌, ℕ, List, ◌++◌, ℤ, pos, Result, Ok, Err}
use Rattle.st_dates.specs.DayText.{DayText, day_spelling, AreDayParts, IsDayOf}
use Rattle.st_dates.specs.Label.{formal}
use Rattle.st_dates.specs.Range.{IsInRange}
use Rattle.st_dates.specs.TimeText.{TimeText, time_spelling, AreTimeParts, time_units}
use Rattle.st_dates.specs.declared.fault.DateFault.{DateFault}
use Rattle.st_dates.specs.declared.fault.DateFault.TheVariants.{Form, NoSuchDay, OutOfRange}

-- a date as it is written
pub record Written : Type 0 where
  pub day : DayText
  pub time : TimeText

-- the text is a date, and these are its parts
pub record Spells (w : Written) (text : List ℕ) : Type 0 where
  pub day_parts : AreDayParts w.day
  pub time_parts : AreTimeParts w.time
  pub whole : text ≡ day_spelling w.day ++ time_spelling w.time

-- the formal count of a moment of a day, in units of 10^-18 s
abbrev pub moment : ℤ → ℕ → ℤ
moment n units = formal (record { day = n; of_day = pos units })

-- the calendar has the written day, and z is the moment of that day
abbrev pub IsMomentOf : Written → ℤ → Type 0
IsMomentOf w z = (n : ℤ) × IsDayOf w.day n × (z ≡ moment n (time_units w.time))

-- what reading the text after an `@` may answer
abbrev pub ReadsAtDate : List ℕ → Result ℤ DateFault → Type 0
ReadsAtDate text (Ok z) = (w : Written) × Spells w text × IsMomentOf w z × IsInRange z
ReadsAtDate text (Err Form) = (w : Written) → Spells w text → ⊥
ReadsAtDate text (Err NoSuchDay) =
    (w : Written) × Spells w text × ((n : ℤ) → IsDayOf w.day n → ⊥)
ReadsAtDate text (Err OutOfRange) =
    (w : Written) × (z : ℤ) × Spells w text × IsMomentOf w z × (IsInRange z → ⊥)
