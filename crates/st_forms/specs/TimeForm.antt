-- The time of day after a date. Source: Time Required Reading. It stands after a `T` or blanks; hours
-- go to 23, minutes to 59 and seconds to 60.
use Rattle.std.specs.Prelude.{◌≢◌, ℕ, ◌*◌, ◌^◌, ◌≤◌, ◌⊎◌, List, codes}
use Rattle.st_dates.specs.Names.{AreSameLetters}
use Rattle.st_dates.specs.TimeText.{AreClockParts, minute_of, second_units, TimeText, midnight, after_mark}
use Rattle.st_forms.specs.DateForm.{IsGap}

-- `T` in any letter case, or blanks
abbrev pub IsTimeMark : List ℕ → Type 0
IsTimeMark mark = AreSameLetters mark (codes "T") ⊎ IsGap mark

abbrev pub AreTimeParts : TimeText → Type 0
AreTimeParts midnight = Unit {0}
AreTimeParts (after_mark mark clock) = IsTimeMark mark × AreClockParts 60 clock

-- the seconds of a time are 60 in another minute than 23:59, which is minute 1439 of the day
abbrev pub IsNoSecond : TimeText → Type 0
IsNoSecond midnight = ⊥
IsNoSecond (after_mark mark clock) = (60 * 10 ^ 18 ≤ second_units clock) × (minute_of clock ≢ 1439)
