-- The time of day as it is written after a day. Source: Time Required Reading, for hours, minutes
-- and seconds with colons between them; which marks may stand before them is a choice of this
-- project.
use Rattle.std.specs.Prelude.{◌≡◌, ℕ, ◌+◌, ◌*◌, ◌^◌, ◌≤◌, ◌⊎◌, List, [], ◌∷◌, ◌++◌, codes}
use Rattle.st_text.specs.Ascii.{point, colon}
use Rattle.st_text.specs.Bytes.{number_of}
use Rattle.st_dates.specs.Decimals.{units_of_decimals}
use Rattle.st_dates.specs.declared.clock.TimeOfDay.{TimeOfDay}
use Rattle.st_text.specs.Scan.{IsDigitRun}

-- the parts of a time as they stand in the text, one case for each form
pub data Clock : Type 0 where
  -- H:MM: hour, minute
  minutes : List ℕ → List ℕ → Clock
  -- H:MM:SS: hour, minute, second
  seconds : List ℕ → List ℕ → List ℕ → Clock
  -- H:MM:SS.f: hour, minute, second, decimals of the second
  decimals : List ℕ → List ℕ → List ℕ → List ℕ → Clock

-- the whole text of a time
abbrev pub clock_spelling : Clock → List ℕ
clock_spelling (minutes h m) = h ++ (colon ∷ m)
clock_spelling (seconds h m s) = h ++ (colon ∷ (m ++ (colon ∷ s)))
clock_spelling (decimals h m s f) = h ++ (colon ∷ (m ++ (colon ∷ (s ++ (point ∷ f)))))

-- one or two digits, and a number that is at most the last of its kind
pub record IsField (last : ℕ) (text : List ℕ) : Type 0 where
  pub digits : IsDigitRun 1 2 text
  pub within : number_of text ≤ last

-- what each part must be: hours to 23, minutes to 59, and seconds to the last that is taken
abbrev pub AreClockParts : ℕ → Clock → Type 0
AreClockParts last (minutes h m) = IsField 23 h × IsField 59 m
AreClockParts last (seconds h m s) = IsField 23 h × IsField 59 m × IsField last s
AreClockParts last (decimals h m s f) =
    IsField 23 h × IsField 59 m × IsField last s × IsDigitRun 1 12 f

-- the minute of the day, from 0 to 1439
abbrev pub minute_of : Clock → ℕ
minute_of (minutes h m) = 60 * number_of h + number_of m
minute_of (seconds h m s) = 60 * number_of h + number_of m
minute_of (decimals h m s f) = 60 * number_of h + number_of m

-- the seconds of that minute, in units of 10^-18 s
abbrev pub second_units : Clock → ℕ
second_units (minutes h m) = 0
second_units (seconds h m s) = number_of s * 10 ^ 18
second_units (decimals h m s f) = number_of s * 10 ^ 18 + units_of_decimals f

-- the units of a day that have passed at a time
abbrev pub clock_units : Clock → ℕ
clock_units clock = minute_of clock * (60 * 10 ^ 18) + second_units clock

-- the text is a time, and this is its minute and what has passed of it
abbrev pub SpellsClock : ℕ → List ℕ → TimeOfDay → Type 0
SpellsClock last text time =
    (clock : Clock) × AreClockParts last clock × (text ≡ clock_spelling clock)
    × (time.minute ≡ minute_of clock) × (time.units ≡ second_units clock)

-- what may stand between a day and a time: `/`, `//`, `T`, `t` or `-`
abbrev pub IsMark : List ℕ → Type 0
IsMark text =
    (text ≡ codes "/") ⊎ ((text ≡ codes "//") ⊎ ((text ≡ codes "T") ⊎ ((text ≡ codes "t") ⊎ (text ≡ codes "-"))))

-- what stands after a day: nothing, or a mark and a time
pub data TimeText : Type 0 where
  midnight : TimeText
  after_mark : List ℕ → Clock → TimeText

abbrev pub time_spelling : TimeText → List ℕ
time_spelling midnight = []
time_spelling (after_mark mark clock) = mark ++ clock_spelling clock

abbrev pub AreTimeParts : TimeText → Type 0
AreTimeParts midnight = Unit {0}
AreTimeParts (after_mark mark clock) = IsMark mark × AreClockParts 59 clock

abbrev pub time_units : TimeText → ℕ
time_units midnight = 0
time_units (after_mark mark clock) = clock_units clock
