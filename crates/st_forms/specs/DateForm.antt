-- The calendar dates of a time text, one case for each form. Source: Time Required Reading, of whose
-- forms these six are taken. N1 is one or two digits, N3 three, YYYY four; MON is a month's name or its
-- first three letters, in any letter case; S is a run of blanks or one `-`, the same at both places.
use Rattle.std.specs.Prelude.{ℕ, ◌≤◌, List, ◌∷◌, ◌++◌, length, codes, IsTrue}
use Rattle.st_text.specs.Bytes.{are_blanks}
use Rattle.st_dates.specs.DayText.{DayText, numeric, named, of_year, AreDayParts}

-- one or more blanks
pub record IsGap (text : List ℕ) : Type 0 where
  pub some : 1 ≤ length text
  pub blanks : IsTrue (are_blanks text)

-- what stands at the two places of S
pub data Separators : Type 0 where
  dashes : Separators
  gaps : List ℕ → List ℕ → Separators

abbrev pub first : Separators → List ℕ
first dashes = codes "-"
first (gaps s t) = s

abbrev pub second : Separators → List ℕ
second dashes = codes "-"
second (gaps s t) = t

-- the parts of a date as they stand in the text
pub data DateText : Type 0 where
  -- YYYY-N1-N1, as 1996-12-18: year, month, day
  year_month_day : List ℕ → List ℕ → List ℕ → DateText
  -- YYYY-N3, as 1996-353: year, place in the year
  year_place : List ℕ → List ℕ → DateText
  -- YYYY S MON S N1, as 1996 DEC 18 or 1996-DEC-18: year, month, day
  year_name_day : List ℕ → Separators → List ℕ → List ℕ → DateText
  -- N1 S MON S YYYY, as 18 DEC 1996: day, month, year
  day_name_year : List ℕ → Separators → List ℕ → List ℕ → DateText
  -- MON N1, YYYY, as DEC 18, 1996: month, blanks, day, blanks or none after the comma, year
  name_day_year : List ℕ → List ℕ → List ℕ → List ℕ → List ℕ → DateText
  -- N1/N1/YYYY, month first, as 12/18/1996: month, day, year
  month_day_year : List ℕ → List ℕ → List ℕ → DateText

-- the whole text of a date; 44 is the byte `,`, 45 `-` and 47 `/`
abbrev pub date_spelling : DateText → List ℕ
date_spelling (year_month_day year month day) = year ++ (45 ∷ (month ++ (45 ∷ day)))
date_spelling (year_place year place) = year ++ (45 ∷ place)
date_spelling (year_name_day year s name day) = year ++ (first s ++ (name ++ (second s ++ day)))
date_spelling (day_name_year day s name year) = day ++ (first s ++ (name ++ (second s ++ year)))
date_spelling (name_day_year name gap day blanks year) = name ++ (gap ++ (day ++ (44 ∷ (blanks ++ year))))
date_spelling (month_day_year month day year) = month ++ (47 ∷ (day ++ (47 ∷ year)))

-- the same date in a form of the dates of text kernels, by year, month or place, and day
abbrev pub day_text : DateText → DayText
day_text (year_month_day year month day) = numeric year month day
day_text (year_place year place) = of_year year place
day_text (year_name_day year s name day) = named year name day
day_text (day_name_year day s name year) = named year name day
day_text (name_day_year name gap day blanks year) = named year name day
day_text (month_day_year month day year) = numeric year month day

abbrev pub AreSeparators : Separators → Type 0
AreSeparators dashes = Unit {0}
AreSeparators (gaps s t) = IsGap s × IsGap t

-- the blanks of a date are blanks
abbrev pub IsSpaced : DateText → Type 0
IsSpaced (year_month_day year month day) = Unit {0}
IsSpaced (year_place year place) = Unit {0}
IsSpaced (year_name_day year s name day) = AreSeparators s
IsSpaced (day_name_year day s name year) = AreSeparators s
IsSpaced (name_day_year name gap day blanks year) = IsGap gap × IsTrue (are_blanks blanks)
IsSpaced (month_day_year month day year) = Unit {0}

-- what each part must be: the year four digits, the place three, a month and a day one or two, and a
-- name one of a month
abbrev pub AreDateParts : DateText → Type 0
AreDateParts date = AreDayParts (day_text date) × IsSpaced date
