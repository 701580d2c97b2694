-- The marks of time pictures and their spelling. Source: Time Required Reading, on time pictures. The selection of marks,
-- and `::TAI`, are this project's own.
use Rattle.std.specs.Prelude.{◌≡◌, ℕ, zero, suc, ◌≤◌, List, [], ◌∷◌, ◌++◌, length, codes}
use Rattle.std.specs.List.{flat_map, repeat}
use Rattle.st_picture.specs.declared.mark.Case.TheVariants.{Upper, Capital, Lower}
use Rattle.st_picture.specs.declared.mark.Mark.{Mark}
use Rattle.st_picture.specs.declared.mark.Mark.TheVariants.{Year, Month, MonthShort, MonthName, DayOfMonth, DayOfYear, WeekdayShort, WeekdayName, Hour, HourOfHalf, Minute, Second, HalfUpper, HalfLower, Seconds, JulianDate, Scale, Round, Truncate}
use Rattle.st_picture.specs.declared.mark.Piece.{Piece}
use Rattle.st_picture.specs.declared.mark.Piece.TheVariants.{Marked, Plain}
use Rattle.st_picture.specs.declared.mark.ScaleMark.TheVariants.{Utc, Tai, Tdb, Tdt}

-- a point and as many `#` as decimals, and neither for none
abbrev pub hashes : ℕ → List ℕ
hashes zero = []
hashes (suc p) = codes "." ++ repeat (suc p) (codes "#")

-- the letters of a mark
abbrev pub stem_of : Mark → List ℕ
stem_of Year = codes "YYYY"
stem_of Month = codes "MM"
stem_of (MonthShort Upper) = codes "MON"
stem_of (MonthShort Capital) = codes "Mon"
stem_of (MonthShort Lower) = codes "mon"
stem_of (MonthName Upper) = codes "MONTH"
stem_of (MonthName Capital) = codes "Month"
stem_of (MonthName Lower) = codes "month"
stem_of DayOfMonth = codes "DD"
stem_of DayOfYear = codes "DOY"
stem_of (WeekdayShort Upper) = codes "WKD"
stem_of (WeekdayShort Capital) = codes "Wkd"
stem_of (WeekdayShort Lower) = codes "wkd"
stem_of (WeekdayName Upper) = codes "WEEKDAY"
stem_of (WeekdayName Capital) = codes "Weekday"
stem_of (WeekdayName Lower) = codes "weekday"
stem_of Hour = codes "HR"
stem_of HourOfHalf = codes "AP"
stem_of Minute = codes "MN"
stem_of (Second places) = codes "SC"
stem_of HalfUpper = codes "AMPM"
stem_of HalfLower = codes "ampm"
stem_of (Seconds places) = codes "SP2000"
stem_of (JulianDate places) = codes "JULIAND"
stem_of (Scale Utc) = codes "::UTC"
stem_of (Scale Tai) = codes "::TAI"
stem_of (Scale Tdb) = codes "::TDB"
stem_of (Scale Tdt) = codes "::TDT"
stem_of Round = codes "::RND"
stem_of Truncate = codes "::TRNC"

-- the decimals of a mark
abbrev pub places_of : Mark → ℕ
places_of (Second places) = places
places_of (Seconds places) = places
places_of (JulianDate places) = places
places_of mark = 0

-- a mark as it stands in a picture
abbrev pub word_of : Mark → List ℕ
word_of mark = stem_of mark ++ hashes (places_of mark)

abbrev pub piece_text : Piece → List ℕ
piece_text (Marked mark) = word_of mark
piece_text (Plain b) = b ∷ []

-- the text that pieces spell
abbrev pub spelled : List Piece → List ℕ
spelled pieces = flat_map piece_text pieces

-- the mark begins the text
pub record Begins (mark : Mark) (text : List ℕ) : Type 0 where
  pub rest : List ℕ
  pub whole : text ≡ word_of mark ++ rest

-- at the front of a text: the longest mark that begins it, or, where none does, a byte that stands for itself
abbrev pub IsLongest : Piece → List ℕ → Type 0
IsLongest (Marked mark) text = (other : Mark) → Begins other text → length (word_of other) ≤ length (word_of mark)
IsLongest (Plain b) text = (mark : Mark) → Begins mark text → ⊥

-- the text cut into marks and other bytes, from the left
pub record IsCut (text : List ℕ) (pieces : List Piece) : Type 0 where
  pub whole : text ≡ spelled pieces
  pub longest : (before : List Piece) (piece : Piece) (after : List Piece) → pieces ≡ before ++ (piece ∷ after)
      → IsLongest piece (spelled (piece ∷ after))
