-- How the code reads a picture: what a text begins with, and what the pieces have.
use Rattle.std.specs.Prelude.{ℕ, Bool, true, false, not, ◌||◌, ◌&&◌, ◌==◌, nat_eq, nat_le, nat_lt, List, [], ◌∷◌, drop, length, find, slice_index, Option, Some, None, is_some, count_by, Result, Ok, Err, if◌then◌else◌}
use Rattle.std.specs.List.{starts_with, prefix_len, list_any}
use Rattle.st_dates.specs.declared.system.System.{System}
use Rattle.st_dates.specs.declared.system.System.TheVariants as systems
use Rattle.st_picture.specs.declared.fault.PictureFault.{PictureFault}
use Rattle.st_picture.specs.declared.fault.PictureFault.TheVariants.{LeftOutMark, StrayHash, TooManyPlaces, Empty, MixedForms, CountInUtc, WrongSystem, NoUnit}
use Rattle.st_picture.specs.declared.mark.Case.TheVariants.{Upper, Capital, Lower}
use Rattle.st_picture.specs.declared.mark.Mark.{Mark}
use Rattle.st_picture.specs.declared.mark.Mark.TheVariants.{Year, Month, MonthShort, MonthName, DayOfMonth, DayOfYear, WeekdayShort, WeekdayName, Hour, HourOfHalf, Minute, Second, HalfUpper, HalfLower, Seconds, JulianDate, Scale, Round, Truncate}
use Rattle.st_picture.specs.declared.mark.Piece.{Piece}
use Rattle.st_picture.specs.declared.mark.Piece.TheVariants.{Marked, Plain}
use Rattle.st_picture.specs.declared.mark.ScaleMark.{ScaleMark}
use Rattle.st_picture.specs.declared.mark.ScaleMark.TheVariants.{Utc, Tai, Tdb, Tdt}
use Rattle.st_picture.specs.declared.unit.LeastUnit.{LeastUnit}
use Rattle.st_picture.specs.declared.unit.LeastUnit.TheVariants as units
use Rattle.st_picture.specs.Mark.{stem_of, places_of, spelled}
use Rattle.st_picture.specs.Picture.{unit_of, coarseness}
use Rattle.st_picture.specs.Reading.{left_out}

-- all marks without decimals; one whose letters begin another's stands after it
abbrev pub stems : List Mark
stems =
    Year ∷ Month ∷ MonthName Upper ∷ MonthName Capital ∷ MonthName Lower ∷ MonthShort Upper ∷ MonthShort Capital ∷ MonthShort Lower
    ∷ DayOfMonth ∷ DayOfYear ∷ WeekdayShort Upper ∷ WeekdayShort Capital ∷ WeekdayShort Lower ∷ WeekdayName Upper ∷ WeekdayName Capital
    ∷ WeekdayName Lower ∷ Hour ∷ HourOfHalf ∷ Minute ∷ Second 0 ∷ HalfUpper ∷ HalfLower ∷ Seconds 0 ∷ JulianDate 0 ∷ Scale Utc ∷ Scale Tai
    ∷ Scale Tdb ∷ Scale Tdt ∷ Round ∷ Truncate ∷ []

-- the text begins with a mark's stem
abbrev pub has_stem : List ℕ → Mark → Bool
has_stem text mark = starts_with nat_eq text (stem_of mark)

-- the first of the marks whose stem begins the text
abbrev pub first_stem : List ℕ → Option Mark
first_stem text = find (has_stem text) stems

-- how many `#` a text begins with
abbrev pub hashes_at : List ℕ → ℕ
hashes_at text = prefix_len (λ b. b == 35) text

-- the decimals for which a text asks that stands after a stem
abbrev pub places_behind : List ℕ → ℕ
places_behind [] = 0
places_behind (b ∷ text) = if b == 46 then hashes_at text else 0

-- a mark with as many decimals, where it takes any
abbrev pub with_places : Mark → ℕ → Mark
with_places (Second few) places = Second places
with_places (Seconds few) places = Seconds places
with_places (JulianDate few) places = JulianDate places
with_places mark places = mark

abbrev pub piece_of : List ℕ → Option Mark → Piece
piece_of text None = Plain (slice_index text 0)
piece_of text (Some mark) = Marked (with_places mark (places_behind (drop (length (stem_of mark)) text)))

-- what a text begins with: its longest mark, or its first byte
unfoldable pub front_of : List ℕ → Piece
front_of text = piece_of text (first_stem text)

-- a byte that is none from the space to `~`
abbrev pub is_bad_byte : ℕ → Bool
is_bad_byte b = nat_lt b 32 || nat_lt 126 b

-- tests of a piece
abbrev pub is_plain : Piece → Bool
is_plain (Plain b) = true
is_plain (Marked mark) = false

abbrev pub is_hash : Piece → Bool
is_hash (Plain b) = b == 35
is_hash (Marked mark) = false

abbrev pub piece_places : Piece → ℕ
piece_places (Marked mark) = places_of mark
piece_places (Plain b) = 0

abbrev pub has_many_places : Piece → Bool
has_many_places piece = nat_lt 9 (piece_places piece)

abbrev pub piece_unit : Piece → Option LeastUnit
piece_unit (Marked mark) = unit_of mark
piece_unit (Plain b) = None

abbrev pub is_printing : Piece → Bool
is_printing piece = is_some (piece_unit piece)

abbrev pub is_count : Piece → Bool
is_count (Marked (Seconds places)) = true
is_count (Marked (JulianDate places)) = true
is_count piece = false

abbrev pub seconds_places : Piece → Option ℕ
seconds_places (Marked (Second places)) = Some places
seconds_places piece = None

-- a mark of seconds with other decimals
abbrev pub is_unlike : ℕ → Option ℕ → Bool
is_unlike places None = false
is_unlike places (Some other) = not (places == other)

-- a mark of a system is one of this system
abbrev pub is_named : System → ScaleMark → Bool
is_named systems.Utc Utc = true
is_named systems.Tai Tai = true
is_named systems.Tdb Tdb = true
is_named systems.Tt Tdt = true
is_named system mark = false

abbrev pub names_other : System → Piece → Bool
names_other system (Marked (Scale mark)) = not (is_named system mark)
names_other system piece = false

abbrev pub is_utc : System → Bool
is_utc systems.Utc = true
is_utc system = false

-- a text begins with a mark of other pictures
abbrev pub begins_left_out : List ℕ → Bool
begins_left_out text = list_any (starts_with nat_eq text) left_out

-- such a mark begins where a byte stands for itself
abbrev pub has_left_out : List Piece → Bool
has_left_out [] = false
has_left_out (piece ∷ pieces) = (is_plain piece && begins_left_out (spelled (piece ∷ pieces))) || has_left_out pieces

-- two marks of seconds have other decimals, where one has been seen or none
abbrev pub has_unlike : Option ℕ → List Piece → Bool
has_unlike seen [] = false
has_unlike None (piece ∷ pieces) = has_unlike (seconds_places piece) pieces
has_unlike (Some places) (piece ∷ pieces) = is_unlike places (seconds_places piece) || has_unlike (Some places) pieces

abbrev pub is_mixed : List Piece → Bool
is_mixed pieces = (list_any is_count pieces && nat_lt 1 (count_by is_printing pieces)) || has_unlike None pieces

-- the finer of a unit and that of a piece
abbrev pub finer_of : Option LeastUnit → Option LeastUnit → Option LeastUnit
finer_of None other = other
finer_of (Some unit) None = Some unit
finer_of (Some unit) (Some other) = if nat_lt (coarseness other) (coarseness unit) then Some other else Some unit

abbrev pub least_of : Option LeastUnit → List Piece → Option LeastUnit
least_of unit [] = unit
least_of unit (piece ∷ pieces) = least_of (finer_of unit (piece_unit piece)) pieces

-- whether times are rounded, after a piece
abbrev pub rounds_by : Bool → Piece → Bool
rounds_by before (Marked Round) = true
rounds_by before (Marked Truncate) = false
rounds_by before piece = before

abbrev pub rounds_of : Bool → List Piece → Bool
rounds_of before [] = before
rounds_of before (piece ∷ pieces) = rounds_of (rounds_by before piece) pieces

-- a month or a year
abbrev pub is_never_halved : LeastUnit → Bool
is_never_halved units.Month = true
is_never_halved units.Year = true
is_never_halved unit = false

-- the rules of what the marks print
abbrev pub unit_tested : System → List Piece → Option LeastUnit → Result (LeastUnit × Bool) PictureFault
unit_tested system pieces None = Err Empty
unit_tested system pieces (Some unit) =
    if is_mixed pieces then Err MixedForms
    else (if is_utc system && list_any is_count pieces then Err CountInUtc
    else (if list_any (names_other system) pieces then Err WrongSystem
    else (if rounds_of false pieces && is_never_halved unit then Err NoUnit else Ok (unit, rounds_of false pieces))))

-- the rules of a picture's pieces, in their order: its least unit and whether it rounds, or the first rule that is broken
abbrev pub tested : System → List Piece → Result (LeastUnit × Bool) PictureFault
tested system pieces =
    if has_left_out pieces then Err LeftOutMark
    else (if list_any is_hash pieces then Err StrayHash
    else (if list_any has_many_places pieces then Err TooManyPlaces else unit_tested system pieces (least_of None pieces)))

abbrev pub is_seconds : Piece → Bool
is_seconds (Marked (Seconds places)) = true
is_seconds piece = false

-- one mark of seconds prints, and no byte stands for itself
abbrev pub are_seconds_alone : List Piece → Bool
are_seconds_alone pieces = list_any is_seconds pieces && (nat_le (count_by is_printing pieces) 1 && not (list_any is_plain pieces))
