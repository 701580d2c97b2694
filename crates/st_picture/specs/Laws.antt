-- What the definitions of cells and pictures say by themselves, as laws.
use Rattle.std.specs.Prelude.{◌≡◌, ◌≢◌, ◌↔◌, ℕ, ◌^◌, ℤ, pos, neg_ℤ, ◌+ℤ◌, ◌*ℤ◌, Bool, List, Option, Result, Ok, Err}
use Rattle.std.specs.List.{All}
use Rattle.st_dates.specs.declared.system.System.{System}
use Rattle.st_dates.specs.declared.system.System.TheVariants.{Utc}
use Rattle.st_picture.specs.Mark.{IsCut}
use Rattle.st_picture.specs.Picture.{Picture}
use Rattle.st_picture.specs.Reading.{Agree, IsPlainByte, ReadsPicture}
use Rattle.st_picture.specs.declared.fault.PictureFault.{PictureFault}
use Rattle.st_picture.specs.declared.fault.PictureFault.TheVariants.{OutOfMemory}
use Rattle.st_picture.specs.declared.mark.Piece.{Piece}
use Rattle.st_fraction.specs.Fraction.{Fraction, IsFraction, ◌≤ᶠ◌, ◌<ᶠ◌, ◌≈ᶠ◌, whole, units}
use Rattle.st_leaps.specs.Label.{AreCounts}
use Rattle.st_leaps.specs.declared.table.LeapTable.{LeapTable}
use Rattle.st_picture.specs.Cell.{IsCell, IsOfUnit, IsUnit, days_of, half_unit, leaps_for, ◌≤ᶜ◌}
use Rattle.st_picture.specs.Defaults.{calendar_picture, seconds_picture, HasCalendarText, HasSecondsText, IsCalendarText}
use Rattle.st_picture.specs.Printing.{HasText}
use Rattle.st_picture.specs.Text.{IsTextOf}
use Rattle.st_picture.specs.declared.cell.Cell.TheVariants as cells
use Rattle.st_picture.specs.declared.cell.Cell.{Cell}
use Rattle.st_picture.specs.declared.unit.LeastUnit.{LeastUnit}

-- Cells never fall as the value rises.
abbrev pub CellsNeverFall : Type 0
CellsNeverFall =
    (unit : LeastUnit) (rounds : Bool) (count : ℤ → ℤ) (v w : Fraction) (a b : Cell) → AreCounts count → IsFraction v → IsFraction w
    → v ≤ᶠ w → IsCell unit rounds count v a → IsCell unit rounds count w b → a ≤ᶜ b

-- A value has one cell at most.
abbrev pub OneCell : Type 0
OneCell =
    (unit : LeastUnit) (rounds : Bool) (count : ℤ → ℤ) (v : Fraction) (a b : Cell) → AreCounts count → IsFraction v
    → IsCell unit rounds count v a → IsCell unit rounds count v b → a ≡ b

-- Each value from the year 4 on has a cell, whatever fraction of a second it is; the calendar begins with the year 0.
abbrev pub EachHasCell : Type 0
EachHasCell =
    (unit : LeastUnit) (rounds : Bool) (count : ℤ → ℤ) (v : Fraction) → AreCounts count → IsFraction v
    → whole (neg_ℤ (pos 63_000_000_000)) ≤ᶠ v → (cell : Cell) × IsCell unit rounds count v cell

-- What lies between two values of one cell has that cell.
abbrev pub CellBetween : Type 0
CellBetween =
    (unit : LeastUnit) (rounds : Bool) (count : ℤ → ℤ) (u v w : Fraction) (cell other : Cell) → AreCounts count
    → IsFraction u → IsFraction v → IsFraction w → u ≤ᶠ v → v ≤ᶠ w
    → IsCell unit rounds count u cell → IsCell unit rounds count w cell → IsCell unit rounds count v other → other ≡ cell

-- A value between two whole numbers of units has the cell of the lower one.
abbrev pub CellOfFloor : Type 0
CellOfFloor =
    (unit : LeastUnit) (rounds : Bool) (count : ℤ → ℤ) (v : Fraction) (n : ℤ) (cell : Cell) → IsUnit unit → IsFraction v
    → units n ≤ᶠ v → v <ᶠ units (n +ℤ pos 1) → IsCell unit rounds count (units n) cell → IsCell unit rounds count v cell

-- Half of a unit is a whole number of units of 10^-18 s.
abbrev pub HalvesAreUnits : Type 0
HalvesAreUnits = (unit : LeastUnit) → IsUnit unit → (h : ℤ) × (half_unit unit ≈ᶠ units h)

-- Each text has one cut into marks and other bytes.
abbrev pub EachHasCut : Type 0
EachHasCut = (text : List ℕ) → (pieces : List Piece) × IsCut text pieces

abbrev pub OneCut : Type 0
OneCut = (text : List ℕ) (a b : List Piece) → IsCut text a → IsCut text b → a ≡ b

-- A text has at most one answer as a picture for a system, where memory is not refused.
abbrev pub OneReading : Type 0
OneReading =
    (system : System) (text : List ℕ) (a b : Result Picture PictureFault) → ReadsPicture system text a → ReadsPicture system text b → Agree a b

-- The cells of a unit have the unit's form.
abbrev pub CellsAreOfUnit : Type 0
CellsAreOfUnit = (unit : LeastUnit) (rounds : Bool) (count : ℤ → ℤ) (v : Fraction) (cell : Cell) → IsCell unit rounds count v cell → IsOfUnit unit cell

-- A cell has one text by a picture.
abbrev pub OneText : Type 0
OneText =
    (system : System) (text : List ℕ) (picture : Picture) (cell : Cell) (a b : List ℕ) → ReadsPicture system text (Ok picture)
    → IsOfUnit picture.unit cell → IsTextOf picture.pieces cell a → IsTextOf picture.pieces cell b → a ≡ b

-- Each value from the year 4 on has a text by a picture.
abbrev pub EachHasText : Type 0
EachHasText =
    (picture : Picture) (leaps : Option LeapTable) (v : Fraction) → IsFraction v → whole (neg_ℤ (pos 63_000_000_000)) ≤ᶠ v
    → (text : List ℕ) × HasText picture leaps v text

-- A value has one text by a picture.
abbrev pub OneTextOfValue : Type 0
OneTextOfValue =
    (system : System) (text : List ℕ) (picture : Picture) (leaps : Option LeapTable) (v : Fraction) (a b : List ℕ) → ReadsPicture system text (Ok picture)
    → IsFraction v → HasText picture leaps v a → HasText picture leaps v b → a ≡ b

-- The two default pictures are pictures, that of seconds for the systems other than UTC.
abbrev pub DefaultsAreRead : Type 0
DefaultsAreRead =
    ((system : System) → (picture : Picture) × ReadsPicture system calendar_picture (Ok picture))
    × ((system : System) → system ≢ Utc → (picture : Picture) × ReadsPicture system seconds_picture (Ok picture))

-- `YYYY-MM-DDTHR:MN:SC.###` prints the plain formula of a day and its milliseconds, and nothing else.
abbrev pub CalendarCells : Type 0
CalendarCells =
    (system : System) (picture : Picture) (day millis : ℤ) (text : List ℕ) → ReadsPicture system calendar_picture (Ok picture)
    → IsTextOf picture.pieces (cells.Day day (millis *ℤ pos (10 ^ 15))) text ↔ IsCalendarText day millis text

-- So it is with the text of a value.
abbrev pub CalendarTexts : Type 0
CalendarTexts =
    (system : System) (picture : Picture) (leaps : Option LeapTable) (v : Fraction) (text : List ℕ) → ReadsPicture system calendar_picture (Ok picture)
    → HasText picture leaps v text ↔ HasCalendarText (days_of (leaps_for system leaps)) v text

-- `SP2000.######` prints the plain formula of a value in seconds, and nothing else.
abbrev pub SecondsTexts : Type 0
SecondsTexts =
    (system : System) (picture : Picture) (leaps : Option LeapTable) (v : Fraction) (text : List ℕ) → ReadsPicture system seconds_picture (Ok picture)
    → HasText picture leaps v text ↔ HasSecondsText v text

-- Each text has an answer as a picture for a system, other than want of memory.
abbrev pub EachHasReading : Type 0
EachHasReading = (system : System) (text : List ℕ) → (answer : Result Picture PictureFault) × ReadsPicture system text answer × (answer ≢ Err OutOfMemory)

-- What a picture prints has bytes from the space to `~` alone.
abbrev pub TextsArePlain : Type 0
TextsArePlain =
    (system : System) (text : List ℕ) (picture : Picture) (cell : Cell) (printed : List ℕ) → ReadsPicture system text (Ok picture)
    → IsTextOf picture.pieces cell printed → All IsPlainByte printed
