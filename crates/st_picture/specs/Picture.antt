-- What a picture is seen as, and its least unit: the finest of what its marks print.
use Rattle.std.specs.Prelude.{◌≡◌, ℕ, ◌≤◌, Bool, true, false, List, ◌∷◌, ◌++◌, Option, Some, None}
use Rattle.st_dates.specs.declared.system.System.{System}
use Rattle.st_picture.specs.declared.mark.Mark.{Mark}
use Rattle.st_picture.specs.declared.mark.Mark.TheVariants.{Year, Month, MonthShort, MonthName, DayOfMonth, DayOfYear, WeekdayShort, WeekdayName, Hour, HourOfHalf, Minute, Second, HalfUpper, HalfLower, Seconds, JulianDate, Scale, Round, Truncate}
use Rattle.st_picture.specs.declared.mark.Piece.{Piece}
use Rattle.st_picture.specs.declared.mark.Piece.TheVariants.{Marked}
use Rattle.st_picture.specs.declared.unit.LeastUnit.{LeastUnit}
use Rattle.st_picture.specs.declared.unit.LeastUnit.TheVariants as units

-- a picture for times of a system: its marks and other bytes in their order, the least unit that they print, and whether
-- times are rounded to it
pub record Picture : Type 0 where
  pub system : System
  pub pieces : List Piece
  pub unit : LeastUnit
  pub rounds : Bool

-- the mark stands in the pieces
pub record Stands (pieces : List Piece) (mark : Mark) : Type 0 where
  pub before : List Piece
  pub after : List Piece
  pub here : pieces ≡ before ++ (Marked mark ∷ after)

-- the unit that a mark prints; marks that print nothing have none
abbrev pub unit_of : Mark → Option LeastUnit
unit_of Year = Some units.Year
unit_of Month = Some units.Month
unit_of (MonthShort letters) = Some units.Month
unit_of (MonthName letters) = Some units.Month
unit_of DayOfMonth = Some units.Day
unit_of DayOfYear = Some units.Day
unit_of (WeekdayShort letters) = Some units.Day
unit_of (WeekdayName letters) = Some units.Day
unit_of Hour = Some units.Hour
unit_of HourOfHalf = Some units.Hour
unit_of HalfUpper = Some units.Hour
unit_of HalfLower = Some units.Hour
unit_of Minute = Some units.Minute
unit_of (Second places) = Some (units.Second places)
unit_of (Seconds places) = Some (units.Count places)
unit_of (JulianDate places) = Some (units.Julian places)
unit_of (Scale system) = None
unit_of Round = None
unit_of Truncate = None

-- the place of a unit from fine to coarse
abbrev pub coarseness : LeastUnit → ℕ
coarseness (units.Count places) = 0
coarseness (units.Julian places) = 0
coarseness (units.Second places) = 0
coarseness units.Minute = 1
coarseness units.Hour = 2
coarseness units.Day = 3
coarseness units.Month = 4
coarseness units.Year = 5

-- a mark prints the unit, and no mark prints a finer one
pub record IsLeastUnit (pieces : List Piece) (unit : LeastUnit) : Type 0 where
  pub mark : Mark
  pub stands : Stands pieces mark
  pub prints : unit_of mark ≡ Some unit
  pub finest : (other : Mark) (wider : LeastUnit) → Stands pieces other → unit_of other ≡ Some wider → coarseness unit ≤ coarseness wider

-- The picture asks for rounding: `::RND` stands in it, and no `::TRNC` after that. Without either, times are truncated.
pub record AsksToRound (pieces : List Piece) : Type 0 where
  pub before : List Piece
  pub after : List Piece
  pub here : pieces ≡ before ++ (Marked Round ∷ after)
  pub last : Stands after Truncate → ⊥

abbrev pub Rounds : List Piece → Bool → Type 0
Rounds pieces true = AsksToRound pieces
Rounds pieces false = AsksToRound pieces → ⊥
