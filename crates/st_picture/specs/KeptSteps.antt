-- What every picture keeps, so that it can be printed.
use Rattle.std.specs.Prelude.{◌≡◌, ◌≤◌, false, List}
use Rattle.std.specs.List.{list_any}
use Rattle.st_picture.specs.declared.mark.Piece.{Piece}
use Rattle.st_picture.specs.declared.unit.LeastUnit.{LeastUnit}
use Rattle.st_picture.specs.Cell.{unit_places}
use Rattle.st_picture.specs.Picture.{IsLeastUnit}
use Rattle.st_picture.specs.Reading.{HasCountBeside}
use Rattle.st_picture.specs.ReadingMachine.{has_many_places}

-- no mark has more than nine decimals, nor has the unit, which is the least one; a number stands alone
pub record IsKept (pieces : List Piece) (unit : LeastUnit) : Type 0 where
  pub places : list_any has_many_places pieces ≡ false
  pub unit_few : unit_places unit ≤ 9
  pub least : IsLeastUnit pieces unit
  pub alone : HasCountBeside pieces → ⊥
