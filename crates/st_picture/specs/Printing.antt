-- What printing a value that is known by two ends may answer.
use Rattle.std.specs.Prelude.{◌≡◌, ◌≢◌, ◌⊎◌, ℕ, ℤ, List, Option, Result, Ok, Err, ⊤}
use Rattle.st_fraction.specs.Fraction.{Fraction, units}
use Rattle.st_leaps.specs.declared.table.LeapTable.{LeapTable}
use Rattle.st_picture.specs.Cell.{IsCellOf}
use Rattle.st_picture.specs.Picture.{Picture}
use Rattle.st_picture.specs.Text.{IsTextOf}
use Rattle.st_picture.specs.declared.cell.Cell.{Cell}
use Rattle.st_picture.specs.declared.fault.PrintFault.{PrintFault}
use Rattle.st_picture.specs.declared.fault.PrintFault.TheVariants.{Undecided, OutOfMemory}

-- the text of a value's cell
pub record HasText (picture : Picture) (leaps : Option LeapTable) (v : Fraction) (text : List ℕ) : Type 0 where
  pub cell : Cell
  pub is_cell : IsCellOf picture leaps v cell
  pub is_text : IsTextOf picture.pieces cell text

-- the text of the cell of both ends, or their cells, which differ
abbrev pub PrintsIn : Picture → Option LeapTable → ℤ → ℤ → Result (List ℕ) PrintFault → Type 0
PrintsIn picture leaps lo hi (Ok text) =
    (cell : Cell) × IsCellOf picture leaps (units lo) cell × IsCellOf picture leaps (units hi) cell × IsTextOf picture.pieces cell text
PrintsIn picture leaps lo hi (Err (Undecided a b)) =
    IsCellOf picture leaps (units lo) a × IsCellOf picture leaps (units hi) b × (a ≢ b)
PrintsIn picture leaps lo hi (Err OutOfMemory) = ⊤

-- two answers are one, where memory was not refused to either
abbrev pub AreOneAnswer : Result (List ℕ) PrintFault → Result (List ℕ) PrintFault → Type 0
AreOneAnswer a b = (a ≡ Err OutOfMemory) ⊎ ((b ≡ Err OutOfMemory) ⊎ (a ≡ b))
