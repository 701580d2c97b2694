-- Cells that can be printed: those of times in the range and a little beyond, and all counts.
use Rattle.std.specs.Prelude.{◌≤◌, ℤ, pos, neg_ℤ, ◌≤ℤ◌, ◌<ℤ◌, ⊤}
use Rattle.st_picture.specs.declared.cell.Cell.{Cell}
use Rattle.st_picture.specs.declared.cell.Cell.TheVariants as cells

-- a day, counted from 2000-01-01, whose date is told: about two hundred years to both sides
pub record IsCivilDay (day : ℤ) : Type 0 where
  pub from : neg_ℤ (pos 73_200) ≤ℤ day
  pub to : day ≤ℤ pos 73_200

-- units of a day, from 0 to less than 86,401 s
pub record IsOfDay (units : ℤ) : Type 0 where
  pub from : pos 0 ≤ℤ units
  pub to : units <ℤ pos 86_401_000_000_000_000_000_000

-- a cell has a day whose date is told and what has passed of it, or a month of twelve
abbrev pub IsCellShown : Cell → Type 0
IsCellShown (cells.Count n) = ⊤
IsCellShown (cells.Day day of_day) = IsCivilDay day × IsOfDay of_day
IsCellShown (cells.Month year month) = (1 ≤ month) × (month ≤ 12)
IsCellShown (cells.Year year) = ⊤
