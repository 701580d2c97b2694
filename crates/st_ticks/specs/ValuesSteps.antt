-- The values of fields as the reader keeps them: ten of them, and how many there are.
use Rattle.std.specs.Prelude.{◌≡◌, ℕ, ◌≤◌, List, length, take, Some}
use Rattle.st_ticks.specs.ReadingMachine.{capped_values}
use Rattle.st_ticks.specs.TextMachine.{runs}
use Rattle.st_ticks.specs.declared.values.Values.{Values}

-- all values of these fields, where they are ten or fewer
pub record HoldsFields (fields : List (List ℕ)) (values : Values) : Type 0 where
  pub count_is : values.count ≡ length fields
  pub numbers_are : values.count ≤ 10 → take values.count values.numbers ≡ capped_values fields

-- the values of the fields of a text
pub record HoldsText (text : List ℕ) (values : Values) : Type 0 where
  pub fields : List (List ℕ)
  pub runs_are : runs text ≡ Some fields
  pub holds : HoldsFields fields values
