-- What contracts see of files and of an input, and how a call may leave files. The definitions are
-- this project's own.
use Rattle.std.specs.Prelude.{◌≡◌, ℕ, List, Bool, true, Option}
use Rattle.st_outside.specs.Causes.{AreLater, FileCounts}
use Rattle.st_outside.specs.Entries.{Entries}

-- files: their map where it is told, whether one is open, what is left of it where that is told,
-- and the counts
pub record FilesState : Type 0 where
  pub map : Option Entries
  pub opened : Bool
  pub left : Option (List ℕ)
  pub counts : FileCounts

-- an input: what is left of it where that is told, how many reads have failed, and how many bytes
-- it has given
pub record InputState : Type 0 where
  pub left : Option (List ℕ)
  pub faults : ℕ
  pub taken : ℕ

-- The map is as before and no count has fallen. A file is open afterwards only where nothing of the
-- files has changed, so each file that was opened is closed again.
pub record KeepsFiles (before after : FilesState) : Type 0 where
  pub map : after.map ≡ before.map
  pub counts : AreLater before.counts after.counts
  pub closed : after.opened ≡ true → after ≡ before
