-- How calls on files follow one another, as laws.
use Rattle.st_outside.specs.Causes.{AreLater, FileCounts}
use Rattle.st_outside.specs.States.{FilesState, KeepsFiles}

-- No count has fallen where none has changed.
abbrev pub CountsStay : Type 0
CountsStay = (counts : FileCounts) → AreLater counts counts

-- Files that nothing has touched are kept.
abbrev pub FilesStay : Type 0
FilesStay = (files : FilesState) → KeepsFiles files files

-- What two calls keep, one after the other, both keep.
abbrev pub FilesAreKept : Type 0
FilesAreKept = (a b c : FilesState) → KeepsFiles a b → KeepsFiles b c → KeepsFiles a c
