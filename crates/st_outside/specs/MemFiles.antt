-- What contracts name of files in memory some of whose calls fail.
use Rattle.std.specs.Prelude.{ℕ, List, Bool, Option, Some}
use Rattle.st_outside.specs.Causes.{FileCounts}
use Rattle.st_outside.specs.Entries.{Entries}
use Rattle.st_outside.specs.SafeFiles as safe
use Rattle.st_outside.specs.States.{FilesState}
use Rattle.st_outside.specs.declared.calls.Calls.{Calls}
use Rattle.st_outside.specs.declared.mem_files.MemFiles.{MemFiles}

-- the names with their bytes
abbrev pub entries_of : MemFiles → Entries
entries_of f = safe.entries_of f.files

-- whether a file is open
abbrev pub is_open : MemFiles → Bool
is_open f = safe.is_open f.files

-- the bytes of the open file that are still to be read
abbrev pub left_of : MemFiles → Option (List ℕ)
left_of f = safe.left_of f.files

-- the opens and reads so far, and those that fail
abbrev pub calls_of : MemFiles → Calls
calls_of f = f.calls

-- how many bytes a read gives at most
abbrev pub most_of : MemFiles → ℕ
most_of f = f.most

-- how many names weren't found, how many calls failed, and how many bytes have been given
abbrev pub counts_of : MemFiles → FileCounts
counts_of f = record { misses = f.files.misses; faults = f.calls.failed; taken = f.files.taken }

-- all that is told of the files
abbrev pub state_of : MemFiles → FilesState
state_of f = record {
  map = Some (entries_of f);
  opened = is_open f;
  left = left_of f;
  counts = counts_of f;
}
