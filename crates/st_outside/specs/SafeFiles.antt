-- What contracts name of files in memory that never fail.
use Rattle.std.specs.Prelude.{ℕ, List, Bool, Option, Some, is_some, option_map, drop}
use Rattle.st_outside.specs.Causes.{FileCounts}
use Rattle.st_outside.specs.Entries.{Entries, bytes_at}
use Rattle.st_outside.specs.States.{FilesState}
use Rattle.st_outside.specs.declared.safe_files.SafeFiles.{SafeFiles}

-- the names with their bytes
abbrev pub entries_of : SafeFiles → Entries
entries_of f = f.entries

-- whether a file is open
abbrev pub is_open : SafeFiles → Bool
is_open f = is_some f.reading

-- the bytes of the open file that are still to be read
abbrev pub left_of : SafeFiles → Option (List ℕ)
left_of f = option_map (λ r. drop r.at (bytes_at f.entries r.place)) f.reading

-- how many names weren't found, and how many bytes have been given; nothing else fails
abbrev pub counts_of : SafeFiles → FileCounts
counts_of f = record { misses = f.misses; faults = 0; taken = f.taken }

-- all that is told of the files
abbrev pub state_of : SafeFiles → FilesState
state_of f = record {
  map = Some (entries_of f);
  opened = is_open f;
  left = left_of f;
  counts = counts_of f;
}
