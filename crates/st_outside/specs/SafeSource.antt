-- What contracts name of a source in memory that never fails.
use Rattle.std.specs.Prelude.{ℕ, List, Some, drop}
use Rattle.st_outside.specs.States.{InputState}
use Rattle.st_outside.specs.declared.safe_source.SafeSource.{SafeSource}

-- the bytes that are still to be read
abbrev pub rest_of : SafeSource → List ℕ
rest_of s = drop s.at s.bytes.items

-- how many bytes have been given
abbrev pub taken_of : SafeSource → ℕ
taken_of s = s.taken

-- all that is told of the source; no read fails
abbrev pub state_of : SafeSource → InputState
state_of s = record { left = Some (rest_of s); faults = 0; taken = taken_of s }
