-- What contracts name of a source in memory some of whose reads fail.
use Rattle.std.specs.Prelude.{ℕ, List, Some}
use Rattle.st_outside.specs.SafeSource as safe
use Rattle.st_outside.specs.States.{InputState}
use Rattle.st_outside.specs.declared.calls.Calls.{Calls}
use Rattle.st_outside.specs.declared.mem_source.MemSource.{MemSource}

-- the bytes that are still to be read
abbrev pub rest_of : MemSource → List ℕ
rest_of s = safe.rest_of s.source

-- how many bytes have been given
abbrev pub taken_of : MemSource → ℕ
taken_of s = safe.taken_of s.source

-- the reads so far, and those that fail
abbrev pub calls_of : MemSource → Calls
calls_of s = s.calls

-- how many bytes a read gives at most
abbrev pub most_of : MemSource → ℕ
most_of s = s.most

-- all that is told of the source
abbrev pub state_of : MemSource → InputState
state_of s = record { left = Some (rest_of s); faults = (calls_of s).failed; taken = taken_of s }
