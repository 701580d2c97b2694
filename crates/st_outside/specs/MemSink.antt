-- What contracts name of a sink in memory some of whose writes fail.
use Rattle.std.specs.Prelude.{ℕ, List}
use Rattle.st_outside.specs.SafeSink as safe
use Rattle.st_outside.specs.declared.calls.Calls.{Calls}
use Rattle.st_outside.specs.declared.mem_sink.MemSink.{MemSink}

-- the bytes that were taken
abbrev pub taken_by : MemSink → List ℕ
taken_by s = safe.taken_by s.sink

-- how many bytes a write takes at most
abbrev pub most_of : MemSink → ℕ
most_of s = s.most

-- the writes so far, and those that fail
abbrev pub calls_of : MemSink → Calls
calls_of s = s.calls
