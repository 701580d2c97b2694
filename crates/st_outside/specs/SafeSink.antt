-- What contracts name of a sink in memory that never fails.
use Rattle.std.specs.Prelude.{ℕ, List}
use Rattle.st_outside.specs.declared.safe_sink.SafeSink.{SafeSink}

-- the bytes that were taken
abbrev pub taken_by : SafeSink → List ℕ
taken_by s = s.bytes.items
