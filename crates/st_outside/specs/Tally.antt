-- What an error of std's files says, and the counts of the adapters. The definitions are this
-- project's own.
use Rattle.std.specs.Prelude.{Bool, true, false}
use Rattle.std.specs.declared.io.ErrorKind.{ErrorKind}
use Rattle.std.specs.declared.io.ErrorKind.TheVariants.{NotFound}
use Rattle.st_outside.specs.Causes.{FileCounts}
use Rattle.st_outside.specs.declared.tally.Tally.{Tally}

-- the counts that stand in a tally
abbrev pub counts_of : Tally → FileCounts
counts_of t = record { misses = t.misses; faults = t.faults; taken = t.taken }

-- whether an error of this kind says that there is no such file
abbrev pub is_missing : ErrorKind → Bool
is_missing NotFound = true
is_missing _ = false
