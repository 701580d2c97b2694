-- Refusals that come only with a cause outside: a count of the files that rose.
use Rattle.std.specs.Prelude.{◌≡◌, ◌+◌, ◌*◌, count_by, Bool, true, false, List, ⊤}
use Rattle.st_outside.specs.Causes.{FileCounts, Rose, RoseBeyond, RoseBy}
use Rattle.st_refusals.specs.Causes.{FileCause, NoCause, Missing, Faulty, TooLong, cause_of}
use Rattle.st_refusals.specs.declared.fault.LineFault.{LineFault}
use Rattle.st_batch.specs.declared.answer.Answer.{Answer}
use Rattle.st_batch.specs.declared.answer.Answer.TheVariants.{Text, Refused}
use Rattle.st_batch.specs.Limits.{most_file_bytes}

-- what of the files is the cause of an answer
abbrev pub answer_cause : Answer → FileCause
answer_cause (Text text) = NoCause
answer_cause (Refused fault) = cause_of fault

abbrev pub is_same_cause : FileCause → FileCause → Bool
is_same_cause Missing Missing = true
is_same_cause Faulty Faulty = true
is_same_cause TooLong TooLong = true
is_same_cause cause other = false

-- whether this is the cause of an answer
abbrev pub has_cause : FileCause → Answer → Bool
has_cause cause answer = is_same_cause cause (answer_cause answer)

-- In the whole of a run there were at least as many misses as answers that name a missing file, as many faults as answers that
-- name a faulty one, and, for each answer that names a file that is too long, more bytes taken than a file may have.
pub record AreCounted (before now : FileCounts) (answers : List Answer) : Type 0 where
  pub misses : RoseBy (count_by (has_cause Missing) answers) before.misses now.misses
  pub faults : RoseBy (count_by (has_cause Faulty) answers) before.faults now.faults
  pub taken : RoseBy (count_by (has_cause TooLong) answers * (most_file_bytes + 1)) before.taken now.taken

-- Causes in one call: a file that isn't there has a miss and no fault, a faulty one a fault, and one that is too long more bytes
-- taken than a file may have.
abbrev pub IsCausedBy : FileCause → FileCounts → FileCounts → Type 0
IsCausedBy Missing before now = Rose before.misses now.misses × (now.faults ≡ before.faults)
IsCausedBy Faulty before now = Rose before.faults now.faults
IsCausedBy TooLong before now = RoseBeyond most_file_bytes before.taken now.taken
IsCausedBy NoCause before now = ⊤

-- the same of a refusal, and of an answer
abbrev pub IsCaused : LineFault → FileCounts → FileCounts → Type 0
IsCaused fault before now = IsCausedBy (cause_of fault) before now

abbrev pub IsAnswerCaused : Answer → FileCounts → FileCounts → Type 0
IsAnswerCaused answer before now = IsCausedBy (answer_cause answer) before now
