-- What a run may write and how it may end.
use Rattle.std.specs.Prelude.{◌≡◌, ℕ, ◌<◌, Bool, true, false, if◌then◌else◌, Ok, Err, Option, Some, None, List, [], ◌++◌, length, ◌==◌, ◌⊎◌, ⊤}
use Rattle.std.specs.Io.KnownBytes.{Appends, Consumes, IsAtEnd}
use Rattle.std.specs.List.{flat_map, list_any}
use Rattle.st_outside.specs.States.{FilesState, InputState}
use Rattle.st_text.specs.Lines.{HasNoFeed, lines_of}
use Rattle.st_batch.specs.declared.answer.Answer.{Answer}
use Rattle.st_batch.specs.declared.answer.Answer.TheVariants.{Text, Refused}
use Rattle.st_refusals.specs.declared.fault.LineFault.{LineFault}
use Rattle.st_words.specs.Reading.{WordsGive}
use Rattle.st_words.specs.declared.fault.WordFault.{WordFault}
use Rattle.st_words.specs.declared.job.Job.{Job}
use Rattle.st_words.specs.declared.job.Work.{Work}
use Rattle.st_words.specs.declared.job.Work.TheVariants.{Batch, Sample}
use Rattle.st_batch.specs.declared.status.Status.{Status}
use Rattle.st_batch.specs.declared.status.Status.TheVariants.{Done, SomeRefused, BadWords, BadSetup, ReadFault, WriteFault, OutOfMemory, InputTooLong}
use Rattle.st_batch.specs.Causes.{AreCounted, IsCaused}
use Rattle.st_batch.specs.Limits.{most_input_bytes}
use Rattle.st_batch.specs.Session.{RunsTo}
use Rattle.st_batch.specs.Setting.{Loaded, Setting, State}
use Rattle.st_batch.specs.Setup.{SetupGives}
use Rattle.st_batch.specs.Texts.{line_of, setup_line, summary_line, words_line}
use Rattle.st_batch.specs.Lines.{AreLines, IsShortInput}

-- what a run writes for the answers of its lines: of a sample their summary, else each as a line of its own
abbrev pub output_of : Work → List Answer → List ℕ
output_of (Sample n seed) answers = summary_line answers
output_of work answers = flat_map line_of answers

abbrev pub is_refused : Answer → Bool
is_refused (Text text) = false
is_refused (Refused cause) = true

-- whether an answer is a refusal decides between the two statuses of a run that answered all lines
abbrev pub status_of : List Answer → Status
status_of answers = if list_any is_refused answers then SomeRefused else Done

-- what stands outside of a run: the files and the input before it, and as it left them
pub record Outside : Type 0 where
  pub files : FilesState
  pub files_after : FilesState
  pub input : InputState
  pub input_after : InputState

abbrev pub around : FilesState → FilesState → InputState → InputState → Outside
around files files_after input input_after =
    record { files = files; files_after = files_after; input = input; input_after = input_after }

-- what stays the same for the lines of a job
abbrev pub over : Outside → Job → Setting
over o job = record { files = o.files.map; job = job }

-- the input, where it is to be read, was read to its end
abbrev pub IsReadWhole : Work → Option (List ℕ) → Type 0
IsReadWhole Batch left = IsAtEnd left
IsReadWhole work left = ⊤

-- something may be written while these lines are still to be answered: of a sample nothing is before its last line
abbrev pub MayWriteBefore : Work → List (List ℕ) → Type 0
MayWriteBefore (Sample n seed) more = more ≡ []
MayWriteBefore work more = ⊤

-- all lines of a job were answered, from a loaded list on, and all answers written
pub record AllAnswered (o : Outside) (job : Job) (loaded : Loaded) (status : Status) (bytes : List ℕ) : Type 0 where
  pub lines : List (List ℕ)
  pub answers : List Answer
  pub after : Loaded
  pub are_lines : AreLines job loaded o.input.left lines
  pub whole : IsReadWhole job.work o.input_after.left
  pub short : IsShortInput job.work o.input.left
  pub answered : RunsTo (over o job) loaded lines answers after
  pub counted : AreCounted o.files.counts o.files_after.counts answers
  pub ended : status ≡ status_of answers
  pub written : bytes ≡ output_of job.work answers

-- some first lines were answered, and a beginning of their answers written
pub record SomeAnswered (o : Outside) (job : Job) (loaded : Loaded) (bytes : List ℕ) : Type 0 where
  pub lines : List (List ℕ)
  pub more : List (List ℕ)
  pub answers : List Answer
  pub after : Loaded
  pub rest : List ℕ
  pub are_lines : AreLines job loaded o.input.left (lines ++ more)
  pub answered : RunsTo (over o job) loaded lines answers after
  pub counted : AreCounted o.files.counts o.files_after.counts answers
  pub may : MayWriteBefore job.work more
  pub written : output_of job.work answers ≡ bytes ++ rest

-- These lines have ended in what was read of the input: whatever is read later, the input's lines begin with these, and
-- the next one begins with `begun`.
pub record HaveEnded (input left : Option (List ℕ)) (lines : List (List ℕ)) : Type 0 where
  pub read : List ℕ
  pub begun : List ℕ
  pub consumed : Consumes input left read
  pub unended : HasNoFeed begun
  pub first : (later : List ℕ) → lines_of (read ++ later) ≡ lines ++ lines_of (begun ++ later)

-- the lines that had ended before a read failed were answered, and all their answers written
pub record AnsweredTillFault (o : Outside) (job : Job) (loaded : Loaded) (bytes : List ℕ) : Type 0 where
  pub batch : job.work ≡ Batch
  pub lines : List (List ℕ)
  pub more : List (List ℕ)
  pub answers : List Answer
  pub after : Loaded
  pub are_lines : AreLines job loaded o.input.left (lines ++ more)
  pub ended : HaveEnded o.input.left o.input_after.left lines
  pub answered : RunsTo (over o job) loaded lines answers after
  pub counted : AreCounted o.files.counts o.files_after.counts answers
  pub written : bytes ≡ output_of job.work answers

-- the input, where it tells its bytes, has more than it may have
abbrev pub IsLongInput : Option (List ℕ) → Type 0
IsLongInput None = ⊤
IsLongInput (Some bytes) = most_input_bytes < length bytes

-- what was written of the lines of a job, from a loaded list on, by how their answering ended
abbrev pub LinesOutcome : Outside → Job → Loaded → Status → List ℕ → Type 0
LinesOutcome o job loaded Done bytes = AllAnswered o job loaded Done bytes
LinesOutcome o job loaded SomeRefused bytes = AllAnswered o job loaded SomeRefused bytes
LinesOutcome o job loaded ReadFault bytes = AnsweredTillFault o job loaded bytes
LinesOutcome o job loaded InputTooLong bytes = SomeAnswered o job loaded bytes × IsLongInput o.input.left
LinesOutcome o job loaded WriteFault bytes = SomeAnswered o job loaded bytes
LinesOutcome o job loaded OutOfMemory bytes = SomeAnswered o job loaded bytes
LinesOutcome o job loaded status bytes = ⊥

-- the words ask for a job, its setup loads, and the answering of its lines ended so
pub record LinesEnded (o : Outside) (words : List (List ℕ)) (status : Status) (bytes : List ℕ) : Type 0 where
  pub job : Job
  pub session : State
  pub asked : WordsGive words (Ok job)
  pub setup : SetupGives (over o job) (Ok session)
  pub lines : LinesOutcome o session.job session.loaded status bytes

-- the words were refused
pub record WordsRefused (words : List (List ℕ)) (fault : WordFault) (bytes : List ℕ) : Type 0 where
  pub given : WordsGive words (Err fault)
  pub written : bytes ≡ words_line fault

-- the setup was refused, and nothing read of the input
pub record SetupRefused (o : Outside) (words : List (List ℕ)) (cause : LineFault) (bytes : List ℕ) : Type 0 where
  pub job : Job
  pub asked : WordsGive words (Ok job)
  pub given : SetupGives (over o job) (Err cause)
  pub caused : IsCaused cause o.files.counts o.files_after.counts
  pub unread : o.input_after ≡ o.input
  pub written : bytes ≡ setup_line cause

-- a beginning of the line was written that says why there are no answers
abbrev pub RefusalBegins : Outside → List (List ℕ) → List ℕ → Type 0
RefusalBegins o words bytes =
    (rest : List ℕ) × (((fault : WordFault) × WordsRefused words fault (bytes ++ rest)) ⊎ ((cause : LineFault) × SetupRefused o words cause (bytes ++ rest)))

-- nothing was written, and nothing read of the input
pub record NothingDone (o : Outside) (bytes : List ℕ) : Type 0 where
  pub unread : o.input_after ≡ o.input
  pub written : bytes ≡ []

-- the output or want of memory cut the run off: within its lines, within the line that refuses it, or before both
abbrev pub IsCutOff : Outside → List (List ℕ) → Status → List ℕ → Type 0
IsCutOff o words status bytes = LinesEnded o words status bytes ⊎ (RefusalBegins o words bytes ⊎ NothingDone o bytes)

-- The bytes that the output took, by how the run ended: all that is to be written, or a beginning of it.
abbrev pub Outcome : Outside → List (List ℕ) → Status → List ℕ → Type 0
Outcome o words (BadWords fault) bytes = WordsRefused words fault bytes
Outcome o words (BadSetup cause) bytes = SetupRefused o words cause bytes
Outcome o words WriteFault bytes = IsCutOff o words WriteFault bytes
Outcome o words OutOfMemory bytes = IsCutOff o words OutOfMemory bytes
Outcome o words status bytes = LinesEnded o words status bytes

-- there are bytes that meet P and that the output took, where it tells that
abbrev pub Took : Option (List ℕ) → Option (List ℕ) → (List ℕ → Type 0) → Type 0
Took before after P = (bytes : List ℕ) × Appends before after bytes × P bytes

-- all lines were answered
abbrev pub IsAnswered : Status → Type 0
IsAnswered Done = ⊤
IsAnswered SomeRefused = ⊤
IsAnswered status = ⊥

-- a run of these words that ended so had nothing to read
abbrev pub ReadsNothing : List (List ℕ) → Status → Type 0
ReadsNothing words (BadWords fault) = ⊤
ReadsNothing words (BadSetup cause) = ⊤
ReadsNothing words status = (job : Job) → WordsGive words (Ok job) → job.work ≡ Batch → ⊥
