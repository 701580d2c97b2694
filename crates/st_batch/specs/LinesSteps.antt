-- How far the answering of lines has come.
use Rattle.std.specs.Prelude.{◌≡◌, ℕ, true, false, ◌||◌, if◌then◌else◌, Option, Some, None, List, [], ◌∷◌, ◌++◌, length, ◌⊎◌}
use Rattle.std.specs.Io.KnownBytes.{Appends, Consumes}
use Rattle.std.specs.List.{flat_map, list_any}
use Rattle.st_text.specs.Lines.{HasNoFeed, lines_of}
use Rattle.st_outside.specs.States.{FilesState}
use Rattle.st_outside.specs.declared.faults.SinkFault.{SinkFault}
use Rattle.st_outside.specs.declared.faults.SinkFault.TheVariants as fault
use Rattle.st_words.specs.declared.job.Job.{Job}
use Rattle.st_batch.specs.declared.answer.Answer.{Answer}
use Rattle.st_batch.specs.declared.answering.Answering.{Answering}
use Rattle.st_batch.specs.declared.status.Status.{Status}
use Rattle.st_batch.specs.declared.status.Status.TheVariants.{Done, SomeRefused, WriteFault, OutOfMemory}
use Rattle.st_batch.specs.Causes.{AreCounted}
use Rattle.st_batch.specs.Outcome.{LinesOutcome, NothingDone, Outside, is_refused}
use Rattle.st_batch.specs.OutputSteps.{TakesPrefix}
use Rattle.st_batch.specs.Session.{MayAnswer, RunsTo}
use Rattle.st_batch.specs.Setting.{Loaded, Setting, setting}
use Rattle.st_batch.specs.Texts.{line_of}

-- a moment of the answering: the files, the bytes that the output took, and the session with what isn't written
pub record Moment : Type 0 where
  pub files : FilesState
  pub taken : Option (List ℕ)
  pub answering : Answering

abbrev pub moment : FilesState → Option (List ℕ) → Answering → Moment
moment files taken answering = record { files = files; taken = taken; answering = answering }

-- what stays the same for the lines that are answered from a moment on
abbrev pub setting_at : Moment → Setting
setting_at m = setting m.files.map m.answering.session

-- a line was answered, and its answer gathered
pub record AnswersLine (before now : FilesState) (from to : Answering) (line : List ℕ) : Type 0 where
  pub answer : Answer
  pub answered : MayAnswer (setting before.map from.session) from.session.loaded line answer to.session.loaded
  pub map : now.map ≡ before.map
  pub job : to.session.job ≡ from.session.job
  pub counted : AreCounted before.counts now.counts (answer ∷ [])
  pub gathered : to.gathered.items ≡ from.gathered.items ++ line_of answer
  pub refused : to.refused ≡ (from.refused || is_refused answer)

-- a beginning of what was gathered was written, and the rest is still gathered
pub record Writes (before now : Option (List ℕ)) (from to : Answering) : Type 0 where
  pub written : List ℕ
  pub appended : Appends before now written
  pub gathered : from.gathered.items ≡ written ++ to.gathered.items
  pub session : to.session ≡ from.session
  pub refused : to.refused ≡ from.refused

-- from one moment to another these lines were answered
pub record Advances (from to : Moment) (lines : List (List ℕ)) : Type 0 where
  pub answers : List Answer
  pub written : List ℕ
  pub answered : RunsTo (setting_at from) from.answering.session.loaded lines answers to.answering.session.loaded
  pub map : to.files.map ≡ from.files.map
  pub job : to.answering.session.job ≡ from.answering.session.job
  pub counted : AreCounted from.files.counts to.files.counts answers
  pub appended : Appends from.taken to.taken written
  pub gathered : from.answering.gathered.items ++ flat_map line_of answers ≡ written ++ to.answering.gathered.items
  pub refused : to.answering.refused ≡ (from.answering.refused || list_any is_refused answers)

-- from a moment on these lines were answered, and a beginning of their answers was written
pub record StopsAfter (from : Moment) (files : FilesState) (taken : Option (List ℕ)) (lines : List (List ℕ)) : Type 0 where
  pub answers : List Answer
  pub after : Loaded
  pub written : List ℕ
  pub rest : List ℕ
  pub answered : RunsTo (setting_at from) from.answering.session.loaded lines answers after
  pub counted : AreCounted from.files.counts files.counts answers
  pub appended : Appends from.taken taken written
  pub gathered : from.answering.gathered.items ++ flat_map line_of answers ≡ written ++ rest

-- from a moment on these lines were answered, and all their answers written
pub record Completes (from : Moment) (files : FilesState) (taken : Option (List ℕ)) (lines : List (List ℕ)) (status : Status) : Type 0 where
  pub answers : List Answer
  pub after : Loaded
  pub answered : RunsTo (setting_at from) from.answering.session.loaded lines answers after
  pub counted : AreCounted from.files.counts files.counts answers
  pub appended : Appends from.taken taken (from.answering.gathered.items ++ flat_map line_of answers)
  pub ended : status ≡ (if from.answering.refused || list_any is_refused answers then SomeRefused else Done)

-- the answering stopped within these lines
pub record StopsWithin (from : Moment) (files : FilesState) (taken : Option (List ℕ)) (lines : List (List ℕ)) : Type 0 where
  pub first : List (List ℕ)
  pub more : List (List ℕ)
  pub among : lines ≡ first ++ more
  pub stopped : StopsAfter from files taken first

-- how the answering of lines that are at hand ended
abbrev pub Finishes : Moment → FilesState → Option (List ℕ) → List (List ℕ) → Status → Type 0
Finishes from files taken lines Done = Completes from files taken lines Done
Finishes from files taken lines SomeRefused = Completes from files taken lines SomeRefused
Finishes from files taken lines WriteFault = StopsWithin from files taken lines
Finishes from files taken lines OutOfMemory = StopsWithin from files taken lines
Finishes from files taken lines status = ⊥

-- the status of a run that a fault of the output or want of memory stopped
abbrev pub stopped_by : SinkFault → Status
stopped_by fault.Failed = WriteFault
stopped_by fault.OutOfMemory = OutOfMemory

-- What was gathered is written when all lines are answered, or a beginning of it.
abbrev pub FinishesWriting : Option (List ℕ) → Option (List ℕ) → Answering → Status → Type 0
FinishesWriting before now answering Done = Appends before now answering.gathered.items × (answering.refused ≡ false)
FinishesWriting before now answering SomeRefused = Appends before now answering.gathered.items × (answering.refused ≡ true)
FinishesWriting before now answering WriteFault = TakesPrefix before now answering.gathered.items
FinishesWriting before now answering OutOfMemory = TakesPrefix before now answering.gathered.items
FinishesWriting before now answering status = ⊥

-- the bytes up to the first line feed, and those after it
pub record CutsAtFeed (text end behind : List ℕ) : Type 0 where
  pub whole : text ≡ end ++ (10 ∷ behind)
  pub no_feed : HasNoFeed end

-- a text that follows the begun line ends these lines and begins the next one, whatever comes later
abbrev pub Cuts : List ℕ → List ℕ → List (List ℕ) → List ℕ → Type 0
Cuts begun text lines next = (later : List ℕ) → lines_of (begun ++ (text ++ later)) ≡ lines ++ lines_of (next ++ later)

-- a text that follows the begun line ends these lines and perhaps more
abbrev pub EndsLines : List ℕ → List ℕ → List (List ℕ) → Type 0
EndsLines begun text lines = (later : List ℕ) → (more : List (List ℕ)) × (lines_of (begun ++ (text ++ later)) ≡ lines ++ more)

-- the lines were answered that end in a text, and the next line is begun
pub record ReadsText (from to : Moment) (begun text next : List ℕ) : Type 0 where
  pub lines : List (List ℕ)
  pub cuts : Cuts begun text lines next
  pub advanced : Advances from to lines
  pub no_feed : HasNoFeed next

-- the answering of the lines that end in a text stopped
pub record StopsInText (from : Moment) (files : FilesState) (taken : Option (List ℕ)) (begun text : List ℕ) : Type 0 where
  pub lines : List (List ℕ)
  pub ends : EndsLines begun text lines
  pub stopped : StopsAfter from files taken lines

-- the lines were answered that end in a piece before its rest
pub record ReadsPart (from to : Moment) (begun piece rest next : List ℕ) : Type 0 where
  pub seen : List ℕ
  pub whole : piece ≡ seen ++ rest
  pub read : ReadsText from to begun seen next

-- this many bytes of the input were read, and the lines answered that end in them
pub record ReadsInput (input left : Option (List ℕ)) (from to : Moment) (next : List ℕ) (count : ℕ) : Type 0 where
  pub text : List ℕ
  pub consumed : Consumes input left text
  pub long : length text ≡ count
  pub read : ReadsText from to [] text next

-- how the answering of a session's lines ended, or that memory ran out before anything was written
abbrev pub LinesEnd : Outside → Job → Loaded → Status → List ℕ → Type 0
LinesEnd o job loaded status bytes = LinesOutcome o job loaded status bytes ⊎ ((status ≡ OutOfMemory) × NothingDone o bytes)
