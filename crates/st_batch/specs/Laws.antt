-- What the definitions of a run say by themselves, as laws.
use Rattle.std.specs.Prelude.{◌≡◌, ◌≢◌, ◌⊎◌, ℕ, false, ◌<◌, ◌^◌, ◌-◌, Option, Some, Result, Ok, Err, List, ◌++◌, [], ◌∷◌, count_by, length, ◌≤◌, ⊤}
use Rattle.st_outside.specs.Entries.{Entries}
use Rattle.st_answers.specs.Laws.{HasSineThereOrBack, IsExact}
use Rattle.st_answers.specs.Ready.{IsReady}
use Rattle.st_text.specs.Lines.{trimmed}
use Rattle.st_batch.specs.declared.answer.Answer.{Answer}
use Rattle.st_batch.specs.declared.answer.Answer.TheVariants.{Refused}
use Rattle.st_refusals.specs.declared.kernel_fault.KernelFault.{KernelFault}
use Rattle.st_refusals.specs.declared.kernel_fault.KernelFault.TheVariants as kernel
use Rattle.st_refusals.specs.declared.fault.LineFault.TheVariants.{FileFault, Undecided}
use Rattle.st_words.specs.Reading.{WordsGive}
use Rattle.st_words.specs.declared.job.Job.{Job}
use Rattle.st_batch.specs.declared.status.Status.{Status}
use Rattle.st_batch.specs.declared.status.Status.TheVariants.{Done, SomeRefused, BadWords, BadSetup, InputTooLong}
use Rattle.st_batch.specs.Causes.{has_cause}
use Rattle.st_refusals.specs.Causes.{Faulty, cause_of}
use Rattle.st_batch.specs.Commands.{begins_command}
use Rattle.st_batch.specs.Limits.{most_input_bytes}
use Rattle.st_batch.specs.Lines.{AreLines}
use Rattle.st_batch.specs.Load.{LoadGives}
use Rattle.st_batch.specs.Outcome.{AllAnswered, HaveEnded, Outcome, Outside, over}
use Rattle.st_batch.specs.Session.{MayAnswer, RunsTo}
use Rattle.st_batch.specs.Setting.{Loaded, Setting, State}
use Rattle.st_batch.specs.Setup.{SetupGives}

-- all lines were answered, or one line says why there are no answers
abbrev pub IsComplete : Status → Type 0
IsComplete Done = ⊤
IsComplete SomeRefused = ⊤
IsComplete (BadWords fault) = ⊤
IsComplete (BadSetup cause) = ⊤
IsComplete status = ⊥

-- the files and the input tell their bytes, and the files' count of faults did not rise and isn't at its last value, where no
-- rise would show
pub record IsTold (o : Outside) (files : Entries) (input : List ℕ) : Type 0 where
  pub files_told : o.files.map ≡ Some files
  pub input_told : o.input.left ≡ Some input
  pub no_fault : o.files_after.counts.faults ≡ o.files.counts.faults
  pub not_last : o.files.counts.faults < 2 ^ 64 - 1

-- an answer that isn't left undecided
abbrev pub IsDecided : Answer → Type 0
IsDecided answer = answer ≢ Refused Undecided

-- two answers are one where neither is left undecided
abbrev pub Agree : Answer → Answer → Type 0
Agree answer other = IsDecided answer → IsDecided other → answer ≡ other

-- as many answers as others, each of which agrees with that in its place
abbrev pub AgreeEach : List Answer → List Answer → Type 0
AgreeEach [] [] = ⊤
AgreeEach (answer ∷ answers) (other ∷ others) = Agree answer other × AgreeEach answers others
AgreeEach answers others = ⊥

-- One of these lines is a time, and answers to those before it, of which none names a fault of the files, lead from a loaded list to
-- the one by which it is answered.
pub record IsReached (s : Setting) (loaded : Loaded) (lines : List (List ℕ)) (reached : Loaded) : Type 0 where
  pub first : List (List ℕ)
  pub line : List ℕ
  pub more : List (List ℕ)
  pub answers : List Answer
  pub among : lines ≡ first ++ (line ∷ more)
  pub time : begins_command (trimmed line) ≡ false
  pub answered : RunsTo s loaded first answers reached
  pub no_fault : count_by (has_cause Faulty) answers ≡ 0

-- by each loaded list that is reached no sine stands on the job's way
abbrev pub AreAllExact : Setting → Loaded → List (List ℕ) → Type 0
AreAllExact s loaded lines = (reached : Loaded) → IsReached s loaded lines reached → IsExact s.job reached

-- the same for the job that the words ask for, its setup and its lines
abbrev pub IsExactRun : Outside → List (List ℕ) → Type 0
IsExactRun o words =
    (job : Job) (session : State) (lines : List (List ℕ)) → WordsGive words (Ok job) → SetupGives (over o job) (Ok session)
    → AreLines session.job session.loaded o.input.left lines → AreAllExact (over o session.job) session.loaded lines

-- all lines were answered twice, with answers that agree
pub record AgreeOutputs (o p : Outside) (words : List (List ℕ)) (first second : Status) (one other : List ℕ) : Type 0 where
  pub job : Job
  pub session : State
  pub asked : WordsGive words (Ok job)
  pub setup : SetupGives (over o job) (Ok session)
  pub run : AllAnswered o session.job session.loaded first one
  pub again : AllAnswered p session.job session.loaded second other
  pub lines : run.lines ≡ again.lines
  pub agree : AgreeEach run.answers again.answers

-- Where the files had no fault, two whole outputs that the words, the files and the input allow are one, with one status, or their
-- answers agree: each two answers of a line are one unless one of them is left undecided.
abbrev pub OneDecidedOutput : Type 0
OneDecidedOutput =
    (o p : Outside) (files : Entries) (input : List ℕ) (words : List (List ℕ)) (first second : Status) (one other : List ℕ)
    → IsTold o files input → IsTold p files input → IsComplete first → IsComplete second
    → Outcome o words first one → Outcome p words second other
    → ((first ≡ second) × (one ≡ other)) ⊎ AgreeOutputs o p words first second one other

-- Where the files had no fault, and no sine stands on the job's way, the words, the files and the input allow at most one whole
-- output, with one status, whatever the other counts are.
abbrev pub OneOutput : Type 0
OneOutput =
    (o p : Outside) (files : Entries) (input : List ℕ) (words : List (List ℕ)) (first second : Status) (one other : List ℕ)
    → IsTold o files input → IsTold p files input → IsExactRun o words → IsComplete first → IsComplete second
    → Outcome o words first one → Outcome p words second other → (first ≡ second) × (one ≡ other)

-- For a job that is ready every line has an answer by every loaded list and all files, and one that names no fault of the files.
abbrev pub EveryLineHasAnswer : Type 0
EveryLineHasAnswer =
    (s : Setting) (loaded : Loaded) (line : List ℕ) → IsReady s.job
    → (answer : Answer) × ((after : Loaded) × MayAnswer s loaded line answer after × (answer ≢ Refused FileFault))

-- By files that tell their bytes, and whatever stands on the way of a job that is ready, two answers of a line that name no fault
-- of the files agree: at most one text may be printed. The loaded list after the line is one, left undecided or not.
abbrev pub OneDecidedAnswer : Type 0
OneDecidedAnswer =
    (s : Setting) (files : Entries) (loaded after next : Loaded) (line : List ℕ) (answer other : Answer)
    → s.files ≡ Some files → IsReady s.job → MayAnswer s loaded line answer after → MayAnswer s loaded line other next
    → answer ≢ Refused FileFault → other ≢ Refused FileFault → Agree answer other × (after ≡ next)

-- So do two lists of answers to some lines.
abbrev pub OneDecidedRun : Type 0
OneDecidedRun =
    (s : Setting) (files : Entries) (loaded after next : Loaded) (lines : List (List ℕ)) (answers others : List Answer)
    → s.files ≡ Some files → IsReady s.job → RunsTo s loaded lines answers after → RunsTo s loaded lines others next
    → count_by (has_cause Faulty) answers ≡ 0 → count_by (has_cause Faulty) others ≡ 0 → AgreeEach answers others × (after ≡ next)

-- Where a line is left undecided a sine stands on the job's way, or where that is asked for on its way back.
abbrev pub UndecidedHasASine : Type 0
UndecidedHasASine =
    (s : Setting) (loaded after : Loaded) (line : List ℕ) → MayAnswer s loaded line (Refused Undecided) after → HasSineThereOrBack s.job loaded

-- By a loaded list by which no sine stands there no line is left undecided.
abbrev pub ExactIsDecided : Type 0
ExactIsDecided =
    (s : Setting) (loaded after : Loaded) (line : List ℕ) (answer : Answer) → IsExact s.job loaded → MayAnswer s loaded line answer after → IsDecided answer

-- So by files that tell their bytes, and such a loaded list, a line has at most one answer, with one loaded list after it, that
-- names no fault of the files.
abbrev pub OneAnswer : Type 0
OneAnswer =
    (s : Setting) (files : Entries) (loaded after next : Loaded) (line : List ℕ) (answer other : Answer)
    → s.files ≡ Some files → IsReady s.job → IsExact s.job loaded
    → MayAnswer s loaded line answer after → MayAnswer s loaded line other next
    → answer ≢ Refused FileFault → other ≢ Refused FileFault → (answer ≡ other) × (after ≡ next)

-- Every loading gives something, and something other than a fault of the files.
abbrev pub EveryLoadingGives : Type 0
EveryLoadingGives =
    (files : Option Entries) (loaded : Loaded) (name : List ℕ)
    → (result : Result Loaded KernelFault) × LoadGives files loaded name result × (result ≢ Err kernel.FileFault)

-- By files that tell their bytes a loading gives at most one thing that is no fault of the files.
abbrev pub OneLoading : Type 0
OneLoading =
    (files : Entries) (loaded : Loaded) (name : List ℕ) (result other : Result Loaded KernelFault)
    → LoadGives (Some files) loaded name result → LoadGives (Some files) loaded name other
    → result ≢ Err kernel.FileFault → other ≢ Err kernel.FileFault → result ≡ other

-- What was read of an input that tells its bytes ends one list of lines.
abbrev pub OneEnding : Type 0
OneEnding =
    (input left : List ℕ) (lines other : List (List ℕ)) → HaveEnded (Some input) (Some left) lines → HaveEnded (Some input) (Some left) other → lines ≡ other

-- For a job that is ready answers to some first lines go on to answers to all lines, and those to the later lines name no
-- fault of the files.
abbrev pub EveryBeginningGoesOn : Type 0
EveryBeginningGoesOn =
    (s : Setting) (loaded after : Loaded) (lines more : List (List ℕ)) (answers : List Answer)
    → IsReady s.job → RunsTo s loaded lines answers after
    → (later : List Answer) × ((last : Loaded) × RunsTo s loaded (lines ++ more) (answers ++ later) last × (count_by (has_cause Faulty) later ≡ 0))

-- all lines were answered, or the setup was refused for a fault of the files, or a fault of the input or the output or want of
-- memory cut the run off
abbrev pub IsAnsweredOrCut : Status → Type 0
IsAnsweredOrCut (BadWords fault) = ⊥
IsAnsweredOrCut (BadSetup fault) = cause_of fault ≡ Faulty
IsAnsweredOrCut InputTooLong = ⊥
IsAnsweredOrCut status = ⊤

-- Words that ask for a job, a setup that loads by the bytes of the files, and an input that isn't too long are answered, unless
-- the setup is refused for a fault of the files or the run is cut off.
abbrev pub GoodRunIsAnswered : Type 0
GoodRunIsAnswered =
    (o : Outside) (files : Entries) (input : List ℕ) (words : List (List ℕ)) (job : Job) (session : State) (status : Status) (bytes : List ℕ)
    → o.files.map ≡ Some files → o.input.left ≡ Some input → WordsGive words (Ok job) → SetupGives (over o job) (Ok session) → length input ≤ most_input_bytes
    → Outcome o words status bytes → IsAnsweredOrCut status
