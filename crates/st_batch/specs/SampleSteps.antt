-- How far the answering of a sample has come.
use Rattle.std.specs.Prelude.{◌≡◌, ℕ, ◌==◌, if◌then◌else◌, map, Option, List, [], ◌∷◌, ◌⊎◌}
use Rattle.std.specs.Io.KnownBytes.{Appends}
use Rattle.st_outside.specs.Causes.{FileCounts}
use Rattle.st_samples.specs.JobLine.{AreSampleLines, IsSampleLine}
use Rattle.st_samples.specs.Summary.{Summary, summary_of, with_answer}
use Rattle.st_batch.specs.declared.answer.Answer.{Answer}
use Rattle.st_batch.specs.declared.status.Status.{Status}
use Rattle.st_batch.specs.declared.status.Status.TheVariants.{Done, OutOfMemory, SomeRefused}
use Rattle.st_batch.specs.Causes.{AreCounted}
use Rattle.st_batch.specs.Outcome.{status_of}
use Rattle.st_batch.specs.OutputSteps.{Delivers}
use Rattle.st_batch.specs.Session.{MayAnswer, RunsTo}
use Rattle.st_batch.specs.Setting.{Loaded, Setting}
use Rattle.st_batch.specs.Texts.{as_counted, summary_line}

-- the first n lines of a sample were answered, which left the loaded list and the files
pub record Samples (s : Setting) (counts : FileCounts) (loaded : Loaded) (seed n : ℕ) (answers : List Answer) : Type 0 where
  pub lines : List (List ℕ)
  pub are_lines : AreSampleLines s.job loaded n seed lines
  pub answered : RunsTo s loaded lines answers loaded
  pub counted : AreCounted counts counts answers

-- and their answers counted
pub record SumsUp (s : Setting) (counts : FileCounts) (loaded : Loaded) (seed n : ℕ) (summary : Summary) : Type 0 where
  pub answers : List Answer
  pub sampled : Samples s counts loaded seed n answers
  pub summed : summary ≡ summary_of (map as_counted answers)

-- the line of x was answered, which left the loaded list and the files, and its answer counted
pub record SumsLine (s : Setting) (counts : FileCounts) (loaded : Loaded) (x : ℕ) (before after : Summary) : Type 0 where
  pub line : List ℕ
  pub answer : Answer
  pub is_line : IsSampleLine s.job loaded x line
  pub answered : MayAnswer s loaded line answer loaded
  pub counted : AreCounted counts counts (answer ∷ [])
  pub summed : after ≡ with_answer before (as_counted answer)

-- how a run ends whose answers are summed up so
abbrev pub status_for : Summary → Status
status_for summary = if summary.refused == 0 then Done else SomeRefused

-- a sample of n lines was answered, and the summary written or a beginning of it; or memory ran out before anything was written
abbrev pub SampleEnds : Setting → FileCounts → Loaded → ℕ → ℕ → Option (List ℕ) → Option (List ℕ) → Status → Type 0
SampleEnds s counts loaded seed n before after status =
    ((answers : List Answer) × Samples s counts loaded seed n answers × Delivers (summary_line answers) (status_of answers) before after status)
    ⊎ ((status ≡ OutOfMemory) × (after ≡ before))
