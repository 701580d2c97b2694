-- The lines of a job.
use Rattle.std.specs.Prelude.{◌≡◌, ℕ, ◌≤◌, Option, Some, None, List, [], ◌∷◌, length, ⊤}
use Rattle.st_samples.specs.JobLine.{AreSampleLines}
use Rattle.st_text.specs.Lines.{lines_of}
use Rattle.st_words.specs.declared.job.Job.{Job}
use Rattle.st_words.specs.declared.job.Work.{Work}
use Rattle.st_words.specs.declared.job.Work.TheVariants.{Time, Batch, Sample}
use Rattle.st_batch.specs.Limits.{most_input_bytes}
use Rattle.st_batch.specs.Setting.{Loaded}

-- the one of the words as it is, those of the input where it tells its bytes, or those of a sample
abbrev pub AreLinesBy : Work → Job → Loaded → Option (List ℕ) → List (List ℕ) → Type 0
AreLinesBy (Time text) job loaded input lines = lines ≡ text ∷ []
AreLinesBy Batch job loaded None lines = ⊤
AreLinesBy Batch job loaded (Some bytes) lines = lines ≡ lines_of bytes
AreLinesBy (Sample n seed) job loaded input lines = AreSampleLines job loaded n seed lines

-- The lines that are to be answered, for the loaded list that the setup leaves.
abbrev pub AreLines : Job → Loaded → Option (List ℕ) → List (List ℕ) → Type 0
AreLines job loaded input lines = AreLinesBy job.work job loaded input lines

-- the input, where it is read, has no more bytes than it may have
abbrev pub IsShortInput : Work → Option (List ℕ) → Type 0
IsShortInput Batch (Some bytes) = length bytes ≤ most_input_bytes
IsShortInput work input = ⊤
