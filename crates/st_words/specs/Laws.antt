-- What the definition of the words says by itself.
use Rattle.std.specs.Prelude.{◌≡◌, ℕ, List, Result, Ok}
use Rattle.st_pool.specs.declared.kernel.Kernel.{Kernel}
use Rattle.st_words.specs.Job.{IsGoodJob}
use Rattle.st_words.specs.Reading.{WordsGive}
use Rattle.st_words.specs.Setup.{SetupClock, SetupFiles}
use Rattle.st_words.specs.Spelling.{CanBeSpelled}
use Rattle.st_words.specs.declared.fault.IdFault.{IdFault}
use Rattle.st_words.specs.declared.fault.SetupFault.{SetupFault}
use Rattle.st_words.specs.declared.fault.WordFault.{WordFault}
use Rattle.st_words.specs.declared.job.Job.{Job}

-- Words give one answer: a job, or one fault.
abbrev pub OneAnswer : Type 0
OneAnswer = (words : List (List ℕ)) (a b : Result Job WordFault) → WordsGive words a → WordsGive words b → a ≡ b

-- Each list of words gives an answer.
abbrev pub EachHasAnswer : Type 0
EachHasAnswer = (words : List (List ℕ)) → (answer : Result Job WordFault) × WordsGive words answer

-- Each job that a session can be opened for has words that ask for it, where none of its texts names an option.
abbrev pub EachJobIsSpelled : Type 0
EachJobIsSpelled = (job : Job) → IsGoodJob job → CanBeSpelled job → (words : List (List ℕ)) × WordsGive words (Ok job)

-- Each job that words ask for is one that a session can be opened for.
abbrev pub EachJobIsGood : Type 0
EachJobIsGood = (words : List (List ℕ)) (job : Job) → WordsGive words (Ok job) → IsGoodJob job

-- A loaded setup names at most one clock, or is refused for at most one reason.
abbrev pub OneSetupClock : Type 0
OneSetupClock = (loaded : List Kernel) (a b : Result ℕ IdFault) → SetupClock loaded a → SetupClock loaded b → a ≡ b

-- And it names at most one list of files, or has at most one first variable of a wrong kind.
abbrev pub OneSetupFiles : Type 0
OneSetupFiles = (loaded : List Kernel) (a b : Result (List (List ℕ)) SetupFault) → SetupFiles loaded a → SetupFiles loaded b → a ≡ b
