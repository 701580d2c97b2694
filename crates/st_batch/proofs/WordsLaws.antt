-- Words ask for one job, or are refused for one fault.
use Rattle.std.proofs.Common.{◌≡◌, ℕ, Result, Ok, Err, List}
use Rattle.st_words.specs.Reading.{WordsGive}
use Rattle.st_words.specs.declared.fault.WordFault.{WordFault}
use Rattle.st_words.specs.declared.job.Job.{Job}
use Rattle.st_words.proofs.OneAnswer.{one_answer}

same-job : (a b : Job) → ◌≡◌ {A = Result Job WordFault} (Ok a) (Ok b) → a ≡ b
same-job a b e = cc

same-fault : (a b : WordFault) → ◌≡◌ {A = Result Job WordFault} (Err a) (Err b) → a ≡ b
same-fault a b e = cc

job-or-fault : (a : Job) (b : WordFault) → ◌≡◌ {A = Result Job WordFault} (Ok a) (Err b) → ⊥
job-or-fault a b e = absurd cc

-- words ask for one job
pub one-job : (words : List (List ℕ)) (a b : Job) → WordsGive words (Ok a) → WordsGive words (Ok b) → a ≡ b
one-job words a b h k = same-job a b (one_answer words (Ok a) (Ok b) h k)

-- words that ask for a job aren't refused
pub one-or-none : (words : List (List ℕ)) (job : Job) (fault : WordFault) → WordsGive words (Ok job) → WordsGive words (Err fault) → ⊥
one-or-none words job fault h k = job-or-fault job fault (one_answer words (Ok job) (Err fault) h k)

-- and are refused for one reason
pub one-refusal : (words : List (List ℕ)) (a b : WordFault) → WordsGive words (Err a) → WordsGive words (Err b) → a ≡ b
one-refusal words a b h k = same-fault a b (one_answer words (Err a) (Err b) h k)
