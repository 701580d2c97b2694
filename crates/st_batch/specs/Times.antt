-- The answer of a time as that of a line.
use Rattle.std.specs.Prelude.{◌≡◌, ℕ, Option, unwrap_or, Result, Ok, Err, List}
use Rattle.st_answers.specs.Answer.{AnswerGives}
use Rattle.st_answers.specs.declared.fault.AnswerFault.{AnswerFault}
use Rattle.st_refusals.specs.Faults.{answer_fault}
use Rattle.st_words.specs.declared.job.Job.{Job}
use Rattle.st_batch.specs.declared.answer.Answer.{Answer}
use Rattle.st_batch.specs.declared.answer.Answer.TheVariants.{Text, Refused}
use Rattle.st_batch.specs.Setting.{Loaded}

-- the id of the job's clock, where it has one
abbrev pub clock_id : Option ℕ → ℕ
clock_id clock = unwrap_or clock 0

abbrev pub time_answer : Job → Result (List ℕ) AnswerFault → Answer
time_answer job (Ok said) = Text said
time_answer job (Err fault) = Refused (answer_fault (clock_id job.clock) fault)

-- the answer of a text that does not begin as a command does
pub record TimeAnswered (job : Job) (loaded : Loaded) (text : List ℕ) (answer : Answer) : Type 0 where
  pub result : Result (List ℕ) AnswerFault
  pub given : AnswerGives job loaded text result
  pub answered : answer ≡ time_answer job result
