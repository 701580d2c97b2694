-- A time has an answer, and one that isn't left undecided.
use Rattle.std.proofs.Common.{◌≡◌, ◌≢◌, ℕ, Result, Ok, Err, List, refl, sym, ap, ◌∙◌, subst}
use Rattle.st_answers.specs.Answer.{AnswerGives}
use Rattle.st_answers.specs.Ready.{IsReady}
use Rattle.st_answers.specs.declared.fault.AnswerFault.{AnswerFault}
use Rattle.st_answers.specs.declared.fault.AnswerFault.TheVariants as answer
use Rattle.st_answers.proofs.AnswerLaws.{each-text-has-answer, one-decided-answer}
use Rattle.st_routes.specs.declared.fault.TimeFault.TheVariants as time
use Rattle.st_refusals.specs.Causes.{NoCause, Faulty, cause_of}
use Rattle.st_refusals.specs.Faults.{answer_fault}
use Rattle.st_refusals.proofs.RefusalLaws.{times-have-no-cause, undecided-is-carried}
use Rattle.st_words.specs.declared.job.Job.{Job}
use Rattle.st_batch.specs.declared.answer.Answer.{Answer}
use Rattle.st_batch.specs.declared.answer.Answer.TheVariants.{Refused}
use Rattle.st_refusals.specs.declared.fault.LineFault.{LineFault}
use Rattle.st_refusals.specs.declared.fault.LineFault.TheVariants as line
use Rattle.st_batch.specs.Laws.{Agree, IsDecided}
use Rattle.st_batch.specs.Setting.{Loaded}
use Rattle.st_batch.specs.Times.{TimeAnswered, clock_id, time_answer}

-- no time is refused for a fault of the files
fault-none : (n : ℕ) (f : AnswerFault) → answer_fault n f ≢ line.FileFault
fault-none n f = λ e. other (sym (times-have-no-cause n f) ∙ ap cause_of e)
  where
    other : NoCause ≡ Faulty → ⊥
    other e = absurd cc

refused-is : (a b : LineFault) → ◌≡◌ {A = Answer} (Refused a) (Refused b) → a ≡ b
refused-is a b e = cc

answer-none : (job : Job) (r : Result (List ℕ) AnswerFault) → time_answer job r ≢ Refused line.FileFault
answer-none job (Ok said) = λ e. cc
answer-none job (Err f) = λ e. fault-none (clock_id job.clock) f (refused-is (answer_fault (clock_id job.clock) f) line.FileFault e)

pub some-time : (job : Job) (loaded : Loaded) (text : List ℕ) → IsReady job
    → (a : Answer) × TimeAnswered job loaded text a × (a ≢ Refused line.FileFault)
some-time job loaded text ready =
    let r = each-text-has-answer job loaded text ready in
    (time_answer job r.0, record { result = r.0; given = r.1; answered = refl }, answer-none job r.0)

-- two answers of a time agree
decided-time : (job : Job) (a : Answer) (r : Result (List ℕ) AnswerFault) → a ≡ time_answer job r → IsDecided a → r ≢ Err (answer.Time time.Undecided)
decided-time job a r is not = λ e. not (is ∙ ap (time_answer job) e)

pub times-agree : (job : Job) (loaded : Loaded) (text : List ℕ) (a b : Answer) → IsReady job → TimeAnswered job loaded text a → TimeAnswered job loaded text b → Agree a b
times-agree job loaded text a b ready h k da db =
    h.answered
    ∙ ap (time_answer job) (one-decided-answer job loaded text h.result k.result ready (decided-time job a h.result h.answered da) (decided-time job b k.result k.answered db) h.given k.given)
    ∙ sym k.answered

-- a time is left undecided where its answer is
result-undecided : (job : Job) (r : Result (List ℕ) AnswerFault) → time_answer job r ≡ Refused line.Undecided → r ≡ Err (answer.Time time.Undecided)
result-undecided job (Ok said) e = absurd cc
result-undecided job (Err f) e = ap Err (undecided-is-carried (clock_id job.clock) f (refused-is (answer_fault (clock_id job.clock) f) line.Undecided e))

pub time-is-undecided : (job : Job) (loaded : Loaded) (text : List ℕ) → TimeAnswered job loaded text (Refused line.Undecided) → AnswerGives job loaded text (Err (answer.Time time.Undecided))
time-is-undecided job loaded text h = subst (λ (r : Result (List ℕ) AnswerFault). AnswerGives job loaded text r) (result-undecided job h.result (sym h.answered)) h.given
