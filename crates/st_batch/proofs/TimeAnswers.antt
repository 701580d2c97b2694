-- The answers of times want no cause, and none is want of memory.
use Rattle.std.proofs.Common.{◌≡◌, ◌≢◌, ℕ, inl, inr, Bool, true, false, Result, Ok, Err, List, refl, sym, ◌∙◌, subst}
use Rattle.st_outside.specs.Causes.{FileCounts}
use Rattle.st_answers.specs.Answer.{AnswerBy, AnswerGives, ForwardGives, back_job}
use Rattle.st_answers.specs.declared.fault.AnswerFault.{AnswerFault}
use Rattle.st_answers.specs.declared.fault.AnswerFault.TheVariants as answer
use Rattle.st_refusals.specs.Causes.{FileCause}
use Rattle.st_refusals.specs.Faults.{answer_fault}
use Rattle.st_refusals.proofs.RefusalLaws.{tables-name-no-memory, times-have-no-cause, times-name-no-memory}
use Rattle.st_words.specs.declared.job.Job.{Job}
use Rattle.st_batch.specs.declared.answer.Answer.{Answer}
use Rattle.st_batch.specs.declared.answer.Answer.TheVariants.{Refused}
use Rattle.st_refusals.specs.declared.fault.LineFault.{LineFault}
use Rattle.st_refusals.specs.declared.fault.LineFault.TheVariants as line
use Rattle.st_batch.specs.Causes.{IsAnswerCaused, IsCausedBy}
use Rattle.st_batch.specs.Setting.{Loaded}
use Rattle.st_batch.specs.Times.{TimeAnswered, clock_id, time_answer}

answer-cause : (job : Job) (r : Result (List ℕ) AnswerFault) (before now : FileCounts) → IsAnswerCaused (time_answer job r) before now
answer-cause job (Ok said) before now = tt
answer-cause job (Err f) before now = subst (λ (c : FileCause). IsCausedBy c before now) (sym (times-have-no-cause (clock_id job.clock) f)) tt

pub no-cause : (job : Job) (loaded : Loaded) (text : List ℕ) (a : Answer) (before now : FileCounts) → TimeAnswered job loaded text a → IsAnswerCaused a before now
no-cause job loaded text a before now h = subst (λ (x : Answer). IsAnswerCaused x before now) (sym h.answered) (answer-cause job h.result before now)

refused-is : (a b : LineFault) → ◌≡◌ {A = Answer} (Refused a) (Refused b) → a ≡ b
refused-is a b e = cc

-- one way, a text is refused for want of memory by none
forward-memory : (n : ℕ) (job : Job) (loaded : Loaded) (text : List ℕ) (f : AnswerFault) → ForwardGives job loaded text (Err f) → answer_fault n f ≢ line.OutOfMemory
forward-memory n job loaded text (answer.Table f) h = tables-name-no-memory n f h.0
forward-memory n job loaded text (answer.Time f) h = times-name-no-memory f h.0
forward-memory n job loaded text answer.OutOfMemory h = absurd h

by-back : (n : ℕ) (back : Bool) (job : Job) (loaded : Loaded) (text : List ℕ) (f : AnswerFault) → AnswerBy back job loaded text (Err f) → answer_fault n f ≢ line.OutOfMemory
by-back n false job loaded text f h = forward-memory n job loaded text f h
by-back n true job loaded text f (inl h) = forward-memory n job loaded text f h
by-back n true job loaded text f (inr (there, h, k)) = forward-memory n (back_job job) loaded there f k

result-memory : (job : Job) (loaded : Loaded) (text : List ℕ) (r : Result (List ℕ) AnswerFault) → AnswerGives job loaded text r → time_answer job r ≢ Refused line.OutOfMemory
result-memory job loaded text (Ok said) h = λ e. cc
result-memory job loaded text (Err f) h = λ e. by-back (clock_id job.clock) job.back job loaded text f h (refused-is (answer_fault (clock_id job.clock) f) line.OutOfMemory e)

pub no-memory : (job : Job) (loaded : Loaded) (text : List ℕ) (a : Answer) → TimeAnswered job loaded text a → a ≢ Refused line.OutOfMemory
no-memory job loaded text a h = λ e. result-memory job loaded text h.result h.given (sym h.answered ∙ e)
