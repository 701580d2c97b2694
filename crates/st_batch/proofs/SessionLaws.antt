-- The commands, and the answer of a line from that of its text.
use Rattle.std.proofs.Common.{◌≡◌, ◌≢◌, ℕ, ◌≤◌, inl, inr, Bool, true, false, Option, Result, Ok, Err, IfOk, List, length, codes, refl, sym, ◌∙◌, subst}
use Rattle.st_outside.specs.Entries.{Entries}
use Rattle.st_pool.specs.Loaded.{is_loaded}
use Rattle.st_text.specs.Lines.{trimmed}
use Rattle.st_batch.specs.declared.answer.Answer.{Answer}
use Rattle.st_batch.specs.declared.answer.Answer.TheVariants.{Text, Refused}
use Rattle.st_outside.specs.Causes.{FileCounts}
use Rattle.st_refusals.specs.declared.kernel_fault.KernelFault.{KernelFault}
use Rattle.st_refusals.specs.declared.kernel_fault.KernelFault.TheVariants as kernel
use Rattle.st_batch.specs.Causes.{IsAnswerCaused, IsCaused}
use Rattle.st_refusals.specs.declared.fault.LineFault.{LineFault}
use Rattle.st_refusals.specs.declared.fault.LineFault.TheVariants.{BadCommand, LineTooLong, NotLoaded, OutOfMemory}
use Rattle.st_words.specs.declared.job.Job.{Job}
use Rattle.st_batch.specs.declared.session.TheConstants.{MAX_LINE}
use Rattle.st_batch.specs.Commands.{LoadAnswers, begins_command, load_answer, unload_answer}
use Rattle.st_batch.specs.Load.{LoadGives}
use Rattle.st_refusals.specs.Faults.{line_fault}
use Rattle.st_batch.specs.Session.{MayAnswer, TextGives}
use Rattle.st_batch.specs.Setting.{Loaded, Setting}
use Rattle.st_batch.specs.Times.{TimeAnswered}
use Rattle.st_batch.proofs.SetupLaws.{given-line}
use Rattle.st_batch.proofs.TimeAnswers as times

-- a loading that was refused is answered so, and leaves the loaded list
pub load-refused : {E : Type 0} (files : Option Entries) (loaded after : Loaded) (name : List ℕ) (fault : KernelFault) (r : Result Answer E)
    → IfOk r (λ answer. (fault ≢ kernel.OutOfMemory) × (answer ≡ Refused (line_fault fault))) → (fault ≢ kernel.OutOfMemory → LoadGives files loaded name (Err fault)) → after ≡ loaded
    → IfOk r (λ answer. LoadAnswers files loaded name answer after)
load-refused files loaded after name fault (Ok answer) (not, said) given left = record { result = Err fault; given = given not; answered = said; left = left }
load-refused files loaded after name fault (Err error) named given left = tt

pub refused-caused : {E : Type 0} (fault : KernelFault) (before now : FileCounts) (r : Result Answer E)
    → IfOk r (λ answer. (fault ≢ kernel.OutOfMemory) × (answer ≡ Refused (line_fault fault))) → IsCaused (line_fault fault) before now → IfOk r (λ answer. IsAnswerCaused answer before now)
refused-caused fault before now (Ok answer) (not, said) caused =
    let P : Answer → Type 0 = λ a. IsAnswerCaused a before now in
    subst P (sym said) caused
refused-caused fault before now (Err error) named caused = tt

-- the answer of a text is that of its line
pub text-line : {E : Type 0} (s : Setting) (loaded after : Loaded) (line text : List ℕ) (r : Result Answer E) → length line ≤ MAX_LINE → text ≡ trimmed line
    → IfOk r (λ answer. TextGives s loaded text answer after) → IfOk r (λ answer. MayAnswer s loaded line answer after)
text-line s loaded after line text (Ok answer) short same given =
    let P : List ℕ → Type 0 = λ t. TextGives s loaded t answer after in
    inr (short, subst P same given)
text-line s loaded after line text (Err error) short same given = tt

-- the answer of a time is that of its text
pub time-text : {E : Type 0} (files : Option Entries) (job : Job) (loaded after : Loaded) (text : List ℕ) (r : Result Answer E) → begins_command text ≡ false
    → IfOk r (TimeAnswered job loaded text) → after ≡ loaded → IfOk r (λ answer. TextGives (record { files = files; job = job }) loaded text answer after)
time-text files job loaded after text (Ok answer) time given left = inr (time, given, left)
time-text files job loaded after text (Err error) time given left = tt

-- and wants no cause
pub time-caused : {E : Type 0} (job : Job) (loaded : Loaded) (text : List ℕ) (before now : FileCounts) (r : Result Answer E) → IfOk r (TimeAnswered job loaded text)
    → IfOk r (λ answer. IsAnswerCaused answer before now)
time-caused job loaded text before now (Ok answer) given = times.no-cause job loaded text answer before now given
time-caused job loaded text before now (Err error) given = tt

-- no answer is want of memory
refused-is : (a b : LineFault) → ◌≡◌ {A = Answer} (Refused a) (Refused b) → a ≡ b
refused-is a b e = cc

load-not-memory : (files : Option Entries) (loaded : Loaded) (name : List ℕ) (r : Result Loaded KernelFault) → LoadGives files loaded name r → load_answer r ≢ Refused OutOfMemory
load-not-memory files loaded name (Ok after) given = λ e. cc
load-not-memory files loaded name (Err fault) given = λ e. given-line files loaded name fault given (refused-is (line_fault fault) OutOfMemory e)

unload-not : (is : Bool) (fault : LineFault) → fault ≢ NotLoaded → unload_answer is ≢ Refused fault
unload-not true fault not = λ e. cc
unload-not false fault not = λ e. not (sym (refused-is NotLoaded fault e))

text-not-memory : (s : Setting) (loaded after : Loaded) (text : List ℕ) (answer : Answer) → TextGives s loaded text answer after → answer ≢ Refused OutOfMemory
text-not-memory s loaded after text answer (inr (time, h, same)) = times.no-memory s.job loaded text answer h
text-not-memory s loaded after text answer (inl (begins, inl (name, asked, h))) = λ e. load-not-memory s.files loaded name h.result h.given (sym h.answered ∙ e)
text-not-memory s loaded after text answer (inl (begins, inr (inl (name, asked, h)))) = λ e. unload-not (is_loaded name loaded) OutOfMemory (λ n. cc) (sym h.answered ∙ e)
text-not-memory s loaded after text answer (inl (begins, inr (inr (inl (asked, said, none))))) = λ e. clear (sym said ∙ e)
  where
    clear : Text (codes "cleared") ≡ Refused OutOfMemory → ⊥
    clear e = absurd cc
text-not-memory s loaded after text answer (inl (begins, inr (inr (inr (asked, said, same))))) = λ e. bad (sym said ∙ e)
  where
    bad : ◌≡◌ {A = Answer} (Refused BadCommand) (Refused OutOfMemory) → ⊥
    bad e = absurd cc

pub not-memory : (s : Setting) (loaded after : Loaded) (line : List ℕ) (answer : Answer) → MayAnswer s loaded line answer after → answer ≢ Refused OutOfMemory
not-memory s loaded after line answer (inl (long, said, same)) = λ e. late (sym said ∙ e)
  where
    late : ◌≡◌ {A = Answer} (Refused LineTooLong) (Refused OutOfMemory) → ⊥
    late e = absurd cc
not-memory s loaded after line answer (inr (short, h)) = text-not-memory s loaded after (trimmed line) answer h
