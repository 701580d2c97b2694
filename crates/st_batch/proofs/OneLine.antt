-- By files that tell their bytes two answers of a line that name no fault of the files agree: they are one where neither is left
-- undecided, and where no sine stands on the job's way none is. So do answers to lines.
use Rattle.std.proofs.Common.{◌≡◌, ◌≢◌, ℕ, ◌+◌, cond, count_by, inl, inr, Bool, true, false, Option, Some, Result, Ok, Err, List, [], ◌∷◌, refl, sym, ap, ◌∙◌, subst, arith}
use Rattle.std.proofs.lemmas.Bool.{false≢true}
use Rattle.std.proofs.lemmas.List.Sums.{sum_by-cons}
use Rattle.st_answers.specs.Answer.{AnswerGives}
use Rattle.st_answers.specs.Laws.{IsExact}
use Rattle.st_answers.specs.Ready.{IsReady}
use Rattle.st_answers.specs.declared.fault.AnswerFault.TheVariants as answer
use Rattle.st_answers.proofs.AnswerLaws.{exact-is-decided, undecided-has-a-sine}
use Rattle.st_outside.specs.Entries.{Entries}
use Rattle.st_pool.specs.Loaded.{is_loaded}
use Rattle.st_routes.specs.declared.fault.TimeFault.TheVariants as time
use Rattle.st_text.specs.Lines.{trimmed}
use Rattle.st_batch.specs.declared.answer.Answer.{Answer}
use Rattle.st_batch.specs.declared.answer.Answer.TheVariants.{Refused}
use Rattle.st_refusals.specs.declared.kernel_fault.KernelFault.{KernelFault}
use Rattle.st_refusals.specs.declared.kernel_fault.KernelFault.TheVariants as kernel
use Rattle.st_refusals.specs.declared.fault.LineFault.TheVariants.{FileFault, Undecided}
use Rattle.st_batch.specs.Causes.{has_cause}
use Rattle.st_refusals.specs.Causes.{Faulty}
use Rattle.st_batch.specs.Commands.{CommandGives, begins_command, load_answer, unload_answer}
use Rattle.st_batch.specs.Laws.{Agree, ExactIsDecided, IsDecided, OneAnswer, OneDecidedAnswer, OneDecidedRun, UndecidedHasASine}
use Rattle.st_batch.specs.Session.{MayAnswer, RunsTo, TextGives}
use Rattle.st_batch.specs.Setting.{Loaded, Setting}
use Rattle.st_batch.proofs.LineLaws.{Step, both-commands}
use Rattle.st_batch.proofs.TimesLaws.{time-is-undecided, times-agree}

-- steps agree whose answers do, with one loaded list after them
abbrev AgreeStep : Step → Step → Type 0
AgreeStep x y = Agree x.0 y.0 × (x.1 ≡ y.1)

one-agrees : (x y : Step) → x ≡ y → AgreeStep x y
one-agrees x y e = (λ d f. ap (λ (t : Step). t.0) e, ap (λ (t : Step). t.1) e)

both-texts : (s : Setting) (files : Entries) (loaded : Loaded) (text : List ℕ) (x y : Step) → s.files ≡ Some files → IsReady s.job → TextGives s loaded text x.0 x.1 → TextGives s loaded text y.0 y.1
    → x.0 ≢ Refused FileFault → y.0 ≢ Refused FileFault → AgreeStep x y
both-texts s files loaded text x y told ready (inl (b, h)) (inl (c, k)) m n =
    let P : Option Entries → Type 0 = λ f. CommandGives f loaded text x.0 x.1 in
    let Q : Option Entries → Type 0 = λ f. CommandGives f loaded text y.0 y.1 in
    one-agrees x y (both-commands files loaded text x y (subst P told h) (subst Q told k) m n)
both-texts s files loaded text x y told ready (inl (b, h)) (inr (c, k, l)) m n = absurd (false≢true (sym c ∙ b))
both-texts s files loaded text x y told ready (inr (c, k, l)) (inl (b, h)) m n = absurd (false≢true (sym c ∙ b))
both-texts s files loaded text x y told ready (inr (b, h, left)) (inr (c, k, is)) m n = (times-agree s.job loaded text x.0 y.0 ready h k, left ∙ sym is)

both-lines : (s : Setting) (files : Entries) (loaded : Loaded) (line : List ℕ) (x y : Step) → s.files ≡ Some files → IsReady s.job → MayAnswer s loaded line x.0 x.1 → MayAnswer s loaded line y.0 y.1
    → x.0 ≢ Refused FileFault → y.0 ≢ Refused FileFault → AgreeStep x y
both-lines s files loaded line x y told ready (inl (long, said, left)) (inl (also, is, same)) m n = (λ d f. said ∙ sym is, left ∙ sym same)
both-lines s files loaded line x y told ready (inl (long, said, left)) (inr (short, k)) m n = absurd (omega (arith, long, short))
both-lines s files loaded line x y told ready (inr (short, h)) (inl (long, said, left)) m n = absurd (omega (arith, long, short))
both-lines s files loaded line x y told ready (inr (short, h)) (inr (also, k)) m n = both-texts s files loaded (trimmed line) x y told ready h k m n

pub one-decided : OneDecidedAnswer
one-decided s files loaded after next line answer other told ready h k m n = both-lines s files loaded line (answer, after) (other, next) told ready h k m n

-- a command is never left undecided
load-decided : (r : Result Loaded KernelFault) → IsDecided (load_answer r)
load-decided (Ok after) = λ e. cc
load-decided (Err kernel.NoFile) = λ e. cc
load-decided (Err kernel.FileFault) = λ e. cc
load-decided (Err kernel.FileTooLong) = λ e. cc
load-decided (Err (kernel.KernelText n cause)) = λ e. cc
load-decided (Err kernel.TooManyKernels) = λ e. cc
load-decided (Err kernel.TooManyValues) = λ e. cc
load-decided (Err kernel.OutOfMemory) = λ e. cc

unload-decided : (is : Bool) → IsDecided (unload_answer is)
unload-decided true = λ e. cc
unload-decided false = λ e. cc

command-decided : (files : Option Entries) (loaded : Loaded) (text : List ℕ) (after : Loaded) → CommandGives files loaded text (Refused Undecided) after → ⊥
command-decided files loaded text after (inl (name, asked, h)) = load-decided h.result (sym h.answered)
command-decided files loaded text after (inr (inl (name, asked, h))) = unload-decided (is_loaded name loaded) (sym h.answered)
command-decided files loaded text after (inr (inr (inl (asked, said, left)))) = absurd cc
command-decided files loaded text after (inr (inr (inr (asked, said, left)))) = absurd cc

-- a line that is left undecided is a time that is
undecided-time : (s : Setting) (loaded after : Loaded) (line : List ℕ) → MayAnswer s loaded line (Refused Undecided) after
    → AnswerGives s.job loaded (trimmed line) (Err (answer.Time time.Undecided))
undecided-time s loaded after line (inl (long, said, left)) = absurd cc
undecided-time s loaded after line (inr (short, inl (b, h))) = absurd (command-decided s.files loaded (trimmed line) after h)
undecided-time s loaded after line (inr (short, inr (b, h, left))) = time-is-undecided s.job loaded (trimmed line) h

pub undecided-sine : UndecidedHasASine
undecided-sine s loaded after line h = undecided-has-a-sine s.job loaded (trimmed line) (undecided-time s loaded after line h)

pub exact-decided : ExactIsDecided
exact-decided s loaded after line given exact h = λ e.
    let P : Answer → Type 0 = λ a. MayAnswer s loaded line a after in
    absurd (exact-is-decided s.job loaded (trimmed line) (Err (answer.Time time.Undecided)) exact (undecided-time s loaded after line (subst P e h)) refl)

-- a line is decided where no sine stands on the way of the time that it is
pub line-decided : (s : Setting) (loaded after : Loaded) (line : List ℕ) (given : Answer) → (begins_command (trimmed line) ≡ false → IsExact s.job loaded)
    → MayAnswer s loaded line given after → IsDecided given
line-decided s loaded after line given exact h = λ e. by (subst (λ (a : Answer). MayAnswer s loaded line a after) e h)
  where
    by : MayAnswer s loaded line (Refused Undecided) after → ⊥
    by (inl (long, said, left)) = absurd cc
    by (inr (short, inl (b, c))) = command-decided s.files loaded (trimmed line) after c
    by (inr (short, inr (b, t, left))) =
        exact-is-decided s.job loaded (trimmed line) (Err (answer.Time time.Undecided)) (exact b) (time-is-undecided s.job loaded (trimmed line) t) refl

pub one-answer : OneAnswer
one-answer s files loaded after next line answer other told ready exact h k m n =
    let one = one-decided s files loaded after next line answer other told ready h k m n in
    (one.0 (exact-decided s loaded after line answer exact h) (exact-decided s loaded next line other exact k), one.1)

-- answers of which none names a fault of the files
pub count-first : (answer : Answer) (answers : List Answer) → count_by (has_cause Faulty) (answer ∷ answers) ≡ cond (has_cause Faulty answer) 1 0 + count_by (has_cause Faulty) answers
count-first answer answers = sum_by-cons (λ a. cond (has_cause Faulty a) 1 0) answer answers

pub names-none : (answer : Answer) (answers : List Answer) → count_by (has_cause Faulty) (answer ∷ answers) ≡ 0 → answer ≢ Refused FileFault
names-none answer answers none = λ e.
    let P : Answer → Type 0 = λ a. ◌≡◌ {A = ℕ} (cond (has_cause Faulty a) 1 0 + count_by (has_cause Faulty) answers) 0 in
    absurd (omega (arith, subst P e (sym (count-first answer answers) ∙ none)))

pub rest-none : (answer : Answer) (answers : List Answer) → count_by (has_cause Faulty) (answer ∷ answers) ≡ 0 → count_by (has_cause Faulty) answers ≡ 0
rest-none answer answers none = omega (arith, count-first answer answers, none)

pub decided-run : OneDecidedRun
decided-run s files loaded after next [] [] [] told ready h k m n = (tt, h ∙ sym k)
decided-run s files loaded after next [] [] (b ∷ others) told ready h k m n = absurd k
decided-run s files loaded after next [] (a ∷ answers) others told ready h k m n = absurd h
decided-run s files loaded after next (line ∷ lines) [] others told ready h k m n = absurd h
decided-run s files loaded after next (line ∷ lines) (a ∷ answers) [] told ready h k m n = absurd k
decided-run s files loaded after next (line ∷ lines) (a ∷ answers) (b ∷ others) told ready (v, may, more) (w, can, rest) m n =
    let first = one-decided s files loaded v w line a b told ready may can (names-none a answers m) (names-none b others n) in
    let P : Loaded → Type 0 = λ l. RunsTo s l lines answers after in
    let later = decided-run s files w after next lines answers others told ready (subst P first.1 more) rest (rest-none a answers m) (rest-none b others n) in
    ((first.0, later.0), later.1)
