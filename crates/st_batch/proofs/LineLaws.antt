-- A command has one answer by a loaded list and files that tell their bytes, unless a file is faulty; and every line has one where
-- the tables are given or refused.
use Rattle.std.proofs.Common.{◌≡◌, ◌≢◌, ℕ, ◌<◌, ◌≤◌, ◌⊎◌, inl, inr, Bool, true, false, Option, Some, Result, Ok, Err, List, [], length, codes, refl, sym, ap, ◌∙◌, subst}
use Rattle.std.proofs.lemmas.Bool.{cases_Bool, cases_lt, false≢true}
use Rattle.std.proofs.lemmas.Slice.Eq.{bytes_eq-Decides}
use Rattle.std.specs.Str.{bytes_eq}
use Rattle.st_outside.specs.Entries.{Entries}
use Rattle.st_pool.specs.Loaded.{is_loaded, without_last}
use Rattle.st_text.specs.Lines.{trimmed}
use Rattle.st_batch.specs.declared.answer.Answer.{Answer}
use Rattle.st_batch.specs.declared.answer.Answer.TheVariants.{Text, Refused}
use Rattle.st_refusals.specs.declared.kernel_fault.KernelFault.{KernelFault}
use Rattle.st_refusals.specs.declared.kernel_fault.KernelFault.TheVariants as kernel
use Rattle.st_refusals.specs.declared.fault.LineFault.{LineFault}
use Rattle.st_refusals.specs.declared.fault.LineFault.TheVariants.{BadCommand, LineTooLong, FileFault}
use Rattle.st_batch.specs.declared.session.TheConstants.{MAX_LINE}
use Rattle.st_batch.specs.Commands.{CommandGives, IsLoad, IsUnload, LoadAnswers, UnloadAnswers, after_load, begins_command, load_answer, unload_answer}
use Rattle.st_batch.specs.Laws.{EveryLineHasAnswer}
use Rattle.st_batch.specs.Load.{LoadGives}
use Rattle.st_refusals.specs.Faults.{line_fault}
use Rattle.st_batch.specs.Session.{MayAnswer, TextGives}
use Rattle.st_batch.specs.Setting.{Loaded, Setting}
use Rattle.st_batch.proofs.CommandLaws as command
use Rattle.st_batch.proofs.OneLoad.{one-load, some-load}
use Rattle.st_batch.proofs.TimesLaws.{some-time}

-- an answer, and the loaded list after it
abbrev pub Step : Type 0
Step = Answer × Loaded

-- what a text asks, with the step that it is given
abbrev Loads : Option Entries → Loaded → List ℕ → Step → Type 0
Loads files loaded text x = (name : List ℕ) × IsLoad text name × LoadAnswers files loaded name x.0 x.1

abbrev Unloads : Loaded → List ℕ → Step → Type 0
Unloads loaded text x = (name : List ℕ) × IsUnload text name × UnloadAnswers loaded name x.0 x.1

abbrev load_step : Loaded → Result Loaded KernelFault → Step
load_step loaded r = (load_answer r, after_load loaded r)

-- a loading that is answered without a fault of the files has none
sound : (r : Result Loaded KernelFault) → load_answer r ≢ Refused FileFault → r ≢ Err kernel.FileFault
sound r not = λ e. not (ap load_answer e)

both-load : (files : Entries) (loaded : Loaded) (text : List ℕ) (x y : Step) → Loads (Some files) loaded text x → Loads (Some files) loaded text y
    → x.0 ≢ Refused FileFault → y.0 ≢ Refused FileFault → x ≡ y
both-load files loaded text x y (a, asked, h) (b, also, k) m n =
    let P : List ℕ → Type 0 = λ name. LoadGives (Some files) loaded name h.result in
    let given = subst P (command.one-name (codes "$load") text a b asked also) h.given in
    let one = one-load files loaded b h.result k.result given k.given (sound h.result (λ e. m (h.answered ∙ e))) (sound k.result (λ e. n (k.answered ∙ e))) in
    let first : x ≡ load_step loaded h.result = λ i. (h.answered i, h.left i) in
    let second : y ≡ load_step loaded k.result = λ i. (k.answered i, k.left i) in
    first ∙ ap (load_step loaded) one ∙ sym second

both-unload : (loaded : Loaded) (text : List ℕ) (x y : Step) → Unloads loaded text x → Unloads loaded text y → x ≡ y
both-unload loaded text x y (a, asked, h) (b, also, k) =
    let name = command.one-name (codes "$unload") text a b asked also in
    let first : x ≡ (unload_answer (is_loaded a loaded), without_last a loaded) = λ i. (h.answered i, h.left i) in
    let second : y ≡ (unload_answer (is_loaded b loaded), without_last b loaded) = λ i. (k.answered i, k.left i) in
    first ∙ ap (λ (n : List ℕ). (unload_answer (is_loaded n loaded), without_last n loaded)) name ∙ sym second

-- a text is one command, or none
pub both-commands : (files : Entries) (loaded : Loaded) (text : List ℕ) (x y : Step) → CommandGives (Some files) loaded text x.0 x.1 → CommandGives (Some files) loaded text y.0 y.1
    → x.0 ≢ Refused FileFault → y.0 ≢ Refused FileFault → x ≡ y
both-commands files loaded text x y (inl h) (inl k) m n = both-load files loaded text x y h k m n
both-commands files loaded text x y (inr (inl h)) (inr (inl k)) m n = both-unload loaded text x y h k
both-commands files loaded text x y (inr (inr (inl (asked, said, left)))) (inr (inr (inl (also, told, is)))) m n = λ i. ((said ∙ sym told) i, (left ∙ sym is) i)
both-commands files loaded text x y (inr (inr (inr (asked, said, left)))) (inr (inr (inr (also, told, is)))) m n = λ i. ((said ∙ sym told) i, (left ∙ sym is) i)
both-commands files loaded text x y (inl (a, h, g)) (inr (inl (b, k, f))) m n = absurd (command.load-not-unload text a b h k)
both-commands files loaded text x y (inl (a, h, g)) (inr (inr (inl (k, f, e)))) m n = absurd (command.load-not-clear text a h k)
both-commands files loaded text x y (inl (a, h, g)) (inr (inr (inr (k, f, o)))) m n = absurd (k.load a h)
both-commands files loaded text x y (inr (inl (b, k, f))) (inl (a, h, g)) m n = absurd (command.load-not-unload text a b h k)
both-commands files loaded text x y (inr (inl (b, k, f))) (inr (inr (inl (c, e, l)))) m n = absurd (command.unload-not-clear text b k c)
both-commands files loaded text x y (inr (inl (b, k, f))) (inr (inr (inr (c, e, o)))) m n = absurd (c.unload b k)
both-commands files loaded text x y (inr (inr (inl (c, e, l)))) (inl (a, h, g)) m n = absurd (command.load-not-clear text a h c)
both-commands files loaded text x y (inr (inr (inl (c, e, l)))) (inr (inl (b, k, f))) m n = absurd (command.unload-not-clear text b k c)
both-commands files loaded text x y (inr (inr (inl (c, e, l)))) (inr (inr (inr (k, f, o)))) m n = absurd (k.clear c)
both-commands files loaded text x y (inr (inr (inr (k, f, o)))) (inl (a, h, g)) m n = absurd (k.load a h)
both-commands files loaded text x y (inr (inr (inr (k, f, o)))) (inr (inl (b, h, g))) m n = absurd (k.unload b h)
both-commands files loaded text x y (inr (inr (inr (k, f, o)))) (inr (inr (inl (c, e, l)))) m n = absurd (k.clear c)

-- an answer that names no fault of the files
abbrev HasAnswer : Setting → Loaded → List ℕ → Type 0
HasAnswer s loaded line = (answer : Answer) × ((after : Loaded) × MayAnswer s loaded line answer after × (answer ≢ Refused FileFault))

of-text : (s : Setting) (loaded : Loaded) (line : List ℕ) → length line ≤ MAX_LINE
    → (answer : Answer) × ((after : Loaded) × TextGives s loaded (trimmed line) answer after × (answer ≢ Refused FileFault)) → HasAnswer s loaded line
of-text s loaded line short (answer, (after, gives, not)) = (answer, (after, inr (short, gives), not))

line-of : (fault : KernelFault) → fault ≢ kernel.FileFault → line_fault fault ≢ FileFault
line-of kernel.NoFile not = λ e. cc
line-of kernel.FileFault not = absurd (not refl)
line-of kernel.FileTooLong not = λ e. cc
line-of (kernel.KernelText n cause) not = λ e. cc
line-of kernel.TooManyKernels not = λ e. cc
line-of kernel.TooManyValues not = λ e. cc
line-of kernel.OutOfMemory not = λ e. cc

refused-is : (a b : LineFault) → ◌≡◌ {A = Answer} (Refused a) (Refused b) → a ≡ b
refused-is a b e = cc

load-names-none : (r : Result Loaded KernelFault) → r ≢ Err kernel.FileFault → load_answer r ≢ Refused FileFault
load-names-none (Ok after) not = λ e. cc
load-names-none (Err fault) not = λ e. line-of fault (λ f. not (ap Err f)) (refused-is (line_fault fault) FileFault e)

unload-names-none : (is : Bool) → unload_answer is ≢ Refused FileFault
unload-names-none true = λ e. cc
unload-names-none false = λ e. cc

-- every text has an answer
some-command : (s : Setting) (loaded : Loaded) (text : List ℕ)
    → (answer : Answer) × ((after : Loaded) × CommandGives s.files loaded text answer after × (answer ≢ Refused FileFault))
some-command s loaded text =
    by (command.told-name (codes "$load") text) (command.told-name (codes "$unload") text) (cases_Bool (bytes_eq text (codes "$clear")))
  where
    by : ((name : List ℕ) × IsLoad text name) ⊎ ((name : List ℕ) → IsLoad text name → ⊥) → ((name : List ℕ) × IsUnload text name) ⊎ ((name : List ℕ) → IsUnload text name → ⊥)
        → (bytes_eq text (codes "$clear") ≡ true) ⊎ (bytes_eq text (codes "$clear") ≡ false)
        → (answer : Answer) × ((after : Loaded) × CommandGives s.files loaded text answer after × (answer ≢ Refused FileFault))
    by (inl (name, asked)) u c =
        let r = some-load s.files loaded name in
        (load_answer r.0, (after_load loaded r.0, inl (name, asked, record { result = r.0; given = r.1; answered = refl; left = refl }), load-names-none r.0 r.2))
    by (inr never) (inl (name, asked)) c =
        (unload_answer (is_loaded name loaded), (without_last name loaded, inr (inl (name, asked, record { answered = refl; left = refl })), unload-names-none (is_loaded name loaded)))
    by (inr never) (inr none) (inl y) = (Text (codes "cleared"), ([], inr (inr (inl ((bytes_eq-Decides text (codes "$clear")).0 y, refl, refl))), λ e. cc))
    by (inr never) (inr none) (inr n) = (
      Refused BadCommand,
      (
        loaded,
        inr (inr (inr (record { load = never; unload = none; clear = λ e. false≢true (sym n ∙ (bytes_eq-Decides text (codes "$clear")).1 e) }, refl, refl))),
        λ e. cc,
      ),
    )

-- every line has an answer that names no fault of the files
pub some-answer : EveryLineHasAnswer
some-answer s loaded line ready = by (cases_lt MAX_LINE (length line)) (cases_Bool (begins_command (trimmed line)))
  where
    by : (MAX_LINE < length line) ⊎ (length line ≤ MAX_LINE) → (begins_command (trimmed line) ≡ true) ⊎ (begins_command (trimmed line) ≡ false) → HasAnswer s loaded line
    by (inl long) b = (Refused LineTooLong, (loaded, inl (long, refl, refl), λ e. cc))
    by (inr short) (inl y) =
        let c = some-command s loaded (trimmed line) in
        of-text s loaded line short (c.0, (c.1.0, inl (y, c.1.1), c.1.2))
    by (inr short) (inr n) =
        let t = some-time s.job loaded (trimmed line) ready in
        of-text s loaded line short (t.0, (loaded, inr (n, t.1, refl), t.2))
