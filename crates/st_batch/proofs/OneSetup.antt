-- By files that tell their bytes a setup gives one session, or one refusal, unless it names a fault of the files.
use Rattle.std.proofs.Common.{◌≡◌, ◌≢◌, ℕ, inl, inr, Bool, true, false, Option, Some, Result, Ok, Err, List, [], ◌∷◌, refl, sym, ap, ◌∙◌, subst}
use Rattle.st_outside.specs.Entries.{Entries}
use Rattle.st_words.specs.Setup.{SetupFiles}
use Rattle.st_words.specs.declared.fault.IdFault.{IdFault}
use Rattle.st_words.specs.declared.fault.SetupFault.{SetupFault}
use Rattle.st_words.specs.declared.fault.SetupFault.TheVariants as setup
use Rattle.st_words.specs.declared.job.Job.{Job}
use Rattle.st_words.proofs.OneSetup as words
use Rattle.st_refusals.specs.declared.fault.LineFault.{LineFault}
use Rattle.st_refusals.specs.declared.fault.LineFault.TheVariants as line
use Rattle.st_refusals.specs.declared.kernel_fault.KernelFault.{KernelFault}
use Rattle.st_refusals.specs.declared.kernel_fault.KernelFault.TheVariants as kernel
use Rattle.st_batch.specs.Load.{LoadGives}
use Rattle.st_refusals.specs.Faults.{line_fault}
use Rattle.st_batch.specs.Setting.{Loaded, Setting, State}
use Rattle.st_batch.specs.Setup.{ClockGives, LoadsGive, SetupGives, asks_clock, with_clock}
use Rattle.st_refusals.specs.Faults.{files_fault, id_fault}
use Rattle.st_batch.proofs.OneLoad.{one-load}

same-id : (m n : ℕ) → ◌≡◌ {A = Result ℕ IdFault} (Ok m) (Ok n) → m ≡ n
same-id m n e = cc

same-id-fault : (f g : IdFault) → ◌≡◌ {A = Result ℕ IdFault} (Err f) (Err g) → f ≡ g
same-id-fault f g e = cc

id-or-fault : (n : ℕ) (f : IdFault) → ◌≡◌ {A = Result ℕ IdFault} (Ok n) (Err f) → ⊥
id-or-fault n f e = absurd cc

one-clocked : (asks : Bool) (job : Job) (loaded : Loaded) (a b : Result Job IdFault) → ClockGives asks job loaded a → ClockGives asks job loaded b → a ≡ b
one-clocked false job loaded a b h k = h ∙ sym k
one-clocked true job loaded (Ok a) (Ok b) (m, h, e) (n, k, d) =
    ap (λ (j : Job). Ok j) (e ∙ ap (λ (x : ℕ). with_clock job x) (same-id m n (words.one-clock loaded (Ok m) (Ok n) h k)) ∙ sym d)
one-clocked true job loaded (Ok a) (Err f) (m, h, e) k = absurd (id-or-fault m f (words.one-clock loaded (Ok m) (Err f) h k))
one-clocked true job loaded (Err f) (Ok b) h (n, k, d) = absurd (id-or-fault n f (words.one-clock loaded (Ok n) (Err f) k h))
one-clocked true job loaded (Err f) (Err g) h k = ap (λ (x : IdFault). Err x) (same-id-fault f g (words.one-clock loaded (Err f) (Err g) h k))

-- files are loaded to one list, or refused for one reason
abbrev Loading : Type 0
Loading = Result Loaded KernelFault

err-fault : (a b : KernelFault) → ◌≡◌ {A = Loading} (Err a) (Err b) → a ≡ b
err-fault a b e = cc

ok-list : (a b : Loaded) → ◌≡◌ {A = Loading} (Ok a) (Ok b) → a ≡ b
ok-list a b e = cc

ok-no-fault : (loaded : Loaded) → ◌≢◌ {A = Loading} (Ok loaded) (Err kernel.FileFault)
ok-no-fault loaded = λ e. cc

ok-not-err : (loaded : Loaded) (cause : KernelFault) → ◌≡◌ {A = Loading} (Ok loaded) (Err cause) → ⊥
ok-not-err loaded cause e = absurd cc

one-loads : (files : Entries) (loaded : Loaded) (names : List (List ℕ)) (a b : Loading) → LoadsGive (Some files) loaded names a → LoadsGive (Some files) loaded names b
    → a ≢ Err kernel.FileFault → b ≢ Err kernel.FileFault → a ≡ b
one-loads files loaded [] a b h k m n = h ∙ sym k
one-loads files loaded (name ∷ names) a b (inl (f, h, e)) (inl (g, k, d)) m n =
    e ∙ one-load files loaded name (Err f) (Err g) h k (λ x. m (e ∙ x)) (λ x. n (d ∙ x)) ∙ sym d
one-loads files loaded (name ∷ names) a b (inl (f, h, e)) (inr (next, k, rest)) m n =
    absurd (ok-not-err next f (one-load files loaded name (Ok next) (Err f) k h (ok-no-fault next) (λ x. m (e ∙ x))))
one-loads files loaded (name ∷ names) a b (inr (next, h, rest)) (inl (f, k, e)) m n =
    absurd (ok-not-err next f (one-load files loaded name (Ok next) (Err f) h k (ok-no-fault next) (λ x. n (e ∙ x))))
one-loads files loaded (name ∷ names) a b (inr (next, h, rest)) (inr (after, k, more)) m n =
    let same = ok-list next after (one-load files loaded name (Ok next) (Ok after) h k (ok-no-fault next) (ok-no-fault after)) in
    one-loads files after names a b (subst (λ (l : Loaded). LoadsGive (Some files) l names a) same rest) more m n

-- What a setup gives, step by step: each step refuses it or leads to the next one.
abbrev Answer : Type 0
Answer = Result State LineFault

abbrev ended : Job → Loading → Answer
ended job (Ok last) = Ok (record { job = job; loaded = last })
ended job (Err cause) = Err (line_fault cause)

abbrev Loads : Entries → Loaded → List (List ℕ) → Job → Answer → Type 0
Loads files first names job answer = (r : Loading) × LoadsGive (Some files) first names r × (answer ≡ ended job r)

abbrev AfterClock : Entries → Loaded → List (List ℕ) → Result Job IdFault → Answer → Type 0
AfterClock files first names (Ok job) answer = Loads files first names job answer
AfterClock files first names (Err fault) answer = answer ≡ Err (id_fault fault)

abbrev FindsClock : Entries → Job → Loaded → List (List ℕ) → Answer → Type 0
FindsClock files job first names answer = (r : Result Job IdFault) × ClockGives (asks_clock job) job first r × AfterClock files first names r answer

abbrev AfterFiles : Entries → Job → Loaded → Result (List (List ℕ)) SetupFault → Answer → Type 0
AfterFiles files job first (Ok names) answer = FindsClock files job first names answer
AfterFiles files job first (Err fault) answer = answer ≡ Err (files_fault fault)

abbrev FindsFiles : Entries → Job → Loaded → Answer → Type 0
FindsFiles files job first answer = (r : Result (List (List ℕ)) SetupFault) × SetupFiles first r × AfterFiles files job first r answer

abbrev AfterFirst : Entries → Job → Loading → Answer → Type 0
AfterFirst files job (Ok first) answer = FindsFiles files job first answer
AfterFirst files job (Err cause) answer = answer ≡ Err (line_fault cause)

abbrev Opens : Entries → Job → Answer → Type 0
Opens files job answer = (r : Loading) × LoadGives (Some files) [] job.setup r × AfterFirst files job r answer

abbrev IsNoFault : Answer → Type 0
IsNoFault answer = answer ≢ Err line.FileFault

one-last : (files : Entries) (first : Loaded) (names : List (List ℕ)) (job : Job) (a b : Answer) → IsNoFault a → IsNoFault b → Loads files first names job a → Loads files first names job b → a ≡ b
one-last files first names job a b m n (r, h, e) (q, k, d) =
    e ∙ ap (λ (x : Loading). ended job x) (one-loads files first names r q h k (λ x. m (e ∙ ap (λ (y : Loading). ended job y) x)) (λ x. n (d ∙ ap (λ (y : Loading). ended job y) x))) ∙ sym d

after-clock : (files : Entries) (first : Loaded) (names : List (List ℕ)) (r : Result Job IdFault) (a b : Answer) → IsNoFault a → IsNoFault b
    → AfterClock files first names r a → AfterClock files first names r b → a ≡ b
after-clock files first names (Ok job) a b m n h k = one-last files first names job a b m n h k
after-clock files first names (Err fault) a b m n h k = h ∙ sym k

one-found : (files : Entries) (job : Job) (first : Loaded) (names : List (List ℕ)) (a b : Answer) → IsNoFault a → IsNoFault b
    → FindsClock files job first names a → FindsClock files job first names b → a ≡ b
one-found files job first names a b m n (r, h, t) (q, k, u) =
    let P : Result Job IdFault → Type 0 = λ x. AfterClock files first names x a in
    after-clock files first names q a b m n (subst P (one-clocked (asks_clock job) job first r q h k) t) u

after-files : (files : Entries) (job : Job) (first : Loaded) (r : Result (List (List ℕ)) SetupFault) (a b : Answer) → IsNoFault a → IsNoFault b
    → AfterFiles files job first r a → AfterFiles files job first r b → a ≡ b
after-files files job first (Ok names) a b m n h k = one-found files job first names a b m n h k
after-files files job first (Err fault) a b m n h k = h ∙ sym k

one-named : (files : Entries) (job : Job) (first : Loaded) (a b : Answer) → IsNoFault a → IsNoFault b → FindsFiles files job first a → FindsFiles files job first b → a ≡ b
one-named files job first a b m n (r, h, t) (q, k, u) =
    let P : Result (List (List ℕ)) SetupFault → Type 0 = λ x. AfterFiles files job first x a in
    after-files files job first q a b m n (subst P (words.one-files first r q h k) t) u

after-first : (files : Entries) (job : Job) (r : Loading) (a b : Answer) → IsNoFault a → IsNoFault b → AfterFirst files job r a → AfterFirst files job r b → a ≡ b
after-first files job (Ok first) a b m n h k = one-named files job first a b m n h k
after-first files job (Err cause) a b m n h k = h ∙ sym k

sound : (files : Entries) (job : Job) (r : Loading) (a : Answer) → IsNoFault a → AfterFirst files job r a → r ≢ Err kernel.FileFault
sound files job (Ok first) a m h = λ e. cc
sound files job (Err cause) a m h = λ e. m (h ∙ ap (λ (x : KernelFault). Err (line_fault x)) (err-fault cause kernel.FileFault e))

one-opened : (files : Entries) (job : Job) (a b : Answer) → IsNoFault a → IsNoFault b → Opens files job a → Opens files job b → a ≡ b
one-opened files job a b m n (r, h, t) (q, k, u) =
    let P : Loading → Type 0 = λ x. AfterFirst files job x a in
    let one = one-load files [] job.setup r q h k (sound files job r a m t) (sound files job q b n u) in
    after-first files job q a b m n (subst P one t) u

told : (s : Setting) (files : Entries) (r : Loading) → s.files ≡ Some files → LoadGives s.files [] s.job.setup r → LoadGives (Some files) [] s.job.setup r
told s files r e h = subst (λ (fs : Option Entries). LoadGives fs [] s.job.setup r) e h

all-told : (s : Setting) (files : Entries) (first : Loaded) (names : List (List ℕ)) (r : Loading) → s.files ≡ Some files → LoadsGive s.files first names r → LoadsGive (Some files) first names r
all-told s files first names r e h = subst (λ (fs : Option Entries). LoadsGive fs first names r) e h

failed : (a b : LineFault) → a ≡ b → ◌≡◌ {A = Answer} (Err a) (Err b)
failed a b e = ap (λ (x : LineFault). Err x) e

opens : (s : Setting) (files : Entries) (a : Answer) → s.files ≡ Some files → SetupGives s a → Opens files s.job a
opens s files (Ok session) e (first, names, begins, clock, loads) =
    (Ok first, told s files (Ok first) e begins.loaded, (Ok names, begins.named, (Ok session.job, clock, (Ok session.loaded, all-told s files first names (Ok session.loaded) e loads, refl))))
opens s files (Err fault) e (inl (cause, h, same)) = (Err cause, told s files (Err cause) e h, failed fault (line_fault cause) same)
opens s files (Err fault) e (inr (inl (first, var, h, named, same))) =
    (Ok first, told s files (Ok first) e h, (Err (setup.WrongKind var), named, failed fault (line.WrongKind var) same))
opens s files (Err fault) e (inr (inr (inl (first, names, cause, begins, clock, same)))) =
    (Ok first, told s files (Ok first) e begins.loaded, (Ok names, begins.named, (Err cause, clock, failed fault (id_fault cause) same)))
opens s files (Err fault) e (inr (inr (inr (first, names, job, cause, begins, clock, loads, same)))) = (
  Ok first,
  told s files (Ok first) e begins.loaded,
  (Ok names, begins.named, (Ok job, clock, (Err cause, all-told s files first names (Err cause) e loads, failed fault (line_fault cause) same))),
)

-- a setup gives one thing that is no fault of the files
pub one-answer : (s : Setting) (files : Entries) (a b : Result State LineFault) → s.files ≡ Some files → SetupGives s a → SetupGives s b
    → a ≢ Err line.FileFault → b ≢ Err line.FileFault → a ≡ b
one-answer s files a b e h k m n = one-opened files s.job a b m n (opens s files a e h) (opens s files b e k)

same-session : (a b : State) → ◌≡◌ {A = Answer} (Ok a) (Ok b) → a ≡ b
same-session a b e = cc

same-refusal : (a b : LineFault) → ◌≡◌ {A = Answer} (Err a) (Err b) → a ≡ b
same-refusal a b e = cc

session-or-refusal : (a : State) (b : LineFault) → ◌≡◌ {A = Answer} (Ok a) (Err b) → ⊥
session-or-refusal a b e = absurd cc

-- one session
pub one-setup : (s : Setting) (files : Entries) (a b : State) → s.files ≡ Some files → SetupGives s (Ok a) → SetupGives s (Ok b) → a ≡ b
one-setup s files a b e h k =
    same-session a b (one-answer s files (Ok a) (Ok b) e h k (session-or-refusal a line.FileFault) (session-or-refusal b line.FileFault))

-- or one refusal
pub one-refusal : (s : Setting) (files : Entries) (a b : LineFault) → s.files ≡ Some files → a ≢ line.FileFault → b ≢ line.FileFault
    → SetupGives s (Err a) → SetupGives s (Err b) → a ≡ b
one-refusal s files a b e m n h k =
    same-refusal a b (one-answer s files (Err a) (Err b) e h k (λ x. m (same-refusal a line.FileFault x)) (λ x. n (same-refusal b line.FileFault x)))

-- and not both
pub not-both : (s : Setting) (files : Entries) (a : State) (b : LineFault) → s.files ≡ Some files → b ≢ line.FileFault → SetupGives s (Ok a) → SetupGives s (Err b) → ⊥
not-both s files a b e n h k =
    session-or-refusal a b (one-answer s files (Ok a) (Err b) e h k (session-or-refusal a line.FileFault) (λ x. n (same-refusal b line.FileFault x)))
