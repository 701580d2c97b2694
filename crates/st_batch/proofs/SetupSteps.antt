-- The setup, step by step: what refuses it has its cause, and the job keeps its work.
use Rattle.std.proofs.Common.{◌≡◌, ◌≢◌, ℕ, ◌+◌, ◌<◌, Bool, true, false, ◌&&◌, Option, Some, None, is_none, Result, Ok, Err, IfErr, List, [], ◌∷◌, length, drop, get_or, inl, inr, refl, sym, ap, ◌∙◌, subst, arith}
use Rattle.std.proofs.lemmas.Bool.{false≢true}
use Rattle.std.proofs.lemmas.List.{drop_more}
use Rattle.std.specs.Result.{IsErr, IsErrAnd}
use Rattle.st_outside.specs.Causes.{AreLater, FileCounts}
use Rattle.st_outside.specs.Entries.{Entries}
use Rattle.st_answers.specs.Ready.{IsReady}
use Rattle.st_answers.specs.Sides.{has_clock}
use Rattle.st_words.specs.Job.{IsGoodJob, IsWorkInRange}
use Rattle.st_words.specs.Setup.{SetupFiles}
use Rattle.st_words.specs.declared.fault.IdFault.{IdFault}
use Rattle.st_words.specs.declared.fault.IdFault.TheVariants as id
use Rattle.st_words.specs.declared.fault.SetupFault.{SetupFault}
use Rattle.st_words.specs.declared.fault.SetupFault.TheVariants as setup
use Rattle.st_words.specs.declared.job.Job.{Job}
use Rattle.st_refusals.specs.declared.fault.LineFault.{LineFault}
use Rattle.st_refusals.specs.declared.fault.LineFault.TheVariants as line
use Rattle.st_refusals.specs.declared.kernel_fault.KernelFault.{KernelFault}
use Rattle.st_refusals.specs.declared.kernel_fault.KernelFault.TheVariants as kernel
use Rattle.st_batch.specs.Causes.{IsCaused}
use Rattle.st_batch.specs.Load.{LoadGives}
use Rattle.st_refusals.specs.Faults.{line_fault}
use Rattle.st_batch.specs.Setting.{Loaded, Setting, State}
use Rattle.st_batch.specs.Setup.{ClockGives, LoadsGive, SetupGives, asks_clock}
use Rattle.st_refusals.specs.Faults.{files_fault, id_fault}

-- a cause in a later part is one in the whole, where no fault came before
pub caused-earlier : (fault : KernelFault) (a b c : FileCounts) → AreLater a b → b.faults ≡ a.faults → IsCaused (line_fault fault) b c → IsCaused (line_fault fault) a c
caused-earlier kernel.NoFile a b c later same (rose, none) = (omega (arith, later.misses, rose), none ∙ same)
caused-earlier kernel.FileFault a b c later same rose = omega (arith, same, rose)
caused-earlier kernel.FileTooLong a b c later same rose = omega (arith, later.taken, rose)
caused-earlier (kernel.KernelText n cause) a b c later same h = tt
caused-earlier kernel.TooManyKernels a b c later same h = tt
caused-earlier kernel.TooManyValues a b c later same h = tt
caused-earlier kernel.OutOfMemory a b c later same h = tt

-- the same of a refusal that is handed on
pub carried-cause : {A : Type 0} (fault : KernelFault) (r : Result A LineFault) (a b : FileCounts) → IsErr r × IsErrAnd r (λ f. f ≡ line_fault fault) → IsCaused (line_fault fault) a b
    → IfErr r (λ f. IsCaused f a b)
carried-cause fault (Ok x) a b (h, k) caused = absurd (false≢true h)
carried-cause fault (Err f) a b (h, k) caused = subst (λ (x : LineFault). IsCaused x a b) (sym k) caused

pub files-cause : {A : Type 0} (fault : SetupFault) (r : Result A LineFault) (a b : FileCounts) → IsErr r × IsErrAnd r (λ f. f ≡ files_fault fault) → IfErr r (λ f. IsCaused f a b)
files-cause fault (Ok x) a b (h, k) = absurd (false≢true h)
files-cause (setup.WrongKind v) (Err f) a b (h, k) = subst (λ (x : LineFault). IsCaused x a b) (sym k) tt
files-cause setup.OutOfMemory (Err f) a b (h, k) = subst (λ (x : LineFault). IsCaused x a b) (sym k) tt

pub id-cause : {A : Type 0} (fault : IdFault) (r : Result A LineFault) (a b : FileCounts) → IsErr r × IsErrAnd r (λ f. f ≡ id_fault fault) → IfErr r (λ f. IsCaused f a b)
id-cause fault (Ok x) a b (h, k) = absurd (false≢true h)
id-cause id.Missing (Err f) a b (h, k) = subst (λ (x : LineFault). IsCaused x a b) (sym k) tt
id-cause id.WrongKind (Err f) a b (h, k) = subst (λ (x : LineFault). IsCaused x a b) (sym k) tt
id-cause id.BadId (Err f) a b (h, k) = subst (λ (x : LineFault). IsCaused x a b) (sym k) tt

-- the loading of the first name that is refused refuses all
pub loads-refused : (files : Option Entries) (loaded : Loaded) (name : List ℕ) (names : List (List ℕ)) (fault : KernelFault) → LoadGives files loaded name (Err fault)
    → LoadsGive files loaded (name ∷ names) (Err fault)
loads-refused files loaded name names fault h = inl (fault, h, refl)

-- a refusal as that of the setup
pub setup-refused : {A : Type 0} (s : Setting) (r : Result A LineFault) (f : LineFault) → IsErr r × IsErrAnd r (λ g. g ≡ f) → (f ≢ line.OutOfMemory → SetupGives s (Err f))
    → IfErr r (λ g. g ≢ line.OutOfMemory → SetupGives s (Err g))
setup-refused s (Ok x) f (h, k) given = absurd (false≢true h)
setup-refused s (Err g) f (h, k) given = λ not. subst (λ (x : LineFault). SetupGives s (Err x)) (sym k) (given (λ e. not (k ∙ e)))

-- want of memory is told by none of the others
pub kernel-memory : (fault : KernelFault) → line_fault fault ≢ line.OutOfMemory → fault ≢ kernel.OutOfMemory
kernel-memory fault not = λ e. not (ap line_fault e)

pub files-memory : (fault : SetupFault) → files_fault fault ≢ line.OutOfMemory → fault ≢ setup.OutOfMemory
files-memory fault not = λ e. not (ap files_fault e)

-- the clock changes nothing but the clock
pub clock-keeps : (b : Bool) (job after : Job) (loaded : Loaded) → ClockGives b job loaded (Ok after) → after.work ≡ job.work
clock-keeps false job after loaded e = ap (λ (j : Job). j.work) (is after job e)
  where
    is : (a c : Job) → ◌≡◌ {A = Result Job IdFault} (Ok a) (Ok c) → a ≡ c
    is a c h = cc
clock-keeps true job after loaded (n, h, e) = ap (λ (j : Job). j.work) e

pub files-refused : (s : Setting) (first : Loaded) (fault : SetupFault) → LoadGives s.files [] s.job.setup (Ok first) → (fault ≢ setup.OutOfMemory → SetupFiles first (Err fault))
    → files_fault fault ≢ line.OutOfMemory → SetupGives s (Err (files_fault fault))
files-refused s first (setup.WrongKind v) loaded given not = inr (inl (first, v, loaded, given (λ e. cc), refl))
files-refused s first setup.OutOfMemory loaded given not = absurd (not refl)

-- the setup file was loaded into the empty list
begun : (files : Option Entries) (loaded first : Loaded) (name setup : List ℕ) → loaded ≡ [] → name ≡ setup → LoadGives files loaded name (Ok first) → LoadGives files [] setup (Ok first)
begun files loaded first name setup none is h =
    let P : Loaded → List ℕ → Type 0 = λ l n. LoadGives files l n (Ok first) in
    subst (λ (n : List ℕ). P [] n) is (subst (λ (l : Loaded). P l name) none h)

pub opened-first : {A : Type 0} (files : Option Entries) (job : Job) (loaded : Loaded) (name : List ℕ) (fault : KernelFault) (r : Result A LineFault) → loaded ≡ [] → name ≡ job.setup
    → (fault ≢ kernel.OutOfMemory → LoadGives files loaded name (Err fault)) → IsErr r × IsErrAnd r (λ f. f ≡ line_fault fault)
    → IfErr r (λ f. f ≢ line.OutOfMemory → SetupGives (record { files = files; job = job }) (Err f))
opened-first files job loaded name fault r none is given err =
    let s : Setting = record { files = files; job = job } in
    let P : List ℕ → Type 0 = λ n. LoadGives files [] n (Err fault) in
    let first : line_fault fault ≢ line.OutOfMemory → LoadGives files [] job.setup (Err fault) = λ not. subst P is (subst (λ (l : Loaded). LoadGives files l name (Err fault)) none (given (kernel-memory fault not))) in
    setup-refused s r (line_fault fault) err (λ not. inl (fault, first not, refl))

pub opened-names : {A : Type 0} (files : Option Entries) (job : Job) (loaded first : Loaded) (name : List ℕ) (fault : SetupFault) (r : Result A LineFault) → loaded ≡ [] → name ≡ job.setup
    → LoadGives files loaded name (Ok first) → (fault ≢ setup.OutOfMemory → SetupFiles first (Err fault)) → IsErr r × IsErrAnd r (λ f. f ≡ files_fault fault)
    → IfErr r (λ f. f ≢ line.OutOfMemory → SetupGives (record { files = files; job = job }) (Err f))
opened-names files job loaded first name fault r none is h given err =
    let s : Setting = record { files = files; job = job } in
    setup-refused s r (files_fault fault) err (λ not. files-refused s first fault (begun files loaded first name job.setup none is h) given not)

pub opened-clock : {A : Type 0} (files : Option Entries) (job : Job) (loaded first : Loaded) (name : List ℕ) (names : List (List ℕ)) (fault : IdFault) (r : Result A LineFault) → loaded ≡ []
    → name ≡ job.setup → LoadGives files loaded name (Ok first) → SetupFiles first (Ok names) → ClockGives (asks_clock job) job first (Err fault)
    → IsErr r × IsErrAnd r (λ f. f ≡ id_fault fault)
    → IfErr r (λ f. f ≢ line.OutOfMemory → SetupGives (record { files = files; job = job }) (Err f))
opened-clock files job loaded first name names fault r none is h named clock err =
    let s : Setting = record { files = files; job = job } in
    setup-refused s r (id_fault fault) err
    (λ not. inr (inr (inl (first, names, fault, record { loaded = begun files loaded first name job.setup none is h; named = named }, clock, refl))))

moved : (a b : Option Entries) (loaded : Loaded) (names : List (List ℕ)) (r : Result Loaded KernelFault) → a ≡ b → LoadsGive a loaded names r → LoadsGive b loaded names r
moved a b loaded names r e h = subst (λ (f : Option Entries). LoadsGive f loaded names r) e h

pub opened-files : {A : Type 0} (files map : Option Entries) (job after : Job) (loaded first : Loaded) (name : List ℕ) (names : List (List ℕ)) (fault : KernelFault) (r : Result A LineFault) → loaded ≡ []
    → name ≡ job.setup → LoadGives files loaded name (Ok first) → SetupFiles first (Ok names) → ClockGives (asks_clock job) job first (Ok after) → map ≡ files
    → (fault ≢ kernel.OutOfMemory → LoadsGive map first names (Err fault)) → IsErr r × IsErrAnd r (λ f. f ≡ line_fault fault)
    → IfErr r (λ f. f ≢ line.OutOfMemory → SetupGives (record { files = files; job = job }) (Err f))
opened-files files map job after loaded first name names fault r none is h named clock same given err =
    let s : Setting = record { files = files; job = job } in
    setup-refused s r (line_fault fault) err
    (λ not. inr (inr (inr (
      first,
      names,
      after,
      fault,
      record { loaded = begun files loaded first name job.setup none is h; named = named },
      clock,
      moved map files first names (Err fault) same (given (kernel-memory fault not)),
      refl,
    ))))

pub opened : (files map : Option Entries) (job after : Job) (loaded first last : Loaded) (name : List ℕ) (names : List (List ℕ)) → loaded ≡ [] → name ≡ job.setup
    → LoadGives files loaded name (Ok first) → SetupFiles first (Ok names) → ClockGives (asks_clock job) job first (Ok after) → map ≡ files
    → LoadsGive map first names (Ok last) → SetupGives (record { files = files; job = job }) (Ok (record { job = after; loaded = last }))
opened files map job after loaded first last name names none is h named clock same given =
    (first, names, record { loaded = begun files loaded first name job.setup none is h; named = named }, clock, moved map files first names (Ok last) same given)

-- a job whose clock is known is ready
known : (job : Job) → asks_clock job ≡ false → has_clock job ≡ true → (n : ℕ) × (job.clock ≡ Some n)
known job not has = by (has_clock job) job.clock not has
  where
    by : (b : Bool) (o : Option ℕ) → (b && is_none o) ≡ false → b ≡ true → (n : ℕ) × (o ≡ Some n)
    by true None h e = absurd (false≢true (sym h))
    by true (Some n) h e = (n, refl)
    by false o h e = absurd (false≢true e)

same-job : (a b : Job) → ◌≡◌ {A = Result Job IdFault} (Ok a) (Ok b) → a ≡ b
same-job a b e = cc

by-asking : (b : Bool) (job after : Job) (loaded : Loaded) → IsGoodJob job → asks_clock job ≡ b → ClockGives b job loaded (Ok after) → IsReady after
by-asking false job after loaded good not e =
    subst IsReady (sym (same-job after job e))
    (record { source = good.source; target = good.target; clock = good.clock; known = known job not; back = good.back })
by-asking true job after loaded good asks (n, given, e) =
    subst IsReady (sym e)
    (record {
      source = good.source;
      target = good.target;
      clock = (given.1.id.some, given.1.id.few);
      known = λ h. (n, refl);
      back = λ h.
          let w = good.back h in
          record { from = w.from; to = w.to; picture = w.picture; shape = w.shape; alone = w.alone };
    })

pub opened-ready : (job after : Job) (loaded : Loaded) → IsGoodJob job → ClockGives (asks_clock job) job loaded (Ok after) → IsReady after
opened-ready job after loaded good h = by-asking (asks_clock job) job after loaded good refl h

-- one file more of the list
pub loads-on : (a b : Option Entries) (from now next : Loaded) (names : List (List ℕ)) (i : ℕ) (d name : List ℕ) → i < length names → name ≡ get_or names i d → b ≡ a
    → ((r : Result Loaded KernelFault) → LoadsGive a now (drop i names) r → LoadsGive a from names r) → LoadGives b now name (Ok next)
    → (r : Result Loaded KernelFault) → LoadsGive a next (drop (i + 1) names) r → LoadsGive a from names r
loads-on a b from now next names i d name within is same go h r rest =
    let P : List (List ℕ) → Type 0 = λ l. LoadsGive a now l r in
    let Q : List ℕ → Type 0 = λ n. LoadGives a now n (Ok next) in
    let given = subst Q is (subst (λ (f : Option Entries). LoadGives f now name (Ok next)) same h) in
    go r (subst P (sym (drop_more names i d within)) (inr (next, given, rest)))

pub loads-stop : (a b : Option Entries) (from now : Loaded) (names : List (List ℕ)) (i : ℕ) (d name : List ℕ) (fault : KernelFault) → i < length names → name ≡ get_or names i d → b ≡ a
    → ((r : Result Loaded KernelFault) → LoadsGive a now (drop i names) r → LoadsGive a from names r) → (fault ≢ kernel.OutOfMemory → LoadGives b now name (Err fault))
    → fault ≢ kernel.OutOfMemory → LoadsGive a from names (Err fault)
loads-stop a b from now names i d name fault within is same go h not =
    let P : List (List ℕ) → Type 0 = λ l. LoadsGive a now l (Err fault) in
    let Q : List ℕ → Type 0 = λ n. LoadGives a now n (Err fault) in
    let given = subst Q is (subst (λ (f : Option Entries). LoadGives f now name (Err fault)) same (h not)) in
    go (Err fault) (subst P (sym (drop_more names i d within)) (inl (fault, given, refl)))

pub files-seen : (seen loaded : Loaded) (r : Result (List (List ℕ)) SetupFault) → seen ≡ loaded → SetupFiles seen r → SetupFiles loaded r
files-seen seen loaded r e h = subst (λ (l : Loaded). SetupFiles l r) e h

pub clock-seen : (asks : Bool) (job : Job) (seen loaded : Loaded) (r : Result Job IdFault) → seen ≡ loaded → ClockGives asks job seen r → ClockGives asks job loaded r
clock-seen asks job seen loaded r e h = subst (λ (l : Loaded). ClockGives asks job l r) e h

pub names-seen : (a : Option Entries) (first : Loaded) (seen names : List (List ℕ)) (r : Result Loaded KernelFault) → seen ≡ names → LoadsGive a first seen r → LoadsGive a first names r
names-seen a first seen names r e h = subst (λ (l : List (List ℕ)). LoadsGive a first l r) e h

-- the setup keeps the work of the job
pub setup-work : (s : Setting) (session : State) → SetupGives s (Ok session) → session.job.work ≡ s.job.work
setup-work s session (first, names, begins, clock, loads) = clock-keeps (asks_clock s.job) s.job session.job first clock

pub setup-range : (s : Setting) (session : State) → SetupGives s (Ok session) → IsWorkInRange s.job.work → IsWorkInRange session.job.work
setup-range s session h range = subst IsWorkInRange (sym (setup-work s session h)) range
