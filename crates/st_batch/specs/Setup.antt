-- What the setup of a job gives: the job with its clock, and the loaded list. The setup file is a kernel; that its variables
-- LEAPSECONDS_FILE, SCLK_FILE and SPACECRAFT_ID name further kernels and the clock follows the CHRONOS User's Guide.
use Rattle.std.specs.Prelude.{◌≡◌, ℕ, Bool, true, false, ◌&&◌, Option, Some, is_none, Result, Ok, Err, List, [], ◌∷◌, ◌⊎◌}
use Rattle.st_outside.specs.Entries.{Entries}
use Rattle.st_ticks.specs.declared.variable.Var.{Var}
use Rattle.st_words.specs.Setup.{SetupClock, SetupFiles}
use Rattle.st_words.specs.declared.job.Job.{Job}
use Rattle.st_words.specs.declared.fault.IdFault.{IdFault}
use Rattle.st_words.specs.declared.fault.SetupFault.{SetupFault}
use Rattle.st_words.specs.declared.fault.SetupFault.TheVariants as setup
use Rattle.st_refusals.specs.declared.fault.LineFault.{LineFault}
use Rattle.st_refusals.specs.declared.fault.LineFault.TheVariants.{WrongKind}
use Rattle.st_refusals.specs.declared.kernel_fault.KernelFault.{KernelFault}
use Rattle.st_batch.specs.Load.{LoadGives}
use Rattle.st_refusals.specs.Faults.{id_fault, line_fault}
use Rattle.st_batch.specs.Setting.{Loaded, Setting, State}
use Rattle.st_answers.specs.Sides.{has_clock}

-- Loading files one after the other, each under its own name: the loaded list after the last, or the first refusal.
abbrev pub LoadsGive : Option Entries → Loaded → List (List ℕ) → Result Loaded KernelFault → Type 0
LoadsGive files loaded [] result = result ≡ Ok loaded
LoadsGive files loaded (name ∷ names) result =
    ((fault : KernelFault) × LoadGives files loaded name (Err fault) × (result ≡ Err fault))
    ⊎ ((next : Loaded) × LoadGives files loaded name (Ok next) × LoadsGive files next names result)

-- the job with the id of its clock
abbrev pub with_clock : Job → ℕ → Job
with_clock job n = record {
  setup = job.setup;
  from = job.from;
  form = job.form;
  to = job.to;
  shape = job.shape;
  clock = Some n;
  work = job.work;
  back = job.back;
}

-- a side is a clock, and the words don't say which
abbrev pub asks_clock : Job → Bool
asks_clock job = has_clock job && is_none job.clock

-- the job as it is, or with the clock that the loaded kernels name
abbrev pub ClockGives : Bool → Job → Loaded → Result Job IdFault → Type 0
ClockGives false job loaded result = result ≡ Ok job
ClockGives true job loaded (Ok after) = (n : ℕ) × SetupClock loaded (Ok n) × (after ≡ with_clock job n)
ClockGives true job loaded (Err fault) = SetupClock loaded (Err fault)

-- the setup file is loaded under its own name into the empty list, and asks for the files of these names
pub record Begins (s : Setting) (first : Loaded) (names : List (List ℕ)) : Type 0 where
  pub loaded : LoadGives s.files [] s.job.setup (Ok first)
  pub named : SetupFiles first (Ok names)

-- It is refused as it is loaded; for the kind of the variables that name files; for the clock; or as these files are loaded.
abbrev pub SetupRefuses : Setting → LineFault → Type 0
SetupRefuses s fault =
    ((cause : KernelFault) × LoadGives s.files [] s.job.setup (Err cause) × (fault ≡ line_fault cause))
    ⊎ (((first : Loaded) × (var : Var) × LoadGives s.files [] s.job.setup (Ok first) × SetupFiles first (Err (setup.WrongKind var)) × (fault ≡ WrongKind var))
    ⊎ (((first : Loaded) × (names : List (List ℕ)) × (cause : IdFault) × Begins s first names × ClockGives (asks_clock s.job) s.job first (Err cause) × (fault ≡ id_fault cause))
    ⊎ ((first : Loaded) × (names : List (List ℕ)) × (job : Job) × (cause : KernelFault) × Begins s first names
    × ClockGives (asks_clock s.job) s.job first (Ok job) × LoadsGive s.files first names (Err cause) × (fault ≡ line_fault cause))))

-- What the setup gives: the session before the first line, or the first refusal.
abbrev pub SetupGives : Setting → Result State LineFault → Type 0
SetupGives s (Ok session) =
    (first : Loaded) × (names : List (List ℕ)) × Begins s first names
    × ClockGives (asks_clock s.job) s.job first (Ok session.job) × LoadsGive s.files first names (Ok session.loaded)
SetupGives s (Err fault) = SetupRefuses s fault
