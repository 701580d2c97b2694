-- The lines of a sample for a job, by how the times of its source are written and by the loaded kernels.
use Rattle.std.specs.Prelude.{◌≡◌, ℕ, ◌+◌, Some, Result, Ok, Err, List, [], ◌∷◌, codes, length, ⊤}
use Rattle.st_clock.specs.Clock.{Clock, total}
use Rattle.st_forms.specs.declared.form.Form.TheVariants.{Calendar}
use Rattle.st_routes.specs.Outcome.{IsTickText}
use Rattle.st_routes.specs.declared.ticks.TickForm.{TickForm}
use Rattle.st_routes.specs.declared.ticks.TickForm.TheVariants as tick_forms
use Rattle.st_tables.specs.Tables.{ClockGives}
use Rattle.st_tables.specs.Variables.{Loaded}
use Rattle.st_tables.specs.declared.fault.TableFault.{TableFault}
use Rattle.st_tables.specs.declared.fault.TableFault.TheVariants.{OutOfMemory}
use Rattle.st_words.specs.declared.job.FromKind.{FromKind}
use Rattle.st_words.specs.declared.job.FromKind.TheVariants as from
use Rattle.st_words.specs.declared.job.Job.{Job}
use Rattle.st_samples.specs.Generator.{tick, x_of}
use Rattle.st_samples.specs.SampleLine.{seconds_text, IsLabelLine}

-- the tick of x, of the clock that the kernels give, or `0` where they refuse its table
abbrev pub IsTickLine : Result Clock TableFault → TickForm → ℕ → List ℕ → Type 0
IsTickLine (Ok clock) form x line = IsTickText clock form (tick x (total clock)) line
IsTickLine (Err OutOfMemory) form x line = ⊥
IsTickLine (Err fault) form x line = line ≡ codes "0"

-- the clock is that of the job's id
abbrev pub IsClockLine : Job → Loaded → TickForm → ℕ → List ℕ → Type 0
IsClockLine job loaded form x line =
    (n : ℕ) × (given : Result Clock TableFault) × (job.clock ≡ Some n) × ClockGives n loaded given × IsTickLine given form x line

-- Dates, as all times of UTC are, are written as a label; seconds, and what may be either, as seconds; those of a clock as a
-- string or as a tick.
abbrev pub IsLineBy : FromKind → Job → Loaded → ℕ → List ℕ → Type 0
IsLineBy (from.Time Calendar) job loaded x line = IsLabelLine x line
IsLineBy (from.Time form) job loaded x line = line ≡ seconds_text x
IsLineBy from.Clock job loaded x line = IsClockLine job loaded tick_forms.Clock x line
IsLineBy from.Ticks job loaded x line = IsClockLine job loaded tick_forms.Ticks x line

-- The line that x makes for a job.
abbrev pub IsSampleLine : Job → Loaded → ℕ → List ℕ → Type 0
IsSampleLine job loaded x line = IsLineBy job.form job loaded x line

-- the first of these lines is that of x(i), the next one that of x(i + 1), and so on
abbrev pub AreLinesFrom : Job → Loaded → ℕ → ℕ → List (List ℕ) → Type 0
AreLinesFrom job loaded seed i [] = ⊤
AreLinesFrom job loaded seed i (line ∷ lines) = IsSampleLine job loaded (x_of seed i) line × AreLinesFrom job loaded seed (i + 1) lines

-- The lines of a sample: as many as are asked for, from that of x(1) on.
abbrev pub AreSampleLines : Job → Loaded → ℕ → ℕ → List (List ℕ) → Type 0
AreSampleLines job loaded n seed lines = (length lines ≡ n) × AreLinesFrom job loaded seed 1 lines
