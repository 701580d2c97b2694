-- What the definitions of the samples say by themselves, as laws.
use Rattle.std.specs.Prelude.{◌≡◌, ◌≢◌, ℕ, ◌+◌, Bool, true, false, List, [], ◌∷◌, ◌++◌, Some, Result, Ok, Err}
use Rattle.std.specs.Char.{is_ascii_digit}
use Rattle.st_text.specs.Lines.{trimmed}
use Rattle.st_answers.specs.Ready.{IsReady}
use Rattle.st_answers.specs.Sides.{is_clock}
use Rattle.st_clock.specs.Clock.{Clock}
use Rattle.st_dates.specs.Label.{formal, IsPlainLabel}
use Rattle.st_dates.specs.declared.label.Label.{Label}
use Rattle.st_dates.specs.declared.system.System.{System}
use Rattle.st_dates.specs.declared.system.System.TheVariants.{Utc}
use Rattle.st_forms.specs.Reading.{ReadsTime}
use Rattle.st_forms.specs.declared.form.Form.{Form}
use Rattle.st_forms.specs.declared.form.Form.TheVariants.{Calendar, Seconds}
use Rattle.st_forms.specs.declared.time.TimeText.TheVariants.{Label as OfLabel, Instant}
use Rattle.st_tables.specs.Tables.{ClockGives}
use Rattle.st_tables.specs.Variables.{Loaded}
use Rattle.st_tables.specs.declared.fault.TableFault.{TableFault}
use Rattle.st_tables.specs.declared.fault.TableFault.TheVariants.{OutOfMemory}
use Rattle.st_words.specs.declared.job.Job.{Job}
use Rattle.st_samples.specs.Generator.{x_of}
use Rattle.st_samples.specs.JobLine.{AreSampleLines, IsSampleLine}
use Rattle.st_samples.specs.SampleLine.{count_of, seconds_text, IsLabelLine}
use Rattle.st_samples.specs.Summary.{AnswerLine, summary_of, with_answer}

-- The seconds of each x are read as what they count.
abbrev pub SecondsAreRead : Type 0
SecondsAreRead =
    (x : ℕ) (system : System) (form : Form)
    → system ≢ Utc → form ≢ Calendar → ReadsTime (seconds_text x) system form (Ok (Instant (count_of x)))

-- The label of each x is read as the label with that formal count.
abbrev pub LabelsAreRead : Type 0
LabelsAreRead =
    (x : ℕ) (line : List ℕ) (system : System) (form : Form)
    → form ≢ Seconds → IsLabelLine x line
    → (label : Label) × IsPlainLabel label × (formal label ≡ count_of x) × ReadsTime line system form (Ok (OfLabel label))

-- The summary of all answers is made one answer after the other.
abbrev pub SummaryGrows : Type 0
SummaryGrows =
    (answers : List AnswerLine) (answer : AnswerLine)
    → summary_of (answers ++ answer ∷ []) ≡ with_answer (summary_of answers) answer

-- the kernels give the clock of a job whose source is one, or refuse it
abbrev pub IsClockTold : Job → Loaded → Type 0
IsClockTold job loaded =
    is_clock job.from ≡ true
    → (n : ℕ) × (given : Result Clock TableFault) × (job.clock ≡ Some n) × ClockGives n loaded given × (given ≢ Err OutOfMemory)

-- Then a sample has its lines, for a job that is ready.
abbrev pub EachSampleHasLines : Type 0
EachSampleHasLines =
    (job : Job) (loaded : Loaded) (n seed : ℕ) → IsReady job → IsClockTold job loaded
    → (lines : List (List ℕ)) × AreSampleLines job loaded n seed lines

-- A sample has one list of lines.
abbrev pub OneSample : Type 0
OneSample =
    (job : Job) (loaded : Loaded) (n seed : ℕ) (lines other : List (List ℕ))
    → AreSampleLines job loaded n seed lines → AreSampleLines job loaded n seed other → lines ≡ other

-- A sample of one line more has it after the others.
abbrev pub LinesGoOn : Type 0
LinesGoOn =
    (job : Job) (loaded : Loaded) (n seed : ℕ) (lines : List (List ℕ)) (line : List ℕ)
    → AreSampleLines job loaded n seed lines → IsSampleLine job loaded (x_of seed (n + 1)) line
    → AreSampleLines job loaded (n + 1) seed (lines ++ line ∷ [])

abbrev pub begins_with_digit : List ℕ → Bool
begins_with_digit [] = false
begins_with_digit (b ∷ bs) = is_ascii_digit b

-- Each line begins with a digit, without the blanks at its ends, too.
abbrev pub LinesBeginWithDigits : Type 0
LinesBeginWithDigits =
    (job : Job) (loaded : Loaded) (x : ℕ) (line : List ℕ) → IsSampleLine job loaded x line → begins_with_digit (trimmed line) ≡ true
