-- What the text of a source stands for, an instant of its system or an encoded tick of its clock, and why it is refused.
-- Source: NAIF's Time and SCLK Required Reading. The order of the refusals is this project's own.
use Rattle.std.specs.Prelude.{◌≡◌, ℕ, ◌^◌, ◌≤◌, ◌<◌, ℤ, List, length, IsTrue, Option, Result, Ok, Err, ⊤}
use Rattle.st_text.specs.Bytes.{are_digits, number_of}
use Rattle.st_fraction.specs.Fraction.{units}
use Rattle.st_dates.specs.declared.system.System.{System}
use Rattle.st_leaps.specs.Label.{IsLabel, IsLabelOf, in_units}
use Rattle.st_leaps.specs.declared.table.LeapTable.{LeapTable}
use Rattle.st_forms.specs.Reading.{ReadsTime}
use Rattle.st_forms.specs.declared.form.Form.{Form}
use Rattle.st_forms.specs.declared.fault.FormFault.TheVariants as forms
use Rattle.st_forms.specs.declared.time.TimeText.{TimeText}
use Rattle.st_forms.specs.declared.time.TimeText.TheVariants.{Label as OfLabel, Instant, NoSecond}
use Rattle.st_picture.specs.Cell.{days_of, leaps_for}
use Rattle.st_ticks.specs.Reading.{ReadsClock}
use Rattle.st_ticks.specs.declared.fault.ClockTextFault.{ClockTextFault}
use Rattle.st_ticks.specs.declared.fault.ClockTextFault.TheVariants.{Form as BadForm, TooLarge, NotInPartition}
use Rattle.st_clock.specs.Clock.{Clock, total}
use Rattle.st_clock.specs.Time.{GivesTime}
use Rattle.st_clock.specs.declared.point.Point.{Point}
use Rattle.st_clock.specs.declared.point.ClockRange.TheVariants.{Before, OutOfRange as OutOfClockRange}
use Rattle.st_routes.specs.declared.ticks.TickForm.{TickForm}
use Rattle.st_routes.specs.declared.ticks.TickForm.TheVariants as tick_forms
use Rattle.st_routes.specs.declared.fault.TimeFault.{TimeFault}
use Rattle.st_routes.specs.declared.fault.TimeFault.TheVariants.{BadTime, WrongSystem, NoSuchDay, OutOfRange, NoSuchSecond, BadClockText, BeforeClock}

-- A time of a system stands for u units past J2000, of TAI where the system is UTC: the time that has its label. UTC's days
-- have the leap seconds of the table, and those of other systems 86,400 s.
abbrev pub IsInstant : System → Option LeapTable → TimeText → ℤ → Type 0
IsInstant system leaps (OfLabel label) u = IsLabelOf (days_of (leaps_for system leaps)) (units u) (in_units label)
IsInstant system leaps (Instant z) u = u ≡ z
IsInstant system leaps NoSecond u = ⊥

-- there is no such second: it is 60 in another minute than 23:59, or its day hasn't it
abbrev pub HasNoSecond : System → Option LeapTable → TimeText → Type 0
HasNoSecond system leaps (OfLabel label) = IsLabel (days_of (leaps_for system leaps)) (in_units label) → ⊥
HasNoSecond system leaps (Instant z) = ⊥
HasNoSecond system leaps NoSecond = ⊤

-- what a time text of a system gives: its instant, or its first refusal
abbrev pub InstantGives : System → Form → Option LeapTable → List ℕ → Result ℤ TimeFault → Type 0
InstantGives system form leaps text (Ok u) =
    (time : TimeText) × ReadsTime text system form (Ok time) × IsInstant system leaps time u
InstantGives system form leaps text (Err BadTime) = ReadsTime text system form (Err forms.BadTime)
InstantGives system form leaps text (Err WrongSystem) = ReadsTime text system form (Err forms.WrongSystem)
InstantGives system form leaps text (Err NoSuchDay) = ReadsTime text system form (Err forms.NoSuchDay)
InstantGives system form leaps text (Err OutOfRange) = ReadsTime text system form (Err forms.OutOfRange)
InstantGives system form leaps text (Err NoSuchSecond) =
    (time : TimeText) × ReadsTime text system form (Ok time) × HasNoSecond system leaps time
InstantGives system form leaps text (Err fault) = ⊥

-- digits, at least one
abbrev pub IsNumber : List ℕ → Type 0
IsNumber text = IsTrue (are_digits text) × (1 ≤ length text)

-- a number is that of a tick: at most 10^18, and at most the ticks of all partitions
abbrev pub ReadsNumber : ℕ → List ℕ → Result ℕ ClockTextFault → Type 0
ReadsNumber total text (Ok k) = IsNumber text × (number_of text ≤ 10 ^ 18) × (k ≤ total) × (k ≡ number_of text)
ReadsNumber total text (Err BadForm) = IsNumber text → ⊥
ReadsNumber total text (Err TooLarge) = IsNumber text × (10 ^ 18 < number_of text)
ReadsNumber total text (Err NotInPartition) = IsNumber text × (number_of text ≤ 10 ^ 18) × (total < number_of text)
ReadsNumber total text (Err fault) = ⊥

-- a text of a clock, by the form in which its ticks are told
abbrev pub ReadsTick : Clock → TickForm → List ℕ → Result ℕ ClockTextFault → Type 0
ReadsTick clock tick_forms.Clock text answer = ReadsClock clock.face text answer
ReadsTick clock tick_forms.Ticks text answer = ReadsNumber (total clock) text answer

-- what a text of a clock gives: its encoded tick, or its first refusal
abbrev pub TickGives : Clock → TickForm → List ℕ → Result ℕ TimeFault → Type 0
TickGives clock form text (Ok k) = ReadsTick clock form text (Ok k)
TickGives clock form text (Err (BadClockText why)) = ReadsTick clock form text (Err why)
TickGives clock form text (Err fault) = ⊥

-- what an encoded tick gives: its time in the clock's scale, or why there is none
abbrev pub TimeGives : Clock → ℕ → Result Point TimeFault → Type 0
TimeGives clock k (Ok time) = GivesTime clock k (Ok time)
TimeGives clock k (Err BeforeClock) = GivesTime clock k (Err Before)
TimeGives clock k (Err OutOfRange) = GivesTime clock k (Err OutOfClockRange)
TimeGives clock k (Err fault) = ⊥
