-- What a time text stands for, and its first refusal. Source: Time Required Reading, for the forms of
-- times. Which of its forms are taken, and the order of the refusals, are choices of this project.
use Rattle.std.specs.Prelude.{◌≡◌, ◌≢◌, ℕ, ◌*◌, ◌^◌, ◌⊎◌, List, [], ◌++◌, codes, ℤ, pos, ◌-ℤ◌, ◌*ℤ◌, ◌≤ℤ◌, ◌<ℤ◌, Result, Ok, Err}
use Rattle.st_text.specs.Lines.{trimmed}
use Rattle.st_dates.specs.DayText.{IsDayOf}
use Rattle.st_dates.specs.Label.{formal, units}
use Rattle.st_dates.specs.Names.{AreSameLetters}
use Rattle.st_dates.specs.Range.{IsInRange, LiesInRange}
use Rattle.st_dates.specs.TimeText.{TimeText, time_spelling, time_units}
use Rattle.st_dates.specs.declared.label.Label.{Label}
use Rattle.st_dates.specs.declared.system.System.{System}
use Rattle.st_dates.specs.declared.system.System.TheVariants.{Utc}
use Rattle.st_decimal.specs.Value.{is_minus, signed}
use Rattle.st_forms.specs.DateForm.{DateText, date_spelling, day_text, AreDateParts, IsGap}
use Rattle.st_forms.specs.NumberForm.{NumberText, number_spelling, AreNumberParts, number_units}
use Rattle.st_forms.specs.Scale.{ScaleText, scale_spelling, AreScaleParts, IsOfSystem}
use Rattle.st_forms.specs.TimeForm.{AreTimeParts, IsNoSecond}
use Rattle.st_forms.specs.declared.form.Form.{Form}
use Rattle.st_forms.specs.declared.form.Form.TheVariants.{Calendar, Seconds}
use Rattle.st_forms.specs.declared.fault.FormFault.{FormFault}
use Rattle.st_forms.specs.declared.fault.FormFault.TheVariants.{BadTime, WrongSystem, NoSuchDay, OutOfRange}
use Rattle.st_forms.specs.declared.time.TimeText.{TimeText as Time}
use Rattle.st_forms.specs.declared.time.TimeText.TheVariants.{Label as OfLabel, Instant, NoSecond}

-- a time as it is written, one case for each kind
pub data Written : Type 0 where
  -- a calendar date, its time and its scale word, as 12/18/1996 12:28:28 UTC
  calendar : DateText → TimeText → ScaleText → Written
  -- `JD`, blanks, days and a scale word, as JD 2451545.5
  julian : List ℕ → List ℕ → NumberText → ScaleText → Written
  -- a sign or none, and seconds past J2000, as -0.5
  plain : List ℕ → NumberText → Written

-- the whole text of a time
abbrev pub spelling : Written → List ℕ
spelling (calendar date time scale) = date_spelling date ++ (time_spelling time ++ scale_spelling scale)
spelling (julian mark gap days scale) = mark ++ (gap ++ (number_spelling days ++ scale_spelling scale))
spelling (plain sign seconds) = sign ++ number_spelling seconds

abbrev pub IsSign : List ℕ → Type 0
IsSign sign = (sign ≡ []) ⊎ ((sign ≡ codes "+") ⊎ (sign ≡ codes "-"))

-- what each part must be
abbrev pub AreParts : Written → Type 0
AreParts (calendar date time scale) = AreDateParts date × AreTimeParts time × AreScaleParts scale
AreParts (julian mark gap days scale) =
    AreSameLetters mark (codes "JD") × IsGap gap × AreNumberParts days × AreScaleParts scale
AreParts (plain sign seconds) = IsSign sign × AreNumberParts seconds

-- Form Calendar takes calendar and Julian dates, Seconds plain seconds, and Any takes all; but UTC
-- takes calendar dates alone.
abbrev pub Takes : System → Form → Written → Type 0
Takes system form (calendar date time scale) = form ≢ Seconds
Takes system form (julian mark gap days scale) = (form ≢ Seconds) × (system ≢ Utc)
Takes system form (plain sign seconds) = (form ≢ Calendar) × (system ≢ Utc)

-- the text, without the blanks at its ends, is a time of a form that is taken
pub record Spells (system : System) (form : Form) (text : List ℕ) (w : Written) : Type 0 where
  pub parts : AreParts w
  pub whole : trimmed text ≡ spelling w
  pub taken : Takes system form w

-- no scale word, or one that names the system
abbrev pub NamesNoOther : System → Written → Type 0
NamesNoOther system (calendar date time scale) = IsOfSystem scale system
NamesNoOther system (julian mark gap days scale) = IsOfSystem scale system
NamesNoOther system (plain sign seconds) = Unit {0}

-- the calendar has the date, and this is the label of the date and time; a second 60 counts as 60
abbrev pub IsLabelOf : DateText → TimeText → Label → Type 0
IsLabelOf date time label =
    IsDayOf (day_text date) label.day × (label.of_day ≡ pos (time_units time))

-- the instant of a Julian date, which begins at noon; J2000 is the Julian date 2451545
abbrev pub julian_instant : ℕ → ℤ
julian_instant units = (pos units -ℤ pos (2_451_545 * 10 ^ 18)) *ℤ pos 86_400

-- the formal count or the instant of a written time, in units of 10^-18 s past J2000; where the calendar
-- has no such day there is none
abbrev pub IsValueOf : Written → ℤ → Type 0
IsValueOf (calendar date time scale) z = (label : Label) × IsLabelOf date time label × (z ≡ formal label)
IsValueOf (julian mark gap days scale) z = z ≡ julian_instant (number_units days)
IsValueOf (plain sign seconds) z = z ≡ signed (is_minus sign) (number_units seconds)

-- A calendar date stands for a label, or for no second where its seconds are 60 in another minute than
-- 23:59. A Julian date and plain seconds stand for an instant.
abbrev pub StandsFor : Written → Time → Type 0
StandsFor (calendar date time scale) (OfLabel label) = IsLabelOf date time label × (IsNoSecond time → ⊥)
StandsFor (calendar date time scale) (Instant z) = ⊥
StandsFor (calendar date time scale) NoSecond = IsNoSecond time
StandsFor w (OfLabel label) = ⊥
StandsFor w (Instant z) = IsValueOf w z
StandsFor w NoSecond = ⊥

-- What reading a time may answer. A refusal is the first: what stands before it is good.
abbrev pub ReadsTime : List ℕ → System → Form → Result Time FormFault → Type 0
ReadsTime text system form (Ok time) =
    (w : Written) × Spells system form text w × NamesNoOther system w
    × ((z : ℤ) × IsValueOf w z × IsInRange z) × StandsFor w time
ReadsTime text system form (Err BadTime) = (w : Written) → Spells system form text w → ⊥
ReadsTime text system form (Err WrongSystem) =
    (w : Written) × Spells system form text w × (NamesNoOther system w → ⊥)
ReadsTime text system form (Err NoSuchDay) =
    (w : Written) × Spells system form text w × NamesNoOther system w × ((z : ℤ) → IsValueOf w z → ⊥)
ReadsTime text system form (Err OutOfRange) =
    (w : Written) × Spells system form text w × NamesNoOther system w
    × ((z : ℤ) × IsValueOf w z × (IsInRange z → ⊥))

-- a label of the range with a second of a day that has at most 86,401, or an instant of the range
abbrev pub IsGood : Time → Type 0
IsGood (OfLabel label) = LiesInRange label × (pos 0 ≤ℤ label.of_day) × (label.of_day <ℤ units (pos 86_401))
IsGood (Instant z) = IsInRange z
IsGood NoSecond = Unit {0}
