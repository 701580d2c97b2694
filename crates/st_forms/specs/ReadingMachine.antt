-- How a time is read: by its form, then its system, its day and the range.
use Rattle.std.specs.Prelude.{ℕ, ◌^◌, ◌*◌, ◌<◌, Bool, true, false, not, ◌&&◌, ◌||◌, ◌==◌, nat_le, List, [], ◌∷◌, codes, ℤ, pos, Option, Some, None, Result, Ok, Err, if◌then◌else◌}
use Rattle.std.specs.Option.{option_or}
use Rattle.st_text.specs.Lines.{trimmed}
use Rattle.st_text.specs.Scan.{◌>>=◌}
use Rattle.st_dates.specs.AtDateMachine.{is_in_range}
use Rattle.st_dates.specs.DayTextMachine.{number_in, HasFourDigits}
use Rattle.st_dates.specs.Label.{formal}
use Rattle.st_dates.specs.TimeTextMachine.{day_units}
use Rattle.st_dates.specs.declared.clock.TimeOfDay.{TimeOfDay}
use Rattle.st_dates.specs.declared.label.Label.{Label}
use Rattle.st_dates.specs.declared.system.System.{System}
use Rattle.st_dates.specs.declared.system.System.TheVariants.{Utc, Tai, Tt, Tdb, Sclk}
use Rattle.st_decimal.specs.Value.{is_minus, signed}
use Rattle.st_forms.specs.DateMachine.{date_of_text}
use Rattle.st_forms.specs.NumberMachine.{number_of_text}
use Rattle.st_forms.specs.Reading.{julian_instant}
use Rattle.st_forms.specs.TailMachine.{is_word, scale_of_text, tail_of_text}
use Rattle.st_forms.specs.WordMachine.{word, past_word, past_gap}
use Rattle.st_forms.specs.declared.form.Form.{Form}
use Rattle.st_forms.specs.declared.form.Form.TheVariants.{Any, Calendar, Seconds}
use Rattle.st_forms.specs.declared.fault.FormFault.{FormFault}
use Rattle.st_forms.specs.declared.fault.FormFault.TheVariants.{BadTime, WrongSystem, NoSuchDay, OutOfRange}
use Rattle.st_forms.specs.declared.reading.Reading.{Reading}
use Rattle.st_forms.specs.declared.reading.Reading.TheVariants.{Dated, Julian, Plain}
use Rattle.st_forms.specs.declared.time.TimeText.{TimeText}
use Rattle.st_forms.specs.declared.time.TimeText.TheVariants.{Label as OfLabel, Instant, NoSecond}

-- the text without a sign with which it begins
unfoldable pub past_sign : List ℕ → List ℕ
past_sign [] = []
past_sign (b ∷ t) = if (b == 43) || (b == 45) then t else b ∷ t

unfoldable pub seconds_of_text : List ℕ → Option Reading
seconds_of_text text = number_of_text (past_sign text) >>= λ n. Some (Plain (signed (is_minus text) n))

-- the number up to a blank, and the word after it
unfoldable pub julian_days : List ℕ → Option Reading
julian_days text =
    number_of_text (word text) >>= λ n. scale_of_text (past_word text)
    >>= λ s. Some (Julian (julian_instant n) s)

unfoldable pub julian_of_text : List ℕ → Option Reading
julian_of_text text =
    if is_word (word text) (codes "JD") then (past_gap (past_word text) >>= julian_days) else None

unfoldable pub dated_of_text : List ℕ → Option Reading
dated_of_text text = date_of_text text >>= λ d. tail_of_text d.1 >>= λ t. Some (Dated d.0 t.0 t.1)

-- the year of what was read was written by four digits, and its time is one of a day
abbrev pub IsSmall : Reading → Type 0
IsSmall (Dated date time scale) = HasFourDigits date × (time.minute < 1440) × (time.units < 61 * 10 ^ 18)
IsSmall (Julian instant scale) = Unit {0}
IsSmall (Plain instant) = Unit {0}

-- what a text is read as
unfoldable pub reading_of : List ℕ → Option Reading
reading_of text = option_or (seconds_of_text text) (option_or (julian_of_text text) (dated_of_text text))

abbrev pub is_utc : System → Bool
is_utc Utc = true
is_utc Tai = false
is_utc Tt = false
is_utc Tdb = false
is_utc Sclk = false

abbrev pub takes_dates : Form → Bool
takes_dates Any = true
takes_dates Calendar = true
takes_dates Seconds = false

abbrev pub takes_seconds : Form → Bool
takes_seconds Any = true
takes_seconds Calendar = false
takes_seconds Seconds = true

-- whether a source takes what was read
abbrev pub is_taken : System → Form → Reading → Bool
is_taken system form (Dated date time scale) = takes_dates form
is_taken system form (Julian instant scale) = takes_dates form && not (is_utc system)
is_taken system form (Plain instant) = takes_seconds form && not (is_utc system)

abbrev pub is_same : System → System → Bool
is_same Utc Utc = true
is_same Tai Tai = true
is_same Tt Tt = true
is_same Tdb Tdb = true
is_same Sclk Sclk = true
is_same _ _ = false

-- whether a word names another system
abbrev pub names_other : System → Option System → Bool
names_other system None = false
names_other system (Some named) = not (is_same named system)

abbrev pub scale_of : Reading → Option System
scale_of (Dated date time scale) = scale
scale_of (Julian instant scale) = scale
scale_of (Plain instant) = None

-- whether the seconds are 60 in another minute than 23:59
abbrev pub is_no_second : TimeOfDay → Bool
is_no_second time = nat_le (60 * 10 ^ 18) time.units && not (time.minute == 1439)

abbrev pub labelled : TimeOfDay → Label → Result TimeText FormFault
labelled time label =
    if not (is_in_range (formal label)) then Err OutOfRange
    else (if is_no_second time then Ok NoSecond else Ok (OfLabel label))

abbrev pub on_day : TimeOfDay → Option ℤ → Result TimeText FormFault
on_day time None = Err NoSuchDay
on_day time (Some day) = labelled time (record { day = day; of_day = pos (day_units time) })

abbrev pub ranged : ℤ → Result TimeText FormFault
ranged z = if is_in_range z then Ok (Instant z) else Err OutOfRange

abbrev pub value_of : Reading → Result TimeText FormFault
value_of (Dated date time scale) = on_day time (number_in date)
value_of (Julian instant scale) = ranged instant
value_of (Plain instant) = ranged instant

-- the answer to what was read
abbrev pub checked : System → Reading → Result TimeText FormFault
checked system reading =
    if names_other system (scale_of reading) then Err WrongSystem else value_of reading

abbrev pub answer_of : System → Form → Option Reading → Result TimeText FormFault
answer_of system form None = Err BadTime
answer_of system form (Some reading) =
    if is_taken system form reading then checked system reading else Err BadTime

unfoldable pub time_of_text : List ℕ → System → Form → Result TimeText FormFault
time_of_text text system form = answer_of system form (reading_of (trimmed text))
