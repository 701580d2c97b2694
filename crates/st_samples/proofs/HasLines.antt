-- Each number makes a line.
use Rattle.std.proofs.Common.{◌≡◌, ◌≢◌, ℕ, zero, suc, ◌+◌, ◌*◌, ◌/◌, ◌%◌, ◌^◌, ◌<◌, true, Some, Result, Ok, Err, List, [], ◌∷◌, codes, length, refl, sym, ap, ◌∙◌, arith, lit<, ℤ, pos, ◌+ℤ◌, ◌≤ℤ◌}
use Rattle.std.specs.Prelude.{unsigned_abs}
use Rattle.std.proofs.lemmas.Int.{ints, int_rem_euclid_is}
use Rattle.st_clock.specs.Clock.{Clock as TheClock, total}
use Rattle.st_dates.specs.Civil.{IsCivil, day_of_year, weekday_of}
use Rattle.st_dates.specs.Label.{formal, IsPlainLabel}
use Rattle.st_dates.specs.declared.civil.Civil.{Civil}
use Rattle.st_dates.specs.declared.label.Label.{Label}
use Rattle.st_forms.specs.declared.form.Form.TheVariants.{Calendar, Seconds, Any}
use Rattle.st_picture.proofs.Months.{has_month}
use Rattle.st_routes.specs.declared.ticks.TickForm.{TickForm}
use Rattle.st_routes.specs.declared.ticks.TickForm.TheVariants as tick_forms
use Rattle.st_tables.specs.Tables.{ClockGives}
use Rattle.st_tables.specs.Variables.{Loaded}
use Rattle.st_tables.specs.declared.fault.TableFault.{TableFault}
use Rattle.st_tables.specs.declared.fault.TableFault.TheVariants.{NoVariable, WrongKind, Leaps, Deltet, Clock, OutOfMemory}
use Rattle.st_words.specs.declared.job.FromKind.{FromKind}
use Rattle.st_words.specs.declared.job.FromKind.TheVariants as from
use Rattle.st_words.specs.declared.job.Job.{Job}
use Rattle.st_answers.specs.Ready.{IsReady}
use Rattle.st_answers.proofs.Sides.{is_of_clock, source-kind}
use Rattle.st_answers.proofs.Timed.{tick-text-found}
use Rattle.st_samples.specs.Generator.{milliseconds, seconds, tick, x_of}
use Rattle.st_samples.specs.JobLine.{AreLinesFrom, IsClockLine, IsLineBy, IsTickLine}
use Rattle.st_samples.specs.Laws.{EachSampleHasLines, IsClockTold}
use Rattle.st_samples.specs.SampleLine.{IsLabelLine, label_text, seconds_text}
use Rattle.st_samples.proofs.JobLaws.{is-clock}

-- a day from 2000 on has a date
weekday-at : (day : ℤ) → pos 0 ≤ℤ day → weekday_of day ≡ pos (unsigned_abs (day +ℤ pos 6) % 7)
weekday-at day from = int_rem_euclid_is (day +ℤ pos 6) (pos 7) 7 0 (unsigned_abs (day +ℤ pos 6)) (lit< tt) refl (omega (arith, ints))

has-date : (day : ℤ) → pos 0 ≤ℤ day → (date : Civil) × IsCivil day date
has-date day from =
    let m = has_month day (omega (arith, ints)) in (
      record { year = m.0; month = m.1; day = m.2.of_month; doy = day_of_year (unsigned_abs m.0) m.1 m.2.of_month; weekday = unsigned_abs (day +ℤ pos 6) % 7 },
      record { year_from = m.2.year_from; date = m.2.date; number = m.2.number; place = refl; weekday = sym (weekday-at day from) },
    )

-- the day of a sample, and the milliseconds of it that have passed
abbrev day_of : ℕ → ℕ
day_of x = (seconds x + 43_200) / 86_400

abbrev passed_of : ℕ → ℕ
passed_of x = (seconds x + 43_200) % 86_400 * 1_000 + milliseconds x

abbrev label_of : ℕ → Label
label_of x = record { day = pos (day_of x); of_day = pos (passed_of x * 10 ^ 15) }

label-counts : (s m : ℕ) → formal (record { day = pos ((s + 43_200) / 86_400); of_day = pos (((s + 43_200) % 86_400 * 1_000 + m) * 10 ^ 15) }) ≡ pos (s * 10 ^ 18 + m * 10 ^ 15)
label-counts s m = omega (arith, ints)

label-plain : (s m : ℕ) → m < 1_000 → IsPlainLabel (record { day = pos ((s + 43_200) / 86_400); of_day = pos (((s + 43_200) % 86_400 * 1_000 + m) * 10 ^ 15) })
label-plain s m few = record { from = omega (arith, ints); to = omega (arith, ints, few) }

label-found : (x : ℕ) → (line : List ℕ) × IsLabelLine x line
label-found x =
    let date = has-date (pos (day_of x)) (omega (arith, ints)) in (
      label_text date.0 (passed_of x),
      record {
        label = label_of x;
        plain = label-plain (seconds x) (milliseconds x) (omega arith);
        counts = label-counts (seconds x) (milliseconds x);
        text = record { civil = date.0; passed = passed_of x; date = date.1; time = refl; whole = refl };
      },
    )

tick-line-found : (n : ℕ) (loaded : Loaded) (form : TickForm) (x : ℕ) (given : Result TheClock TableFault) → ClockGives n loaded given → given ≢ Err OutOfMemory
    → (line : List ℕ) × IsTickLine given form x line
tick-line-found n loaded form x (Ok c) g not = tick-text-found c form (tick x (total c)) (is-clock n loaded c g)
tick-line-found n loaded form x (Err (NoVariable v)) g not = (codes "0", refl)
tick-line-found n loaded form x (Err (WrongKind v)) g not = (codes "0", refl)
tick-line-found n loaded form x (Err (Leaps l)) g not = (codes "0", refl)
tick-line-found n loaded form x (Err (Deltet d)) g not = (codes "0", refl)
tick-line-found n loaded form x (Err (Clock k)) g not = (codes "0", refl)
tick-line-found n loaded form x (Err OutOfMemory) g not = absurd (not refl)

clock-line-found : (job : Job) (loaded : Loaded) (form : TickForm) (x : ℕ) → IsReady job → IsClockTold job loaded → is_of_clock job.form ≡ true
    → (line : List ℕ) × IsClockLine job loaded form x line
clock-line-found job loaded form x ready told is =
    let c = told (sym (source-kind job.from job.form ready.source) ∙ is) in by c.0 c.1 (c.2, c.3, c.4)
  where
    by : (n : ℕ) (given : Result TheClock TableFault) → (job.clock ≡ Some n) × ClockGives n loaded given × (given ≢ Err OutOfMemory)
        → (line : List ℕ) × IsClockLine job loaded form x line
    by n given (known, g, not) =
        let l = tick-line-found n loaded form x given g not in
        (l.0, (n, given, known, g, l.1))

line-found : (kind : FromKind) (job : Job) (loaded : Loaded) (x : ℕ) → kind ≡ job.form → IsReady job → IsClockTold job loaded → (line : List ℕ) × IsLineBy kind job loaded x line
line-found (from.Time Calendar) job loaded x is ready told = label-found x
line-found (from.Time Seconds) job loaded x is ready told = (seconds_text x, refl)
line-found (from.Time Any) job loaded x is ready told = (seconds_text x, refl)
line-found from.Clock job loaded x is ready told = clock-line-found job loaded tick_forms.Clock x ready told (sym (ap is_of_clock is))
line-found from.Ticks job loaded x is ready told = clock-line-found job loaded tick_forms.Ticks x ready told (sym (ap is_of_clock is))

lines-found : (job : Job) (loaded : Loaded) (seed i n : ℕ) → IsReady job → IsClockTold job loaded → (lines : List (List ℕ)) × (length lines ≡ n) × AreLinesFrom job loaded seed i lines
lines-found job loaded seed i zero ready told = ([], refl, tt)
lines-found job loaded seed i (suc n) ready told =
    let first = line-found job.form job loaded (x_of seed i) refl ready told in
    let rest = lines-found job loaded seed (i + 1) n ready told in
    (first.0 ∷ rest.0, ap suc rest.1, (first.1, rest.2))

pub each-sample-has-lines : EachSampleHasLines
each-sample-has-lines job loaded n seed ready told =
    let found = lines-found job loaded seed 1 n ready told in
    (found.0, (found.1, found.2))
