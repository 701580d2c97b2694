-- A text that begins with a form of a day is read to that day.
use Rattle.std.proofs.Common.{◌≡◌, ℕ, refl, sym, ap, ◌∙◌, arith, List, ◌∷◌, ◌++◌, length, ℤ, Option, Some, None, append_assoc, ne_eqb, eq-eqb}
use Rattle.std.specs.Char.{is_ascii_digit}
use Rattle.st_text.specs.Bytes.{number_of}
use Rattle.st_text.specs.Scan.{IsDigitRun}
use Rattle.st_dates.specs.CalendarMachine.{calendar_day, day_in_year}
use Rattle.st_dates.specs.DayText.{DayText, numeric, named, day_first, of_year, day_spelling, AreDayParts, IsDayOf, NamesDate}
use Rattle.st_dates.specs.DayTextMachine.{is_no_dash, month_of_name, with_day, with_year, year_first, month_next, day_of_text, number_in}
use Rattle.st_dates.specs.Names.{NamesMonth}
use Rattle.st_dates.specs.NamesMachine.{month_named}
use Rattle.st_dates.specs.declared.day_text.CalendarDate.{CalendarDate}
use Rattle.st_dates.specs.declared.day_text.CalendarDate.TheVariants.{OfMonth, OfYear}
use Rattle.st_dates.proofs.CalendarLaws.{there, there_only, place_there, place_there_only}
use Rattle.st_dates.proofs.NameLaws.{only, names, no_dash, no_digit}
use Rattle.st_text.proofs.Runs.{Stops, leading-at, behind-at, leading-fail, digits_at, past_at, digits_test, after_byte}

-- the day number of a date whose month has a name, where the calendar has the day
abbrev pub named_day : ℕ → Option ℕ → ℕ → Option ℤ
named_day y None d = None
named_day y (Some m) d = calendar_day y m d

-- the day number of a written day, where the calendar has it
abbrev pub day_in : DayText → Option ℤ
day_in (numeric year month day) = calendar_day (number_of year) (number_of month) (number_of day)
day_in (named year name day) = named_day (number_of year) (month_named name) (number_of day)
day_in (day_first day name year) = named_day (number_of year) (month_named name) (number_of day)
day_in (of_year year place) = day_in_year (number_of year) (number_of place)

pub day_found : (w : DayText) (n : ℤ) → IsDayOf w n → day_in w ≡ Some n
day_found (numeric year month day) n h =
    there (number_of year) (number_of month) (number_of day) h.0 ∙ ap Some (sym h.1)
day_found (named year name day) n (m, nm, (h, e)) =
    rw (only name m nm) (there (number_of year) m (number_of day) h ∙ ap Some (sym e))
day_found (day_first day name year) n (m, nm, (h, e)) =
    rw (only name m nm) (there (number_of year) m (number_of day) h ∙ ap Some (sym e))
day_found (of_year year place) n h = place_there (number_of year) (number_of place) h.0 ∙ ap Some (sym h.1)

named_found : (y d : ℕ) (name : List ℕ) (o : Option ℕ) (n : ℤ) → month_named name ≡ o → named_day y o d ≡ Some n → (m : ℕ) × NamesMonth name m × (calendar_day y m d ≡ Some n)
named_found y d name None n e h = absurd (cc)
named_found y d name (Some m) n e h = (m, names name m e, h)

pub day_is_found : (w : DayText) (n : ℤ) → day_in w ≡ Some n → IsDayOf w n
day_is_found (numeric year month day) n h = there_only (number_of year) (number_of month) (number_of day) n h
day_is_found (named year name day) n h =
    let f = named_found (number_of year) (number_of day) name (month_named name) n refl h in
    (f.0, f.1, there_only (number_of year) f.0 (number_of day) n f.2)
day_is_found (day_first day name year) n h =
    let f = named_found (number_of year) (number_of day) name (month_named name) n refl h in
    (f.0, f.1, there_only (number_of year) f.0 (number_of day) n f.2)
day_is_found (of_year year place) n h = place_there_only (number_of year) (number_of place) n h

with_day_read : (y m : ℕ) (day rest : List ℕ) → IsDigitRun 1 2 day → Stops is_ascii_digit rest → with_day y m (day ++ rest) ≡ Some (OfMonth y m (number_of day), rest)
unfolding with_day
with_day_read y m day rest h s =
    rw (digits_at 1 2 day rest h s, past_at 1 2 day rest h s, digits_test 1 2 day h) refl

with_year_read : (m d : ℕ) (year rest : List ℕ) → IsDigitRun 4 4 year → Stops is_ascii_digit rest → with_year m d (year ++ rest) ≡ Some (OfMonth (number_of year) m d, rest)
unfolding with_year
with_year_read m d year rest h s =
    rw (digits_at 4 4 year rest h s, past_at 4 4 year rest h s, eq-eqb (length year) 4 (omega arith)) refl

month_read : (name rest : List ℕ) (m : ℕ) → NamesMonth name m → month_of_name (name ++ (45 ∷ rest)) ≡ Some (m, rest)
unfolding month_of_name
month_read name rest m n =
    rw (leading-at is_no_dash name (45 ∷ rest) (no_dash name m n) refl, behind-at is_no_dash name (45 ∷ rest) (no_dash name m n) refl, only name m n, after_byte 45 rest) refl

year_then : (year t : List ℕ) → IsDigitRun 4 4 year → day_of_text (year ++ (45 ∷ t)) ≡ year_first (number_of year) t
unfolding day_of_text
year_then year t h =
    rw (digits_at 4 4 year (45 ∷ t) h refl, past_at 4 4 year (45 ∷ t) h refl, eq-eqb (length year) 4 (omega arith), after_byte 45 t) refl

day_then : (day t : List ℕ) → IsDigitRun 1 2 day → day_of_text (day ++ (45 ∷ t)) ≡ month_next (number_of day) t
unfolding day_of_text
day_then day t h =
    rw (digits_at 1 2 day (45 ∷ t) h refl, past_at 1 2 day (45 ∷ t) h refl, ne_eqb (length day) 4 (omega arith), digits_test 1 2 day h, after_byte 45 t) refl

numeric_read : (y : ℕ) (month day rest : List ℕ) → IsDigitRun 1 2 month → IsDigitRun 1 2 day → Stops is_ascii_digit rest → year_first y (month ++ (45 ∷ (day ++ rest))) ≡ Some (OfMonth y (number_of month) (number_of day), rest)
unfolding year_first
numeric_read y month day rest h k s =
    let t = day ++ rest in
    rw (digits_at 1 2 month (45 ∷ t) h refl, past_at 1 2 month (45 ∷ t) h refl, ne_eqb (length month) 0 (omega arith), ne_eqb (length month) 3 (omega arith), digits_test 1 2 month h, after_byte 45 t) (with_day_read y (number_of month) day rest k s)

named_read : (y : ℕ) (name day rest : List ℕ) (m : ℕ) → NamesMonth name m → IsDigitRun 1 2 day → Stops is_ascii_digit rest → year_first y (name ++ (45 ∷ (day ++ rest))) ≡ Some (OfMonth y m (number_of day), rest)
unfolding year_first
named_read y name day rest m n k s =
    let t = day ++ rest in
    rw (leading-fail is_ascii_digit (name ++ (45 ∷ t)) (no_digit name (45 ∷ t) m n), month_read name t m n) (with_day_read y m day rest k s)

of_year_read : (y : ℕ) (place rest : List ℕ) → IsDigitRun 3 3 place → Stops is_ascii_digit rest → year_first y (place ++ rest) ≡ Some (OfYear y (number_of place), rest)
unfolding year_first
of_year_read y place rest h s =
    rw (digits_at 3 3 place rest h s, past_at 3 3 place rest h s, ne_eqb (length place) 0 (omega arith), eq-eqb (length place) 3 (omega arith)) refl

day_first_read : (d : ℕ) (name year rest : List ℕ) (m : ℕ) → NamesMonth name m → IsDigitRun 4 4 year → Stops is_ascii_digit rest → month_next d (name ++ (45 ∷ (year ++ rest))) ≡ Some (OfMonth (number_of year) m d, rest)
unfolding month_next
day_first_read d name year rest m n k s =
    rw (month_read name (year ++ rest) m n) (with_year_read m d year rest k s)

-- what a spelled day is read to
pub record Finds (text rest : List ℕ) (w : DayText) : Type 0 where
  pub date : CalendarDate
  pub read : day_of_text text ≡ Some (date, rest)
  pub same : number_in date ≡ day_in w
  pub names : NamesDate w date

three_apart : (a b c rest : List ℕ) → (a ++ (45 ∷ (b ++ (45 ∷ c)))) ++ rest ≡ a ++ (45 ∷ (b ++ (45 ∷ (c ++ rest))))
three_apart a b c rest = simp append_assoc

two_apart : (a b rest : List ℕ) → (a ++ (45 ∷ b)) ++ rest ≡ a ++ (45 ∷ (b ++ rest))
two_apart a b rest = simp append_assoc

pub day_read : (w : DayText) (rest : List ℕ) → AreDayParts w → Stops is_ascii_digit rest → Finds (day_spelling w ++ rest) rest w
unfolding number_in
day_read (numeric year month day) rest (hy, hm, hd) s = record {
  date = OfMonth (number_of year) (number_of month) (number_of day);
  read = ap day_of_text (three_apart year month day rest) ∙ year_then year (month ++ (45 ∷ (day ++ rest))) hy ∙ numeric_read (number_of year) month day rest hm hd s;
  same = refl;
  names = refl;
}
day_read (named year name day) rest (hy, hm, hd) s = record {
  date = OfMonth (number_of year) hm.0 (number_of day);
  read = ap day_of_text (three_apart year name day rest) ∙ year_then year (name ++ (45 ∷ (day ++ rest))) hy ∙ named_read (number_of year) name day rest hm.0 hm.1 hd s;
  same = rw (only name hm.0 hm.1) refl;
  names = (hm.0, hm.1, refl);
}
day_read (day_first day name year) rest (hd, hm, hy) s = record {
  date = OfMonth (number_of year) hm.0 (number_of day);
  read = ap day_of_text (three_apart day name year rest) ∙ day_then day (name ++ (45 ∷ (year ++ rest))) hd ∙ day_first_read (number_of day) name year rest hm.0 hm.1 hy s;
  same = rw (only name hm.0 hm.1) refl;
  names = (hm.0, hm.1, refl);
}
day_read (of_year year place) rest (hy, hp) s = record {
  date = OfYear (number_of year) (number_of place);
  read = ap day_of_text (two_apart year place rest) ∙ year_then year (place ++ rest) hy ∙ of_year_read (number_of year) place rest hp s;
  same = refl;
  names = refl;
}
