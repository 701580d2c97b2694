-- A text that begins with a form of a date is read to that date.
use Rattle.std.proofs.Common.{◌≡◌, ℕ, true, false, ◌==◌, ◌≤◌, inl, inr, refl, sym, ap, ◌∙◌, arith, List, [], ◌∷◌, ◌++◌, length, Some, None, append_assoc}
use Rattle.std.proofs.lemmas.Bool.{cases_Bool, eqb-true}
use Rattle.std.specs.Char.{is_ascii_digit}
use Rattle.std.specs.List.{list_all}
use Rattle.st_text.specs.Bytes.{is_blank, are_blanks, number_of}
use Rattle.st_text.specs.Scan.{leading_digits, past_digits, after, IsDigitRun, is_digit_run}
use Rattle.st_text.proofs.Logic.{and-left}
use Rattle.st_text.proofs.Runs.{Stops, behind-fail, past_at, after_byte}
use Rattle.st_dates.specs.DayText.{DayText, numeric, named, of_year, day_spelling, NamesDate}
use Rattle.st_dates.specs.DayText.{day_first as day_of_kernel}
use Rattle.st_dates.specs.DayTextMachine.{day_of_text}
use Rattle.st_dates.specs.Names.{NamesMonth}
use Rattle.st_dates.specs.declared.day_text.CalendarDate.{CalendarDate}
use Rattle.st_dates.specs.declared.day_text.CalendarDate.TheVariants.{OfMonth}
use Rattle.st_dates.proofs.DayForms.{day_read}
use Rattle.st_dates.proofs.NameLaws.{only, is_letter, name_letters, name_some, letters_pass, letters_stop}
use Rattle.st_forms.specs.DateForm.{DateText, year_month_day, year_place, year_name_day, day_name_year, name_day_year, month_day_year, dashes, gaps, date_spelling, day_text, IsGap, AreDateParts}
use Rattle.st_forms.specs.DateMachine.{named_month, year_first, day_first, slashed, month_first, date_of_text}
use Rattle.st_forms.specs.WordMachine.{run, is_no_blank, past_gap}
use Rattle.st_forms.proofs.Cutting.{run_at, run_fewer, run_no_digit, skipped, gap_at, gap_none, digits_first, gap_no_digit, gap_ends, gap_other, letter_no_blank, letter_no_digit, no_blank, word_at, past_word_at}

-- what a spelled date is read to
pub record DateRead (w : DateText) (rest : List ℕ) : Type 0 where
  pub date : CalendarDate
  pub read : date_of_text (date_spelling w ++ rest) ≡ Some (date, rest)
  pub names : NamesDate (day_text w) date

-- where the byte after the digits is no `-`, there is no date of the dashed forms
pub no_dashes : (text : List ℕ) → after 45 (past_digits text) ≡ None → day_of_text text ≡ None
unfolding day_of_text
no_dashes text e =
    elim (cases_Bool (length (leading_digits text) == 4)) [
      | inl h ↦ rw (h, e) refl
      | inr h ↦ elim (cases_Bool (is_digit_run 1 2 (leading_digits text))) [
        | inl k ↦ rw (h, k, e) refl
        | inr k ↦ rw (h, k) refl
      ]
    ]

past_same : (byte low high : ℕ) (digits rest : List ℕ) → IsDigitRun low high digits → Stops is_ascii_digit rest → after byte rest ≡ None → after byte (past_digits (digits ++ rest)) ≡ None
past_same byte low high digits rest h s e = ap (λ (t : List ℕ). after byte t) (past_at low high digits rest h s) ∙ e

letter_no_byte : (byte b : ℕ) → is_letter byte ≡ false → is_letter b ≡ true → (b == byte) ≡ false
letter_no_byte byte b differs h =
    elim (cases_Bool (b == byte)) [
      | inl e ↦ absurd (let same : b ≡ byte = eqb-true b byte e in let is : is_letter byte ≡ true = ap is_letter (sym same) ∙ h in cc)
      | inr e ↦ e
    ]

letters_other : (byte : ℕ) (text rest : List ℕ) → is_letter byte ≡ false → list_all is_letter text ≡ true → 1 ≤ length text → after byte (text ++ rest) ≡ None
unfolding after
letters_other byte [] rest differs h some = absurd (let n : 1 ≤ 0 = some in omega arith)
letters_other byte (b ∷ t) rest differs h some =
    rw (letter_no_byte byte b differs (and-left (is_letter b) (list_all is_letter t) h)) refl

-- a month's name begins with another byte
name_other : (byte : ℕ) (name rest : List ℕ) (m : ℕ) → is_letter byte ≡ false → NamesMonth name m → after byte (name ++ rest) ≡ None
name_other byte name rest m differs n = letters_other byte name rest differs (name_letters name m n) (name_some name m n)

slash_no_dash : (t : List ℕ) → after 45 (47 ∷ t) ≡ None
unfolding after
slash_no_dash t = refl

-- the dashed forms, as a kernel has them
dashed : (w : DayText) (text rest : List ℕ) (d : CalendarDate) → text ≡ day_spelling w ++ rest → day_of_text (day_spelling w ++ rest) ≡ Some (d, rest) → date_of_text text ≡ Some (d, rest)
unfolding date_of_text
dashed w text rest d e f = rw (ap day_of_text e ∙ f) refl

-- a month's name and the blanks after it
month_at : (name gap rest : List ℕ) (m : ℕ) → NamesMonth name m → IsGap gap → Stops is_blank rest → named_month (name ++ (gap ++ rest)) ≡ Some (m, rest)
unfolding named_month
month_at name gap rest m n g s =
    let all : list_all is_no_blank name ≡ true = letters_pass is_no_blank (λ b h. no_blank b (letter_no_blank b h)) name (name_letters name m n) in
    rw (word_at name (gap ++ rest) all (gap_ends gap rest g), past_word_at name (gap ++ rest) all (gap_ends gap rest g), only name m n, gap_at gap rest g s) refl

name_first : (name rest : List ℕ) (m : ℕ) → NamesMonth name m → Stops is_blank (name ++ rest)
name_first name rest m n = letters_stop is_blank letter_no_blank name rest (name_letters name m n) (name_some name m n)

name_no_digit : (name rest : List ℕ) (m : ℕ) → NamesMonth name m → Stops is_ascii_digit (name ++ rest)
name_no_digit name rest m n = letters_stop is_ascii_digit letter_no_digit name rest (name_letters name m n) (name_some name m n)

-- YYYY MON N1
year_first_at : (year s name t day rest : List ℕ) (m : ℕ) → IsDigitRun 4 4 year → IsGap s → NamesMonth name m → IsGap t → IsDigitRun 1 2 day → Stops is_ascii_digit rest → year_first (year ++ (s ++ (name ++ (t ++ (day ++ rest))))) ≡ Some (OfMonth (number_of year) m (number_of day), rest)
unfolding year_first
year_first_at year s name t day rest m hy hs hm ht hd stop =
    let tail = name ++ (t ++ (day ++ rest)) in
    rw (run_at 4 4 year (s ++ tail) hy (gap_no_digit s tail hs), gap_at s tail hs (name_first name (t ++ (day ++ rest)) m hm), month_at name t (day ++ rest) m hm ht (digits_first 1 2 day rest hd (omega arith)), run_at 1 2 day rest hd stop) refl

-- N1 MON YYYY
day_first_at : (day s name t year rest : List ℕ) (m : ℕ) → IsDigitRun 1 2 day → IsGap s → NamesMonth name m → IsGap t → IsDigitRun 4 4 year → Stops is_ascii_digit rest → day_first (day ++ (s ++ (name ++ (t ++ (year ++ rest))))) ≡ Some (OfMonth (number_of year) m (number_of day), rest)
unfolding day_first
day_first_at day s name t year rest m hd hs hm ht hy stop =
    let tail = name ++ (t ++ (year ++ rest)) in
    rw (run_at 1 2 day (s ++ tail) hd (gap_no_digit s tail hs), gap_at s tail hs (name_first name (t ++ (year ++ rest)) m hm), month_at name t (year ++ rest) m hm ht (digits_first 4 4 year rest hy (omega arith)), run_at 4 4 year rest hy stop) refl

-- N1/N1/YYYY
slashed_at : (month day year rest : List ℕ) → IsDigitRun 1 2 month → IsDigitRun 1 2 day → IsDigitRun 4 4 year → Stops is_ascii_digit rest → slashed (month ++ (47 ∷ (day ++ (47 ∷ (year ++ rest))))) ≡ Some (OfMonth (number_of year) (number_of month) (number_of day), rest)
unfolding slashed
slashed_at month day year rest hm hd hy stop =
    let last = year ++ rest in
    rw (run_at 1 2 month (47 ∷ (day ++ (47 ∷ last))) hm refl, after_byte 47 (day ++ (47 ∷ last)), run_at 1 2 day (47 ∷ last) hd refl, after_byte 47 last, run_at 4 4 year rest hy stop) refl

-- MON N1, YYYY
month_first_at : (name gap day blanks year rest : List ℕ) (m : ℕ) → NamesMonth name m → IsGap gap → IsDigitRun 1 2 day → are_blanks blanks ≡ true → IsDigitRun 4 4 year → Stops is_ascii_digit rest → month_first (name ++ (gap ++ (day ++ (44 ∷ (blanks ++ (year ++ rest)))))) ≡ Some (OfMonth (number_of year) m (number_of day), rest)
unfolding month_first
month_first_at name gap day blanks year rest m hm hg hd hb hy stop =
    let last = year ++ rest in
    let behind_day = 44 ∷ (blanks ++ last) in
    rw (month_at name gap (day ++ behind_day) m hm hg (digits_first 1 2 day behind_day hd (omega arith)), run_at 1 2 day behind_day hd refl, after_byte 44 (blanks ++ last), skipped blanks last hb (digits_first 4 4 year rest hy (omega arith)), run_at 4 4 year rest hy stop) refl

-- the first of the five readings that there is
second_of_five : (text rest : List ℕ) (d : CalendarDate) → day_of_text text ≡ None → year_first text ≡ Some (d, rest) → date_of_text text ≡ Some (d, rest)
unfolding date_of_text
second_of_five text rest d a b = rw (a, b) refl

third_of_five : (text rest : List ℕ) (d : CalendarDate) → day_of_text text ≡ None → year_first text ≡ None → day_first text ≡ Some (d, rest) → date_of_text text ≡ Some (d, rest)
unfolding date_of_text
third_of_five text rest d a b c = rw (a, b, c) refl

fourth_of_five : (text rest : List ℕ) (d : CalendarDate) → day_of_text text ≡ None → year_first text ≡ None → day_first text ≡ None → slashed text ≡ Some (d, rest) → date_of_text text ≡ Some (d, rest)
unfolding date_of_text
fourth_of_five text rest d a b c e = rw (a, b, c, e) refl

fifth_of_five : (text rest : List ℕ) (d : CalendarDate) → day_of_text text ≡ None → year_first text ≡ None → day_first text ≡ None → slashed text ≡ None → month_first text ≡ Some (d, rest) → date_of_text text ≡ Some (d, rest)
unfolding date_of_text
fifth_of_five text rest d a b c e f = rw (a, b, c, e, f) refl

-- where a form isn't read
no_year_first : (text : List ℕ) → run 4 4 text ≡ None → year_first text ≡ None
unfolding year_first
no_year_first text e = rw e refl

no_day_first : (text : List ℕ) → run 1 2 text ≡ None → day_first text ≡ None
unfolding day_first
no_day_first text e = rw e refl

no_slashed : (text : List ℕ) → run 1 2 text ≡ None → slashed text ≡ None
unfolding slashed
no_slashed text e = rw e refl

no_gap_behind : (text rest : List ℕ) (n : ℕ) → run 1 2 text ≡ Some (n, rest) → past_gap rest ≡ None → day_first text ≡ None
unfolding day_first
no_gap_behind text rest n e f = rw (e, f) refl

four_apart : (a b c d e rest : List ℕ) → (a ++ (b ++ (c ++ (d ++ e)))) ++ rest ≡ a ++ (b ++ (c ++ (d ++ (e ++ rest))))
four_apart a b c d e rest = simp append_assoc

comma_apart : (a b c d e rest : List ℕ) → (a ++ (b ++ (c ++ (44 ∷ (d ++ e))))) ++ rest ≡ a ++ (b ++ (c ++ (44 ∷ (d ++ (e ++ rest)))))
comma_apart a b c d e rest = simp append_assoc

slash_apart : (a b c rest : List ℕ) → (a ++ (47 ∷ (b ++ (47 ∷ c)))) ++ rest ≡ a ++ (47 ∷ (b ++ (47 ∷ (c ++ rest))))
slash_apart a b c rest = simp append_assoc

-- a spelled date is read
pub date_read : (w : DateText) (rest : List ℕ) → AreDateParts w → Stops is_ascii_digit rest → DateRead w rest
date_read (year_month_day year month day) rest (h, s) stop =
    let f = day_read (numeric year month day) rest h stop in
    record { date = f.date; read = dashed (numeric year month day) _ rest f.date refl f.read; names = f.names }
date_read (year_place year place) rest (h, s) stop =
    let f = day_read (of_year year place) rest h stop in
    record { date = f.date; read = dashed (of_year year place) _ rest f.date refl f.read; names = f.names }
date_read (year_name_day year dashes name day) rest (h, s) stop =
    let f = day_read (named year name day) rest h stop in
    record { date = f.date; read = dashed (named year name day) _ rest f.date refl f.read; names = f.names }
date_read (day_name_year day dashes name year) rest ((hy, hn, hd), s) stop =
    let f = day_read (day_of_kernel day name year) rest (hd, hn, hy) stop in
    record { date = f.date; read = dashed (day_of_kernel day name year) _ rest f.date refl f.read; names = f.names }
date_read (year_name_day year (gaps s t) name day) rest ((hy, hn, hd), (hs, ht)) stop =
    let text = year ++ (s ++ (name ++ (t ++ (day ++ rest)))) in
    let tail = name ++ (t ++ (day ++ rest)) in
    let none = no_dashes text (past_same 45 4 4 year (s ++ tail) hy (gap_no_digit s tail hs) (gap_other 45 s tail refl hs)) in
    let d = OfMonth (number_of year) hn.0 (number_of day) in
    record {
      date = d;
      read = ap date_of_text (four_apart year s name t day rest) ∙ second_of_five text rest d none (year_first_at year s name t day rest hn.0 hy hs hn.1 ht hd stop);
      names = (hn.0, hn.1, refl);
    }
date_read (day_name_year day (gaps s t) name year) rest ((hy, hn, hd), (hs, ht)) stop =
    let text = day ++ (s ++ (name ++ (t ++ (year ++ rest)))) in
    let tail = name ++ (t ++ (year ++ rest)) in
    let behind = gap_no_digit s tail hs in
    let none = no_dashes text (past_same 45 1 2 day (s ++ tail) hd behind (gap_other 45 s tail refl hs)) in
    let no_year = no_year_first text (run_fewer 4 4 1 2 day (s ++ tail) hd behind (omega arith)) in
    let d = OfMonth (number_of year) hn.0 (number_of day) in
    record {
      date = d;
      read = ap date_of_text (four_apart day s name t year rest) ∙ third_of_five text rest d none no_year (day_first_at day s name t year rest hn.0 hd hs hn.1 ht hy stop);
      names = (hn.0, hn.1, refl);
    }
date_read (name_day_year name gap day blanks year) rest ((hy, hn, hd), (hg, hb)) stop =
    let tail = gap ++ (day ++ (44 ∷ (blanks ++ (year ++ rest)))) in
    let text = name ++ tail in
    let behind = name_no_digit name tail hn.0 hn.1 in
    let none = no_dashes text (ap (λ (t : List ℕ). after 45 t) (behind-fail is_ascii_digit text behind) ∙ name_other 45 name tail hn.0 refl hn.1) in
    let d = OfMonth (number_of year) hn.0 (number_of day) in
    record {
      date = d;
      read =
          ap date_of_text (comma_apart name gap day blanks year rest)
          ∙ fifth_of_five text rest d none
          (no_year_first text (run_no_digit 4 4 text (omega arith) behind))
          (no_day_first text (run_no_digit 1 2 text (omega arith) behind))
          (no_slashed text (run_no_digit 1 2 text (omega arith) behind))
          (month_first_at name gap day blanks year rest hn.0 hn.1 hg hd hb hy stop);
      names = (hn.0, hn.1, refl);
    }
date_read (month_day_year month day year) rest ((hy, hm, hd), s) stop =
    let tail = 47 ∷ (day ++ (47 ∷ (year ++ rest))) in
    let text = month ++ tail in
    let none = no_dashes text (past_same 45 1 2 month tail hm refl (slash_no_dash (day ++ (47 ∷ (year ++ rest))))) in
    let no_year = no_year_first text (run_fewer 4 4 1 2 month tail hm refl (omega arith)) in
    let no_day = no_gap_behind text tail (number_of month) (run_at 1 2 month tail hm refl) (gap_none tail refl) in
    let d = OfMonth (number_of year) (number_of month) (number_of day) in
    record {
      date = d;
      read = ap date_of_text (slash_apart month day year rest) ∙ fourth_of_five text rest d none no_year no_day (slashed_at month day year rest hm hd hy stop);
      names = refl;
    }
