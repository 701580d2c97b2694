-- A text that was read to a day begins with one of the forms of a day.
use Rattle.std.proofs.Common.{◌≡◌, ℕ, true, ◌==◌, inl, inr, refl, sym, ap, ◌∙◌, subst, arith, List, ◌∷◌, ◌++◌, length, Option, Some}
use Rattle.std.proofs.lemmas.Bool.{cases_Bool}
use Rattle.std.proofs.lemmas.Bool.Decides.{nat_tests}
use Rattle.std.specs.Char.{is_ascii_digit}
use Rattle.st_text.specs.Bytes.{number_of}
use Rattle.st_dates.specs.DayText.{DayText, numeric, named, day_first, of_year, day_spelling, AreDayParts, NamesDate}
use Rattle.st_dates.specs.DayTextMachine.{is_no_dash, month_of_name, with_day, with_year, year_first, month_next, day_of_text, number_in}
use Rattle.st_dates.specs.Names.{NamesMonth}
use Rattle.st_dates.specs.NamesMachine.{month_named}
use Rattle.st_text.specs.Scan.{IsDigitRun, ◌>>=◌, leading, behind, leading_digits, past_digits, after, is_digit_run}
use Rattle.st_dates.specs.declared.day_text.CalendarDate.{CalendarDate}
use Rattle.st_dates.specs.declared.day_text.CalendarDate.TheVariants.{OfMonth, OfYear}
use Rattle.st_dates.proofs.NameLaws.{only, names}
use Rattle.std.proofs.lemmas.Option.{same_Some}
use Rattle.st_text.proofs.Logic.{bound}
use Rattle.st_text.proofs.Runs.{joined, leading_passes, after_is, digits_tested}
use Rattle.st_dates.proofs.Scans.{glued_two, glued_three}
use Rattle.st_dates.proofs.DayForms.{day_in}

-- what a text was cut into that was read to a day
pub record Cut (text rest : List ℕ) (date : CalendarDate) : Type 0 where
  pub day : DayText
  pub parts : AreDayParts day
  pub whole : text ≡ day_spelling day ++ rest
  pub same : number_in date ≡ day_in day
  pub names : NamesDate day date

record DayCut (y m : ℕ) (text : List ℕ) (p : CalendarDate × List ℕ) : Type 0 where
  day : List ℕ
  day_digits : IsDigitRun 1 2 day
  whole : text ≡ day ++ p.1
  date_is : p.0 ≡ OfMonth y m (number_of day)

with_day_cut : (y m : ℕ) (text : List ℕ) (p : CalendarDate × List ℕ) → with_day y m text ≡ Some p → DayCut y m text p
unfolding with_day
with_day_cut y m text p e =
    elim (cases_Bool (is_digit_run 1 2 (leading_digits text))) [
      | inl h ↦
          let same : ◌≡◌ {A = CalendarDate × List ℕ} (OfMonth y m (number_of (leading_digits text)), past_digits text) p = same_Some _ p (rw h at e) in
          record {
            day = leading_digits text;
            day_digits = digits_tested 1 2 (leading_digits text) h;
            whole = sym (joined is_ascii_digit text) ∙ ap (λ (q : CalendarDate × List ℕ). leading_digits text ++ q.1) same;
            date_is = ap (λ (q : CalendarDate × List ℕ). q.0) (sym same);
          }
      | inr h ↦ absurd (let no = rw h at e in cc)
    ]

record YearCut (m d : ℕ) (text : List ℕ) (p : CalendarDate × List ℕ) : Type 0 where
  year : List ℕ
  year_digits : IsDigitRun 4 4 year
  whole : text ≡ year ++ p.1
  date_is : p.0 ≡ OfMonth (number_of year) m d

is_four : (n : ℕ) → (n == 4) ≡ true → n ≡ 4
is_four n h = grind (arith, nat_tests)

is_three : (n : ℕ) → (n == 3) ≡ true → n ≡ 3
is_three n h = grind (arith, nat_tests)

-- so many digits that a text begins with
counted : (n : ℕ) (text : List ℕ) → length (leading_digits text) ≡ n → IsDigitRun n n (leading_digits text)
counted n text e = record { digits = leading_passes is_ascii_digit text; at_least = omega arith; at_most = omega arith }

with_year_cut : (m d : ℕ) (text : List ℕ) (p : CalendarDate × List ℕ) → with_year m d text ≡ Some p → YearCut m d text p
unfolding with_year
with_year_cut m d text p e =
    elim (cases_Bool (length (leading_digits text) == 4)) [
      | inl h ↦
          let same : ◌≡◌ {A = CalendarDate × List ℕ} (OfMonth (number_of (leading_digits text)) m d, past_digits text) p = same_Some _ p (rw h at e) in
          record {
            year = leading_digits text;
            year_digits = counted 4 text (is_four (length (leading_digits text)) h);
            whole = sym (joined is_ascii_digit text) ∙ ap (λ (q : CalendarDate × List ℕ). leading_digits text ++ q.1) same;
            date_is = ap (λ (q : CalendarDate × List ℕ). q.0) (sym same);
          }
      | inr h ↦ absurd (let no = rw h at e in cc)
    ]

record MonthCut (text : List ℕ) (p : ℕ × List ℕ) : Type 0 where
  name : List ℕ
  named_by : NamesMonth name p.0
  whole : text ≡ name ++ (45 ∷ p.1)

month_cut_of : (text : List ℕ) (m : ℕ) (rest : List ℕ) (p : ℕ × List ℕ) → month_named (leading is_no_dash text) ≡ Some m → after 45 (behind is_no_dash text) ≡ Some rest → ◌≡◌ {A = ℕ × List ℕ} (m, rest) p → MonthCut text p
month_cut_of text m rest p e f same =
    let name = leading is_no_dash text in
    let whole : text ≡ name ++ (45 ∷ rest) = sym (joined is_no_dash text) ∙ ap (λ (t : List ℕ). name ++ t) (after_is 45 (behind is_no_dash text) rest f) in
    record {
      name = name;
      named_by = subst (λ (q : ℕ × List ℕ). NamesMonth name q.0) same (names name m e);
      whole = whole ∙ ap (λ (q : ℕ × List ℕ). name ++ (45 ∷ q.1)) same;
    }

month_cut : (text : List ℕ) (p : ℕ × List ℕ) → month_of_name text ≡ Some p → MonthCut text p
unfolding month_of_name
month_cut text p e =
    let last : ℕ → List ℕ → Option (ℕ × List ℕ) = λ m rest. Some (m, rest) in
    let next : ℕ → Option (ℕ × List ℕ) = λ m. after 45 (behind is_no_dash text) >>= λ rest. Some (m, rest) in
    let a = bound (month_named (leading is_no_dash text)) next p e in
    let b = bound (after 45 (behind is_no_dash text)) (last a.0) p a.2 in
    month_cut_of text a.0 b.0 p a.1 b.1 (same_Some _ p b.2)

-- a year and its dash, and a month and a day after it
named_cut : (year text : List ℕ) (q : ℕ × List ℕ) (p : CalendarDate × List ℕ) → IsDigitRun 4 4 year → MonthCut text q → DayCut (number_of year) q.0 q.1 p → Cut (year ++ (45 ∷ text)) p.1 p.0
unfolding number_in
named_cut year text q p h month day = record {
  day = named year month.name day.day;
  parts = (h, (q.0, month.named_by), day.day_digits);
  whole = glued_three year month.name day.day p.1 text q.1 month.whole day.whole;
  same = ap number_in day.date_is ∙ rw (only month.name q.0 month.named_by) refl;
  names = (q.0, month.named_by, day.date_is);
}

numeric_cut : (year month text mid : List ℕ) (p : CalendarDate × List ℕ) → IsDigitRun 4 4 year → IsDigitRun 1 2 month → text ≡ month ++ (45 ∷ mid) → DayCut (number_of year) (number_of month) mid p → Cut (year ++ (45 ∷ text)) p.1 p.0
unfolding number_in
numeric_cut year month text mid p h k e day = record {
  day = numeric year month day.day;
  parts = (h, k, day.day_digits);
  whole = glued_three year month day.day p.1 text mid e day.whole;
  same = ap number_in day.date_is;
  names = day.date_is;
}

of_year_cut : (year text : List ℕ) (p : CalendarDate × List ℕ) → IsDigitRun 4 4 year → length (leading_digits text) ≡ 3 → ◌≡◌ {A = CalendarDate × List ℕ} (OfYear (number_of year) (number_of (leading_digits text)), past_digits text) p → Cut (year ++ (45 ∷ text)) p.1 p.0
unfolding number_in
of_year_cut year text p h three same = record {
  day = of_year year (leading_digits text);
  parts = (h, counted 3 text three);
  whole = glued_two year (leading_digits text) p.1 text (sym (joined is_ascii_digit text) ∙ ap (λ (q : CalendarDate × List ℕ). leading_digits text ++ q.1) same);
  same = ap (λ (q : CalendarDate × List ℕ). number_in q.0) (sym same);
  names = ap (λ (q : CalendarDate × List ℕ). q.0) (sym same);
}

day_first_cut : (day text : List ℕ) (q : ℕ × List ℕ) (p : CalendarDate × List ℕ) → IsDigitRun 1 2 day → MonthCut text q → YearCut q.0 (number_of day) q.1 p → Cut (day ++ (45 ∷ text)) p.1 p.0
unfolding number_in
day_first_cut day text q p h month year = record {
  day = day_first day month.name year.year;
  parts = (h, (q.0, month.named_by), year.year_digits);
  whole = glued_three day month.name year.year p.1 text q.1 month.whole year.whole;
  same = ap number_in year.date_is ∙ rw (only month.name q.0 month.named_by) refl;
  names = (q.0, month.named_by, year.date_is);
}

-- the text after digits and a byte
behind_byte : (text t : List ℕ) → after 45 (past_digits text) ≡ Some t → text ≡ leading_digits text ++ (45 ∷ t)
behind_byte text t e =
    sym (joined is_ascii_digit text) ∙ ap (λ (r : List ℕ). leading_digits text ++ r) (after_is 45 (past_digits text) t e)

year_first_cut : (year text : List ℕ) (p : CalendarDate × List ℕ) → IsDigitRun 4 4 year → year_first (number_of year) text ≡ Some p → Cut (year ++ (45 ∷ text)) p.1 p.0
unfolding year_first
year_first_cut year text p h e =
    elim (cases_Bool (length (leading_digits text) == 0)) [
      | inl none ↦
          let next : ℕ × List ℕ → Option (CalendarDate × List ℕ) = λ q. with_day (number_of year) q.0 q.1 in
          let a = bound (month_of_name text) next p (rw none at e) in
          named_cut year text a.0 p h (month_cut text a.0 a.1) (with_day_cut (number_of year) a.0.0 a.0.1 p a.2)
      | inr some ↦
          let e1 = rw some at e in
          elim (cases_Bool (length (leading_digits text) == 3)) [
            | inl three ↦ of_year_cut year text p h (is_three (length (leading_digits text)) three) (same_Some _ p (rw three at e1))
            | inr other ↦
                let e2 = rw other at e1 in
                elim (cases_Bool (is_digit_run 1 2 (leading_digits text))) [
                  | inl short ↦
                      let next : List ℕ → Option (CalendarDate × List ℕ) = λ t. with_day (number_of year) (number_of (leading_digits text)) t in
                      let a = bound (after 45 (past_digits text)) next p (rw short at e2) in
                      numeric_cut year (leading_digits text) text a.0 p h (digits_tested 1 2 (leading_digits text) short) (behind_byte text a.0 a.1) (with_day_cut (number_of year) (number_of (leading_digits text)) a.0 p a.2)
                  | inr long ↦ absurd (let no = rw long at e2 in cc)
                ]
          ]
    ]

month_next_cut : (day text : List ℕ) (p : CalendarDate × List ℕ) → IsDigitRun 1 2 day → month_next (number_of day) text ≡ Some p → Cut (day ++ (45 ∷ text)) p.1 p.0
unfolding month_next
month_next_cut day text p h e =
    let next : ℕ × List ℕ → Option (CalendarDate × List ℕ) = λ q. with_year q.0 (number_of day) q.1 in
    let a = bound (month_of_name text) next p e in
    day_first_cut day text a.0 p h (month_cut text a.0 a.1) (with_year_cut a.0.0 (number_of day) a.0.1 p a.2)

-- the same of a text that is equal
of_equal : (a b rest : List ℕ) (date : CalendarDate) → a ≡ b → Cut b rest date → Cut a rest date
of_equal a b rest date e c = record { day = c.day; parts = c.parts; whole = e ∙ c.whole; same = c.same; names = c.names }

pub day_cut : (text : List ℕ) (p : CalendarDate × List ℕ) → day_of_text text ≡ Some p → Cut text p.1 p.0
unfolding day_of_text
day_cut text p e =
    elim (cases_Bool (length (leading_digits text) == 4)) [
      | inl four ↦
          let next : List ℕ → Option (CalendarDate × List ℕ) = λ t. year_first (number_of (leading_digits text)) t in
          let a = bound (after 45 (past_digits text)) next p (rw four at e) in
          of_equal text (leading_digits text ++ (45 ∷ a.0)) p.1 p.0 (behind_byte text a.0 a.1) (year_first_cut (leading_digits text) a.0 p (counted 4 text (is_four (length (leading_digits text)) four)) a.2)
      | inr other ↦
          let e1 = rw other at e in
          elim (cases_Bool (is_digit_run 1 2 (leading_digits text))) [
            | inl short ↦
                let next : List ℕ → Option (CalendarDate × List ℕ) = λ t. month_next (number_of (leading_digits text)) t in
                let a = bound (after 45 (past_digits text)) next p (rw short at e1) in
                of_equal text (leading_digits text ++ (45 ∷ a.0)) p.1 p.0 (behind_byte text a.0 a.1) (month_next_cut (leading_digits text) a.0 p (digits_tested 1 2 (leading_digits text) short) a.2)
            | inr long ↦ absurd (let no = rw long at e1 in cc)
          ]
    ]
