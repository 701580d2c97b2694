-- A spelled time is read.
use Rattle.std.proofs.Common.{◌≡◌, ℕ, Bool, true, false, ◌||◌, ◌==◌, ◌≤◌, inl, inr, refl, sym, ap, ◌∙◌, subst, arith, List, [], ◌∷◌, ◌++◌, length, Option, Some, None, append_assoc}
use Rattle.std.specs.Prelude.{codes}
use Rattle.std.proofs.lemmas.Bool.{cases_Bool}
use Rattle.std.proofs.lemmas.Bool.Decides.{nat_tests}
use Rattle.std.specs.Char.{is_ascii_digit}
use Rattle.std.specs.List.{list_all}
use Rattle.st_text.specs.Bytes.{is_blank, are_blanks, are_digits}
use Rattle.st_text.proofs.Logic.{and-left}
use Rattle.st_text.proofs.Runs.{Stops, leading-pass}
use Rattle.st_dates.specs.DayText.{NamesDate}
use Rattle.st_dates.specs.Names.{AreSameLetters, lowered, NamesMonth}
use Rattle.st_dates.specs.NamesMachine.{month_from, month_named}
use Rattle.st_dates.specs.Names.{month_names}
use Rattle.st_dates.specs.TimeText.{TimeText, time_spelling}
use Rattle.st_dates.specs.TimeTextMachine.{decimal_units}
use Rattle.st_dates.specs.declared.clock.TimeOfDay.{TimeOfDay}
use Rattle.st_dates.specs.declared.day_text.CalendarDate.{CalendarDate}
use Rattle.st_dates.specs.declared.system.System.{System}
use Rattle.st_dates.proofs.NameLaws.{only, is_letter, same_letters, same_length, letters_pass, name_letters, name_some}
use Rattle.st_decimal.specs.Number.{pointed}
use Rattle.st_decimal.specs.Value.{is_minus, signed}
use Rattle.st_forms.specs.DateForm.{DateText, year_month_day, year_place, year_name_day, day_name_year, name_day_year, month_day_year, dashes, gaps, date_spelling, day_text, IsGap, AreDateParts}
use Rattle.st_forms.specs.DateMachine.{date_of_text}
use Rattle.st_forms.specs.NumberForm.{NumberText, number_spelling, AreDecimals, AreNumberParts}
use Rattle.st_forms.specs.NumberMachine.{number_of_text}
use Rattle.st_forms.specs.Reading.{Written, calendar, julian, plain, spelling, IsSign, AreParts, julian_instant}
use Rattle.st_forms.specs.ReadingMachine.{past_sign, seconds_of_text, julian_days, julian_of_text, dated_of_text, reading_of}
use Rattle.st_forms.specs.Scale.{ScaleText, scale_spelling, AreScaleParts}
use Rattle.st_forms.specs.TailMachine.{is_word, scale_of_text, tail_of_text}
use Rattle.st_forms.specs.WordMachine.{is_no_blank, word, past_word, past_gap}
use Rattle.st_forms.specs.declared.reading.Reading.{Reading}
use Rattle.st_forms.specs.declared.reading.Reading.TheVariants.{Dated, Julian, Plain}
use Rattle.st_forms.proofs.Cutting.{gap_at, gap_no_digit, gap_ends, digit_no_blank, letter_no_blank, letter_no_digit, no_blank, word_at, past_word_at}
use Rattle.st_forms.proofs.DateForms.{date_read}
use Rattle.st_forms.proofs.Numbers.{read_units, number_read, number_stops, number_none}
use Rattle.st_forms.proofs.Tails.{NamesScale, scale_read, scale_ends, digits_blankless, blankless_both, time_of, tail_read, tail_stops, word_tested, word_passes}

-- what was read of a written time
abbrev pub IsReadingOf : Written → Reading → Type 0
IsReadingOf (calendar date written scale) (Dated d t o) =
    NamesDate (day_text date) d × (t ≡ time_of written) × NamesScale scale o
IsReadingOf (calendar date written scale) (Julian z o) = ⊥
IsReadingOf (calendar date written scale) (Plain z) = ⊥
IsReadingOf (julian mark gap days scale) (Julian z o) =
    (z ≡ julian_instant (read_units days)) × NamesScale scale o
IsReadingOf (julian mark gap days scale) (Dated d t o) = ⊥
IsReadingOf (julian mark gap days scale) (Plain z) = ⊥
IsReadingOf (plain sign seconds) (Plain z) = z ≡ signed (is_minus sign) (read_units seconds)
IsReadingOf (plain sign seconds) (Dated d t o) = ⊥
IsReadingOf (plain sign seconds) (Julian z o) = ⊥

-- a text that is neither plain seconds nor a Julian date
record NoOther (text : List ℕ) : Type 0 where
  seconds : seconds_of_text text ≡ None
  julian_date : julian_of_text text ≡ None

no_seconds : (text : List ℕ) → number_of_text (past_sign text) ≡ None → seconds_of_text text ≡ None
unfolding seconds_of_text
no_seconds text e = rw e refl

no_julian : (text : List ℕ) → is_word (word text) (codes "JD") ≡ false → julian_of_text text ≡ None
unfolding julian_of_text
no_julian text e = rw e refl

digit_no_sign : (b : ℕ) → is_ascii_digit b ≡ true → ((b == 43) || (b == 45)) ≡ false
digit_no_sign b h = grind (arith, nat_tests)

letter_no_sign : (b : ℕ) → is_letter b ≡ true → ((b == 43) || (b == 45)) ≡ false
letter_no_sign b h = grind (arith, nat_tests)

unsigned : (b : ℕ) (t : List ℕ) → ((b == 43) || (b == 45)) ≡ false → past_sign (b ∷ t) ≡ b ∷ t
unfolding past_sign
unsigned b t h = rw h refl

-- a word that begins with a digit isn't `JD`
digit_word : (b : ℕ) (t : List ℕ) → is_ascii_digit b ≡ true → word (b ∷ t) ≡ b ∷ word t
digit_word b t h = leading-pass is_no_blank b t (no_blank b (digit_no_blank b h))

digit_no_jd : (b : ℕ) (t : List ℕ) → is_ascii_digit b ≡ true → is_word (word (b ∷ t)) (codes "JD") ≡ false
digit_no_jd b t h =
    elim (cases_Bool (is_word (word (b ∷ t)) (codes "JD"))) [
      | inl e ↦
          let all : list_all is_letter (word (b ∷ t)) ≡ true = same_letters (word (b ∷ t)) (codes "JD") (word_passes (word (b ∷ t)) (codes "JD") e) refl in
          let first : list_all is_letter (b ∷ word t) ≡ true = rw (digit_word b t h) at all in
          let other = letter_no_digit b (and-left (is_letter b) (list_all is_letter (word t)) first) in
          absurd (cc)
      | inr f ↦ f
    ]

no_point : (b : ℕ) (t : List ℕ) → (b == 46) ≡ false → decimal_units (b ∷ t) ≡ None
unfolding decimal_units
no_point b t h = rw h refl

blank_no_point : (b : ℕ) → is_blank b ≡ true → (b == 46) ≡ false
blank_no_point b h = grind (arith, nat_tests)

gap_no_point : (gap rest : List ℕ) → IsGap gap → decimal_units (gap ++ rest) ≡ None
gap_no_point [] rest h = absurd (let n : 1 ≤ 0 = h.some in omega arith)
gap_no_point (b ∷ gap) rest h = no_point b (gap ++ rest) (blank_no_point b (and-left (is_blank b) (are_blanks gap) h.blanks))

-- digits and what is no decimal after them
digits_led : (text digits rest : List ℕ) → are_digits digits ≡ true → 1 ≤ length digits → text ≡ digits ++ rest → Stops is_ascii_digit rest → decimal_units rest ≡ None → NoOther text
digits_led text [] rest h some e s other = absurd (let n : 1 ≤ 0 = some in omega arith)
digits_led text (b ∷ t) rest h some e s other =
    let digit = and-left (is_ascii_digit b) (are_digits t) h in
    let bare = unsigned b (t ++ rest) (digit_no_sign b digit) in
    subst (λ (v : List ℕ). NoOther v) (sym e)
    (record {
      seconds = no_seconds ((b ∷ t) ++ rest) (ap number_of_text bare ∙ number_stops (b ∷ t) rest h s other);
      julian_date = no_julian ((b ∷ t) ++ rest) (digit_no_jd b (t ++ rest) digit);
    })

-- letters that are no `JD`
letters_led : (text letters rest : List ℕ) → list_all is_letter letters ≡ true → 1 ≤ length letters → text ≡ letters ++ rest → number_of_text (past_sign text) ≡ None
letters_led text [] rest h some e = absurd (let n : 1 ≤ 0 = some in omega arith)
letters_led text (b ∷ t) rest h some e =
    let letter = and-left (is_letter b) (list_all is_letter t) h in
    subst (λ (v : List ℕ). number_of_text (past_sign v) ≡ None) (sym e)
    (ap number_of_text (unsigned b (t ++ rest) (letter_no_sign b letter)) ∙ number_none (b ∷ (t ++ rest)) (letter_no_digit b letter))

month_no_jd : (name : List ℕ) (m : ℕ) → NamesMonth name m → is_word name (codes "JD") ≡ false
unfolding month_from
month_no_jd name m n =
    elim (cases_Bool (is_word name (codes "JD"))) [
      | inl e ↦
          let same : lowered name ≡ lowered (codes "JD") = word_passes name (codes "JD") e in
          let none : month_named name ≡ None = ap (λ (t : List ℕ). month_from 1 t month_names) same in
          let found = only name m n in
          absurd (cc)
      | inr f ↦ f
    ]

apart : (a b c : List ℕ) → (a ++ b) ++ c ≡ a ++ (b ++ c)
apart a b c = simp append_assoc

apart_twice : (a b c d : List ℕ) → (a ++ (b ++ c)) ++ d ≡ a ++ (b ++ (c ++ d))
apart_twice a b c d = simp append_assoc

letters_blankless : (t : List ℕ) → list_all is_letter t ≡ true → list_all is_no_blank t ≡ true
letters_blankless t h = letters_pass is_no_blank (λ b k. no_blank b (letter_no_blank b k)) t h

-- a date is neither
date_led : (date : DateText) (tail : List ℕ) → AreDateParts date → NoOther (date_spelling date ++ tail)
date_led (year_month_day year month day) tail ((hy, hm, hd), s) =
    let rest = 45 ∷ (month ++ (45 ∷ day)) in
    digits_led _ year (rest ++ tail) hy.digits (omega (arith, hy.at_least)) (apart year rest tail) refl (no_point 45 ((month ++ (45 ∷ day)) ++ tail) refl)
date_led (year_place year place) tail ((hy, hp), s) =
    let rest = 45 ∷ place in
    digits_led _ year (rest ++ tail) hy.digits (omega (arith, hy.at_least)) (apart year rest tail) refl (no_point 45 (place ++ tail) refl)
date_led (year_name_day year dashes name day) tail ((hy, hn, hd), s) =
    let rest = 45 ∷ (name ++ (45 ∷ day)) in
    digits_led _ year (rest ++ tail) hy.digits (omega (arith, hy.at_least)) (apart year rest tail) refl (no_point 45 ((name ++ (45 ∷ day)) ++ tail) refl)
date_led (day_name_year day dashes name year) tail ((hy, hn, hd), s) =
    let rest = 45 ∷ (name ++ (45 ∷ year)) in
    digits_led _ day (rest ++ tail) hd.digits hd.at_least (apart day rest tail) refl (no_point 45 ((name ++ (45 ∷ year)) ++ tail) refl)
date_led (year_name_day year (gaps s t) name day) tail ((hy, hn, hd), (hs, ht)) =
    let rest = name ++ (t ++ day) in
    digits_led _ year (s ++ (rest ++ tail)) hy.digits (omega (arith, hy.at_least)) (apart_twice year s rest tail) (gap_no_digit s (rest ++ tail) hs) (gap_no_point s (rest ++ tail) hs)
date_led (day_name_year day (gaps s t) name year) tail ((hy, hn, hd), (hs, ht)) =
    let rest = name ++ (t ++ year) in
    digits_led _ day (s ++ (rest ++ tail)) hd.digits hd.at_least (apart_twice day s rest tail) (gap_no_digit s (rest ++ tail) hs) (gap_no_point s (rest ++ tail) hs)
date_led (month_day_year month day year) tail ((hy, hm, hd), s) =
    let rest = 47 ∷ (day ++ (47 ∷ year)) in
    digits_led _ month (rest ++ tail) hm.digits hm.at_least (apart month rest tail) refl (no_point 47 ((day ++ (47 ∷ year)) ++ tail) refl)
date_led (name_day_year name gap day blanks year) tail ((hy, hn, hd), (hg, hb)) =
    let rest = day ++ (44 ∷ (blanks ++ year)) in
    let text = (name ++ (gap ++ rest)) ++ tail in
    let e = apart_twice name gap rest tail in
    let letters = name_letters name hn.0 hn.1 in
    let is_name : word text ≡ name = ap word e ∙ word_at name (gap ++ (rest ++ tail)) (letters_blankless name letters) (gap_ends gap (rest ++ tail) hg) in
    record {
      seconds = no_seconds text (letters_led text name (gap ++ (rest ++ tail)) letters (name_some name hn.0 hn.1) e);
      julian_date = no_julian text (ap (λ (w : List ℕ). is_word w (codes "JD")) is_name ∙ month_no_jd name hn.0 hn.1);
    }

-- what a spelled time is read to
pub record ReadingRead (w : Written) : Type 0 where
  pub reading : Reading
  pub read : reading_of (spelling w) ≡ Some reading
  pub is : IsReadingOf w reading

first_read : (text : List ℕ) (r : Reading) → seconds_of_text text ≡ Some r → reading_of text ≡ Some r
unfolding reading_of
first_read text r e = rw e refl

second_read : (text : List ℕ) (r : Reading) → seconds_of_text text ≡ None → julian_of_text text ≡ Some r → reading_of text ≡ Some r
unfolding reading_of
second_read text r e f = rw (e, f) refl

third_read : (text : List ℕ) (r : Reading) → seconds_of_text text ≡ None → julian_of_text text ≡ None → dated_of_text text ≡ Some r → reading_of text ≡ Some r
unfolding reading_of
third_read text r e f g = rw (e, f, g) refl

dated_then : (text rest : List ℕ) (d : CalendarDate) (t : TimeOfDay) (o : Option System) → date_of_text text ≡ Some (d, rest) → tail_of_text rest ≡ Some (t, o) → dated_of_text text ≡ Some (Dated d t o)
unfolding dated_of_text
dated_then text rest d t o e f = rw (e, f) refl

julian_then : (text u : List ℕ) (r : Reading) → is_word (word text) (codes "JD") ≡ true → past_gap (past_word text) ≡ Some u → julian_days u ≡ Some r → julian_of_text text ≡ Some r
unfolding julian_of_text
julian_then text u r e f g = rw (e, f, g) refl

days_then : (text : List ℕ) (n : ℕ) (o : Option System) → number_of_text (word text) ≡ Some n → scale_of_text (past_word text) ≡ Some o → julian_days text ≡ Some (Julian (julian_instant n) o)
unfolding julian_days
days_then text n o e f = rw (e, f) refl

seconds_then : (text : List ℕ) (n : ℕ) → number_of_text (past_sign text) ≡ Some n → seconds_of_text text ≡ Some (Plain (signed (is_minus text) n))
unfolding seconds_of_text
seconds_then text n e = rw e refl

pointed_blankless : (o : Option (List ℕ)) → AreDecimals o → list_all is_no_blank (pointed o) ≡ true
pointed_blankless None h = refl
pointed_blankless (Some digits) h = digits_blankless digits h.digits

number_blankless : (n : NumberText) → AreNumberParts n → list_all is_no_blank (number_spelling n) ≡ true
number_blankless n h =
    blankless_both n.whole (pointed n.decimals) (digits_blankless n.whole h.digits) (pointed_blankless n.decimals h.decimals)

digits_lead : (p : ℕ → Bool) → ((b : ℕ) → is_ascii_digit b ≡ true → p b ≡ false) → (whole x rest : List ℕ) → are_digits whole ≡ true → 1 ≤ length whole → Stops p ((whole ++ x) ++ rest)
digits_lead p each [] x rest h some = absurd (let n : 1 ≤ 0 = some in omega arith)
digits_lead p each (b ∷ t) x rest h some = each b (and-left (is_ascii_digit b) (are_digits t) h)

-- a decimal has no sign
unsigned_number : (whole x : List ℕ) → are_digits whole ≡ true → 1 ≤ length whole → past_sign (whole ++ x) ≡ whole ++ x
unsigned_number [] x h some = absurd (let n : 1 ≤ 0 = some in omega arith)
unsigned_number (b ∷ t) x h some = unsigned b (t ++ x) (digit_no_sign b (and-left (is_ascii_digit b) (are_digits t) h))

digit_no_minus : (b : ℕ) → is_ascii_digit b ≡ true → (b == 45) ≡ false
digit_no_minus b h = grind (arith, nat_tests)

no_minus : (whole x : List ℕ) → are_digits whole ≡ true → 1 ≤ length whole → is_minus (whole ++ x) ≡ false
no_minus [] x h some = absurd (let n : 1 ≤ 0 = some in omega arith)
no_minus (b ∷ t) x h some = digit_no_minus b (and-left (is_ascii_digit b) (are_digits t) h)

plus_sign : (t : List ℕ) → past_sign (43 ∷ t) ≡ t
unfolding past_sign
plus_sign t = refl

minus_sign : (t : List ℕ) → past_sign (45 ∷ t) ≡ t
unfolding past_sign
minus_sign t = refl

-- plain seconds by their sign
abbrev IsPlainRead : List ℕ → NumberText → Type 0
IsPlainRead sign seconds =
    (past_sign (sign ++ number_spelling seconds) ≡ number_spelling seconds)
    × (is_minus (sign ++ number_spelling seconds) ≡ is_minus sign)

sign_read : (sign : List ℕ) (seconds : NumberText) → IsSign sign → AreNumberParts seconds → IsPlainRead sign seconds
sign_read sign seconds h k =
    let text = number_spelling seconds in
    let P : List ℕ → Type 0 = λ s. IsPlainRead s seconds in
    elim h [
      | inl e ↦ subst P (sym e) (unsigned_number seconds.whole (pointed seconds.decimals) k.digits k.some, no_minus seconds.whole (pointed seconds.decimals) k.digits k.some)
      | inr h ↦ elim h [
        | inl e ↦ subst P (sym e) (plus_sign text, refl)
        | inr e ↦ subst P (sym e) (minus_sign text, refl)
      ]
    ]

plain_read : (sign : List ℕ) (seconds : NumberText) → IsSign sign → AreNumberParts seconds → ReadingRead (plain sign seconds)
plain_read sign seconds h k =
    let text = sign ++ number_spelling seconds in
    let r = sign_read sign seconds h k in
    record {
      reading = Plain (signed (is_minus text) (read_units seconds));
      read = first_read text _ (seconds_then text (read_units seconds) (ap number_of_text r.0 ∙ number_read seconds k));
      is = ap (λ (b : Bool). signed b (read_units seconds)) r.1;
    }

julian_read : (mark gap : List ℕ) (days : NumberText) (scale : ScaleText) → AreSameLetters mark (codes "JD") → IsGap gap → AreNumberParts days → AreScaleParts scale → ReadingRead (julian mark gap days scale)
julian_read mark gap days scale hm hg hd hs =
    let behind = number_spelling days ++ scale_spelling scale in
    let text = mark ++ (gap ++ behind) in
    let letters = same_letters mark (codes "JD") hm refl in
    let some : 1 ≤ length mark = omega (arith, same_length mark (codes "JD") hm) in
    let blankless = letters_blankless mark letters in
    let ends = gap_ends gap behind hg in
    let s = scale_read scale hs in
    let all = number_blankless days hd in
    let stop = scale_ends scale hs in
    let is_jd : is_word (word text) (codes "JD") ≡ true = ap (λ (w : List ℕ). is_word w (codes "JD")) (word_at mark (gap ++ behind) blankless ends) ∙ word_tested mark (codes "JD") hm in
    let past : past_gap (past_word text) ≡ Some behind = ap past_gap (past_word_at mark (gap ++ behind) blankless ends) ∙ gap_at gap behind hg (digits_lead is_blank digit_no_blank days.whole (pointed days.decimals) (scale_spelling scale) hd.digits hd.some) in
    let number : number_of_text (word behind) ≡ Some (read_units days) = ap number_of_text (word_at (number_spelling days) (scale_spelling scale) all stop) ∙ number_read days hd in
    let named : scale_of_text (past_word behind) ≡ Some s.system = ap scale_of_text (past_word_at (number_spelling days) (scale_spelling scale) all stop) ∙ s.read in
    record {
      reading = Julian (julian_instant (read_units days)) s.system;
      read = second_read text _ (no_seconds text (letters_led text mark (gap ++ behind) letters some refl)) (julian_then text behind _ is_jd past (days_then behind (read_units days) s.system number named));
      is = (refl, s.names);
    }

calendar_read : (date : DateText) (written : TimeText) (scale : ScaleText) → AreParts (calendar date written scale) → ReadingRead (calendar date written scale)
calendar_read date written scale (hd, ht, hs) =
    let tail = time_spelling written ++ scale_spelling scale in
    let d = date_read date tail hd (tail_stops written scale ht hs) in
    let t = tail_read written scale ht hs in
    let led = date_led date tail hd in
    record {
      reading = Dated d.date (time_of written) t.system;
      read = third_read (date_spelling date ++ tail) _ led.seconds led.julian_date (dated_then (date_spelling date ++ tail) tail d.date (time_of written) t.system d.read t.read);
      is = (d.names, refl, t.names);
    }

pub reading_read : (w : Written) → AreParts w → ReadingRead w
reading_read (calendar date written scale) h = calendar_read date written scale h
reading_read (julian mark gap days scale) (hm, hg, hd, hs) = julian_read mark gap days scale hm hg hd hs
reading_read (plain sign seconds) (hs, hn) = plain_read sign seconds hs hn
