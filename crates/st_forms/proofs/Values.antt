-- What was read has the value of the written time, and the same first refusal.
use Rattle.std.proofs.Common.{◌≡◌, ◌≢◌, ℕ, Bool, true, false, not, ◌+◌, ◌*◌, ◌^◌, ◌≤◌, ◌==◌, ◌&&◌, ◌⊎◌, nat_le, inl, inr, refl, sym, ap, ◌∙◌, subst, arith, min, List, ℤ, pos, Option, Some, None, Result, Ok, Err}
use Rattle.std.proofs.lemmas.Bool.{cases_Bool}
use Rattle.std.proofs.lemmas.Bool.Decides.{nat_tests}
use Rattle.std.proofs.lemmas.Int.{ints}
use Rattle.std.proofs.lemmas.Option.{same_Some}
use Rattle.st_text.specs.Bytes.{number_of}
use Rattle.st_text.proofs.Logic.{tested, passed}
use Rattle.st_dates.specs.AtDateMachine.{is_in_range}
use Rattle.st_dates.specs.DayText.{DayText, numeric, named, of_year, NamesDate}
use Rattle.st_dates.specs.DayText.{day_first as day_of_kernel}
use Rattle.st_dates.specs.DayTextMachine.{number_in}
use Rattle.st_dates.specs.Label.{formal}
use Rattle.st_dates.specs.Range.{IsInRange}
use Rattle.st_dates.specs.TimeText.{TimeText, midnight, after_mark, time_units, minute_of, second_units}
use Rattle.st_dates.specs.TimeTextMachine.{day_units}
use Rattle.st_dates.specs.declared.clock.TimeOfDay.{TimeOfDay}
use Rattle.st_dates.specs.declared.day_text.CalendarDate.{CalendarDate}
use Rattle.st_dates.specs.declared.label.Label.{Label}
use Rattle.st_dates.specs.declared.label.TheConstants.{FIRST, LAST}
use Rattle.st_dates.proofs.DayForms.{day_in, day_found, day_is_found}
use Rattle.st_dates.proofs.NameLaws.{only}
use Rattle.st_decimal.specs.Value.{is_minus, signed}
use Rattle.st_forms.specs.DateForm.{DateText, day_text}
use Rattle.st_forms.specs.NumberForm.{NumberText, number_units, decimal_part}
use Rattle.st_forms.specs.Reading.{Written, calendar, julian, plain, IsLabelOf, julian_instant, IsValueOf, StandsFor}
use Rattle.st_forms.specs.ReadingMachine.{is_no_second, labelled, on_day, ranged, value_of}
use Rattle.st_forms.specs.Scale.{ScaleText}
use Rattle.st_forms.specs.TimeForm.{IsNoSecond}
use Rattle.st_forms.specs.declared.fault.FormFault.{FormFault}
use Rattle.st_forms.specs.declared.fault.FormFault.TheVariants.{BadTime, WrongSystem, NoSuchDay, OutOfRange}
use Rattle.st_forms.specs.declared.reading.Reading.{Reading}
use Rattle.st_forms.specs.declared.reading.Reading.TheVariants.{Dated, Julian, Plain}
use Rattle.st_forms.specs.declared.time.TimeText.{TimeText as Time}
use Rattle.st_forms.specs.declared.time.TimeText.TheVariants.{Label as OfLabel, Instant, NoSecond}
use Rattle.st_forms.proofs.Numbers.{read_units}
use Rattle.st_forms.proofs.ReadingForms.{IsReadingOf}
use Rattle.st_forms.proofs.Tails.{time_of}

-- what a time of a good form and system may be answered
abbrev pub ValueAnswer : Written → Result Time FormFault → Type 0
ValueAnswer w (Ok time) = ((z : ℤ) × IsValueOf w z × IsInRange z) × StandsFor w time
ValueAnswer w (Err BadTime) = ⊥
ValueAnswer w (Err WrongSystem) = ⊥
ValueAnswer w (Err NoSuchDay) = (z : ℤ) → IsValueOf w z → ⊥
ValueAnswer w (Err OutOfRange) = (z : ℤ) × IsValueOf w z × (IsInRange z → ⊥)

in_range : (z : ℤ) → IsInRange z → is_in_range z ≡ true
in_range z h = tested FIRST LAST z h.0 h.1

out_of_range : (z : ℤ) → (IsInRange z → ⊥) → is_in_range z ≡ false
out_of_range z h =
    elim (cases_Bool (is_in_range z)) [
      | inl t ↦ absurd (h (passed FIRST LAST z t))
      | inr f ↦ f
    ]

lies : (z : ℤ) → is_in_range z ≡ true → IsInRange z
lies z h = passed FIRST LAST z h

lies_not : (z : ℤ) → is_in_range z ≡ false → IsInRange z → ⊥
lies_not z f h = let t = in_range z h in absurd cc

-- the number of the date that a written day names
named_number : (w : DayText) (date : CalendarDate) → NamesDate w date → number_in date ≡ day_in w
unfolding number_in
named_number (numeric year month day) date e = ap number_in e
named_number (named year name day) date (m, n, e) = ap number_in e ∙ rw (only name m n) refl
named_number (day_of_kernel day name year) date (m, n, e) = ap number_in e ∙ rw (only name m n) refl
named_number (of_year year place) date e = ap number_in e

units_same : (written : TimeText) (t : TimeOfDay) → t ≡ time_of written → day_units t ≡ time_units written
units_same midnight t e = ap day_units e
units_same (after_mark mark clock) t e = ap day_units e

second_tested : (minute units : ℕ) → 60 * 10 ^ 18 ≤ units → minute ≢ 1439 → (nat_le (60 * 10 ^ 18) units && not (minute == 1439)) ≡ true
second_tested minute units h k = grind (arith, nat_tests)

second_passes : (minute units : ℕ) → (nat_le (60 * 10 ^ 18) units && not (minute == 1439)) ≡ true → (60 * 10 ^ 18 ≤ units) × (minute ≢ 1439)
second_passes minute units h = grind (arith, nat_tests)

no_second : (written : TimeText) (t : TimeOfDay) → t ≡ time_of written → IsNoSecond written → is_no_second t ≡ true
no_second midnight t e h = absurd h
no_second (after_mark mark clock) t e h =
    ap is_no_second e ∙ second_tested (minute_of clock) (second_units clock) h.0 h.1

is_second : (written : TimeText) (t : TimeOfDay) → t ≡ time_of written → is_no_second t ≡ true → IsNoSecond written
is_second midnight t e h = absurd (let none : is_no_second t ≡ false = ap is_no_second e in cc)
is_second (after_mark mark clock) t e h =
    second_passes (minute_of clock) (second_units clock) (sym (ap is_no_second e) ∙ h)

some_second : (written : TimeText) (t : TimeOfDay) → t ≡ time_of written → (IsNoSecond written → ⊥) → is_no_second t ≡ false
some_second written t e h =
    elim (cases_Bool (is_no_second t)) [
      | inl k ↦ absurd (h (is_second written t e k))
      | inr k ↦ k
    ]

-- the label of a day and a time
abbrev label_at : ℤ → TimeOfDay → Label
label_at day t = record { day = day; of_day = pos (day_units t) }

-- a calendar date that was read
record IsDated (date : DateText) (written : TimeText) (d : CalendarDate) (t : TimeOfDay) : Type 0 where
  names : NamesDate (day_text date) d
  time_is : t ≡ time_of written

is_label : (date : DateText) (written : TimeText) (d : CalendarDate) (t : TimeOfDay) (day : ℤ) → IsDated date written d t → number_in d ≡ Some day → IsLabelOf date written (label_at day t)
is_label date written d t day h e =
    (day_is_found (day_text date) day (sym (named_number (day_text date) d h.names) ∙ e), ap pos (units_same written t h.time_is))

same_label : (label : Label) (day of_day : ℤ) → label.day ≡ day → label.of_day ≡ of_day → record { day = day; of_day = of_day } ≡ label
same_label label day of_day e f =
    sym (ap (λ (x : ℤ). record label { day = x }) e ∙ ap (λ (x : ℤ). record label { day = day; of_day = x }) f)

-- a label of the date is the one that is made
only_label : (date : DateText) (written : TimeText) (d : CalendarDate) (t : TimeOfDay) (label : Label) → IsDated date written d t → IsLabelOf date written label → (number_in d ≡ Some label.day) × (label_at label.day t ≡ label)
only_label date written d t label h (day, of_day) = (
  named_number (day_text date) d h.names ∙ day_found (day_text date) label.day day,
  same_label label label.day (pos (day_units t)) refl (of_day ∙ ap pos (sym (units_same written t h.time_is))),
)

answer_labelled : (date : DateText) (written : TimeText) (scale : ScaleText) (d : CalendarDate) (t : TimeOfDay) (label : Label) → IsDated date written d t → IsLabelOf date written label → ValueAnswer (calendar date written scale) (labelled t label)
answer_labelled date written scale d t label h l =
    let w = calendar date written scale in
    let P : Result Time FormFault → Type 0 = λ a. ValueAnswer w a in
    elim (cases_Bool (is_in_range (formal label))) [
      | inr out ↦ rw out (formal label, (label, l, refl), lies_not (formal label) out)
      | inl inside ↦ elim (cases_Bool (is_no_second t)) [
        | inl none ↦ rw (inside, none) ((formal label, (label, l, refl), lies (formal label) inside), is_second written t h.time_is none)
        | inr some ↦ rw (inside, some) ((formal label, (label, l, refl), lies (formal label) inside), (l, λ k. let no = no_second written t h.time_is k in absurd cc))
      ]
    ]

answer_dated : (date : DateText) (written : TimeText) (scale : ScaleText) (d : CalendarDate) (t : TimeOfDay) (o : Option ℤ) → IsDated date written d t → number_in d ≡ o → ValueAnswer (calendar date written scale) (on_day t o)
answer_dated date written scale d t None h e =
    λ z (label, l, f). let k = only_label date written d t label h l in absurd (let one = k.0 in cc)
answer_dated date written scale d t (Some day) h e =
    answer_labelled date written scale d t (label_at day t) h (is_label date written d t day h e)

-- two instants that are the same, or both out of the range
abbrev AreAlike : ℤ → ℤ → Type 0
AreAlike a b = (a ≡ b) ⊎ ((IsInRange a → ⊥) × (IsInRange b → ⊥))

labelled_out : (t : TimeOfDay) (label : Label) → (IsInRange (formal label) → ⊥) → labelled t label ≡ Err OutOfRange
labelled_out t label h = rw (out_of_range (formal label) h) refl

labelled_none : (t : TimeOfDay) (label : Label) → IsInRange (formal label) → is_no_second t ≡ true → labelled t label ≡ Ok NoSecond
labelled_none t label h k = rw (in_range (formal label) h, k) refl

labelled_some : (t : TimeOfDay) (label : Label) → IsInRange (formal label) → is_no_second t ≡ false → labelled t label ≡ Ok (OfLabel label)
labelled_some t label h k = rw (in_range (formal label) h, k) refl

-- the day is there: what is made of it
on_label : (date : DateText) (written : TimeText) (d : CalendarDate) (t : TimeOfDay) (label : Label) → IsDated date written d t → IsLabelOf date written label → on_day t (number_in d) ≡ labelled t label
on_label date written d t label h l =
    let k = only_label date written d t label h l in
    ap (on_day t) k.0 ∙ ap (labelled t) k.1

one_label : (date : DateText) (written : TimeText) (d : CalendarDate) (t : TimeOfDay) (a b : Label) → IsDated date written d t → IsLabelOf date written a → IsLabelOf date written b → a ≡ b
one_label date written d t a b h l m =
    let k = only_label date written d t a h l in
    let j = only_label date written d t b h m in
    sym k.1 ∙ ap (λ (day : ℤ). label_at day t) (same_Some a.day b.day (sym k.0 ∙ j.0)) ∙ j.1

ranged_same : (z : ℤ) (label : Label) → z ≡ formal label → IsInRange z → IsInRange (formal label)
ranged_same z label e h = subst (λ (y : ℤ). IsInRange y) e h

only_none : (date : DateText) (written : TimeText) (d : CalendarDate) (t : TimeOfDay) (o : Option ℤ) → IsDated date written d t → number_in d ≡ o → ((z : ℤ) → ((label : Label) × IsLabelOf date written label × (z ≡ formal label)) → ⊥) → on_day t o ≡ Err NoSuchDay
only_none date written d t None h e f = refl
only_none date written d t (Some day) h e f =
    absurd (f (formal (label_at day t)) (label_at day t, is_label date written d t day h e, refl))

only_dated : (date : DateText) (written : TimeText) (scale : ScaleText) (d : CalendarDate) (t : TimeOfDay) (a : Result Time FormFault) → IsDated date written d t → ValueAnswer (calendar date written scale) a → on_day t (number_in d) ≡ a
only_dated date written scale d t (Ok (OfLabel b)) h ((z, (label, l, e), range), (m, some)) =
    on_label date written d t label h l
    ∙ labelled_some t label (ranged_same z label e range) (some_second written t h.time_is some)
    ∙ ap (λ (x : Label). Ok (OfLabel x)) (one_label date written d t label b h l m)
only_dated date written scale d t (Ok (Instant y)) h (v, none) = absurd none
only_dated date written scale d t (Ok NoSecond) h ((z, (label, l, e), range), none) =
    on_label date written d t label h l
    ∙ labelled_none t label (ranged_same z label e range) (no_second written t h.time_is none)
only_dated date written scale d t (Err BadTime) h v = absurd v
only_dated date written scale d t (Err WrongSystem) h v = absurd v
only_dated date written scale d t (Err NoSuchDay) h v = only_none date written d t (number_in d) h refl v
only_dated date written scale d t (Err OutOfRange) h (z, (label, l, e), out) =
    on_label date written d t label h l
    ∙ labelled_out t label (λ r. out (subst (λ (y : ℤ). IsInRange y) (sym e) r))

-- an instant
answer_instant : (P : Result Time FormFault → Type 0) (v z : ℤ) → AreAlike z v → ((y : ℤ) → y ≡ v → IsInRange y → P (Ok (Instant y))) → ((y : ℤ) → y ≡ v → (IsInRange y → ⊥) → P (Err OutOfRange)) → P (ranged z)
answer_instant P v z (inl e) inside outside =
    elim (cases_Bool (is_in_range z)) [
      | inl h ↦ rw h (inside z e (lies z h))
      | inr h ↦ rw h (outside z e (lies_not z h))
    ]
answer_instant P v z (inr far) inside outside = rw (out_of_range z far.0) (outside v refl far.1)

ranged_in : (v z x y : ℤ) → AreAlike z v → x ≡ v → IsInRange x → y ≡ v → ranged z ≡ Ok (Instant y)
ranged_in v z x y (inl e) f range g =
    rw (in_range z (subst (λ (u : ℤ). IsInRange u) (f ∙ sym e) range)) (ap (λ (u : ℤ). Ok (Instant u)) (e ∙ sym g))
ranged_in v z x y (inr far) f range g = absurd (far.1 (subst (λ (u : ℤ). IsInRange u) f range))

ranged_out : (v z x : ℤ) → AreAlike z v → x ≡ v → (IsInRange x → ⊥) → ranged z ≡ Err OutOfRange
ranged_out v z x (inl e) f out = rw (out_of_range z (λ r. out (subst (λ (u : ℤ). IsInRange u) (e ∙ sym f) r))) refl
ranged_out v z x (inr far) f out = rw (out_of_range z far.0) refl

only_julian : (mark gap : List ℕ) (days : NumberText) (scale : ScaleText) (z : ℤ) (a : Result Time FormFault) → AreAlike z (julian_instant (number_units days)) → ValueAnswer (julian mark gap days scale) a → ranged z ≡ a
only_julian mark gap days scale z (Ok (OfLabel b)) k (v, none) = absurd none
only_julian mark gap days scale z (Ok (Instant y)) k ((x, e, range), f) = ranged_in (julian_instant (number_units days)) z x y k e range f
only_julian mark gap days scale z (Ok NoSecond) k (v, none) = absurd none
only_julian mark gap days scale z (Err BadTime) k v = absurd v
only_julian mark gap days scale z (Err WrongSystem) k v = absurd v
only_julian mark gap days scale z (Err NoSuchDay) k v = absurd (v (julian_instant (number_units days)) refl)
only_julian mark gap days scale z (Err OutOfRange) k (x, e, out) = ranged_out (julian_instant (number_units days)) z x k e out

only_plain : (sign : List ℕ) (seconds : NumberText) (z : ℤ) (a : Result Time FormFault) → AreAlike z (signed (is_minus sign) (number_units seconds)) → ValueAnswer (plain sign seconds) a → ranged z ≡ a
only_plain sign seconds z (Ok (OfLabel b)) k (v, none) = absurd none
only_plain sign seconds z (Ok (Instant y)) k ((x, e, range), f) = ranged_in (signed (is_minus sign) (number_units seconds)) z x y k e range f
only_plain sign seconds z (Ok NoSecond) k (v, none) = absurd none
only_plain sign seconds z (Err BadTime) k v = absurd v
only_plain sign seconds z (Err WrongSystem) k v = absurd v
only_plain sign seconds z (Err NoSuchDay) k v = absurd (v (signed (is_minus sign) (number_units seconds)) refl)
only_plain sign seconds z (Err OutOfRange) k (x, e, out) = ranged_out (signed (is_minus sign) (number_units seconds)) z x k e out

-- a decimal is read to its value, or both are far out of the range
capped_or : (n part : ℕ) → (min n 100_000_000_000 * 10 ^ 18 + part ≡ n * 10 ^ 18 + part) ⊎ ((10 ^ 29 ≤ min n 100_000_000_000 * 10 ^ 18 + part) × (10 ^ 29 ≤ n * 10 ^ 18 + part))
capped_or n part =
    elim (cases_Bool (nat_le n 100_000_000_000)) [
      | inl h ↦ inl (let le : n ≤ 100_000_000_000 = grind (arith, nat_tests) in omega arith)
      | inr h ↦ inr (let gt : 100_000_000_000 ≤ n = grind (arith, nat_tests) in (omega arith, omega arith))
    ]

far_julian : (u : ℕ) → 10 ^ 29 ≤ u → IsInRange (julian_instant u) → ⊥
far_julian u h (from, to) = absurd (omega (arith, ints))

far_signed : (minus : Bool) (u : ℕ) → 10 ^ 29 ≤ u → IsInRange (signed minus u) → ⊥
far_signed true u h (from, to) = absurd (omega (arith, ints))
far_signed false u h (from, to) = absurd (omega (arith, ints))

alike_julian : (n : NumberText) (z : ℤ) → z ≡ julian_instant (read_units n) → AreAlike z (julian_instant (number_units n))
alike_julian n z e =
    elim (capped_or (number_of n.whole) (decimal_part n.decimals)) [
      | inl same ↦ inl (e ∙ ap julian_instant same)
      | inr far ↦ inr (
        λ h. far_julian (read_units n) far.0 (subst (λ (y : ℤ). IsInRange y) e h),
        far_julian (number_units n) far.1,
      )
    ]

alike_plain : (minus : Bool) (n : NumberText) (z : ℤ) → z ≡ signed minus (read_units n) → AreAlike z (signed minus (number_units n))
alike_plain minus n z e =
    elim (capped_or (number_of n.whole) (decimal_part n.decimals)) [
      | inl same ↦ inl (e ∙ ap (signed minus) same)
      | inr far ↦ inr (
        λ h. far_signed minus (read_units n) far.0 (subst (λ (y : ℤ). IsInRange y) e h),
        far_signed minus (number_units n) far.1,
      )
    ]

-- the answer to what was read is one to what was written
pub value_answers : (w : Written) (r : Reading) → IsReadingOf w r → ValueAnswer w (value_of r)
value_answers (calendar date written scale) (Dated d t o) (names, time, scaled) =
    answer_dated date written scale d t (number_in d) (record { names = names; time_is = time }) refl
value_answers (calendar date written scale) (Julian z o) h = absurd h
value_answers (calendar date written scale) (Plain z) h = absurd h
value_answers (julian mark gap days scale) (Julian z o) (e, scaled) =
    answer_instant (λ a. ValueAnswer (julian mark gap days scale) a) (julian_instant (number_units days)) z (alike_julian days z e)
    (λ y f r. ((y, f, r), f)) (λ y f out. (y, f, out))
value_answers (julian mark gap days scale) (Dated d t o) h = absurd h
value_answers (julian mark gap days scale) (Plain z) h = absurd h
value_answers (plain sign seconds) (Plain z) e =
    answer_instant (λ a. ValueAnswer (plain sign seconds) a) (signed (is_minus sign) (number_units seconds)) z (alike_plain (is_minus sign) seconds z e)
    (λ y f r. ((y, f, r), f)) (λ y f out. (y, f, out))
value_answers (plain sign seconds) (Dated d t o) h = absurd h
value_answers (plain sign seconds) (Julian z o) h = absurd h

-- and no other is
pub only_value : (w : Written) (r : Reading) (a : Result Time FormFault) → IsReadingOf w r → ValueAnswer w a → value_of r ≡ a
only_value (calendar date written scale) (Dated d t o) a (names, time, scaled) v =
    only_dated date written scale d t a (record { names = names; time_is = time }) v
only_value (calendar date written scale) (Julian z o) a h v = absurd h
only_value (calendar date written scale) (Plain z) a h v = absurd h
only_value (julian mark gap days scale) (Julian z o) a (e, scaled) v = only_julian mark gap days scale z a (alike_julian days z e) v
only_value (julian mark gap days scale) (Dated d t o) a h v = absurd h
only_value (julian mark gap days scale) (Plain z) a h v = absurd h
only_value (plain sign seconds) (Plain z) a e v = only_plain sign seconds z a (alike_plain (is_minus sign) seconds z e) v
only_value (plain sign seconds) (Dated d t o) a h v = absurd h
only_value (plain sign seconds) (Julian z o) a h v = absurd h
