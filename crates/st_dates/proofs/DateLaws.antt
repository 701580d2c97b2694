-- Reading a date answers what the relation allows, and the relation allows one answer.
use Rattle.std.proofs.Common.{◌≡◌, ◌⊎◌, ◌&&◌, inl, inr, refl, sym, ap, ◌∙◌, subst, List, ◌++◌, ℕ, ℤ, int_le, Option, Some, None, Result, Ok, Err}
use Rattle.std.proofs.lemmas.Bool.{cases_Bool}
use Rattle.st_dates.specs.AtDate.{ReadsAtDate, Written, Spells, IsMomentOf, moment}
use Rattle.st_dates.specs.AtDateMachine.{at_date_of, dated, counted, ranged, parts_of}
use Rattle.st_dates.specs.DayText.{day_spelling, IsDayOf}
use Rattle.st_dates.specs.DayTextMachine.{day_of_text, number_in}
use Rattle.st_text.specs.Scan.{◌>>=◌}
use Rattle.st_dates.specs.Range.{IsInRange}
use Rattle.st_dates.specs.TimeText.{time_spelling, time_units}
use Rattle.st_dates.specs.TimeTextMachine.{time_of_text}
use Rattle.st_dates.specs.declared.day_text.CalendarDate.{CalendarDate}
use Rattle.st_dates.specs.declared.fault.DateFault.{DateFault}
use Rattle.st_dates.specs.declared.fault.DateFault.TheVariants.{Form, NoSuchDay, OutOfRange}
use Rattle.st_dates.specs.declared.label.TheConstants.{FIRST, LAST}
use Rattle.st_dates.proofs.DayCuts.{day_cut}
use Rattle.st_dates.proofs.DayForms.{day_in, day_found, day_is_found, day_read}
use Rattle.std.proofs.lemmas.Option.{same_Some}
use Rattle.st_text.proofs.Logic.{bound, tested, passed}
use Rattle.st_dates.proofs.TimeCuts.{time_cut}
use Rattle.st_dates.proofs.TimeForms.{time_read, time_stops}

in_range : (z : ℤ) → IsInRange z → ranged z ≡ Ok z
in_range z h = rw (tested FIRST LAST z h.0 h.1) refl

out_of_range : (z : ℤ) → (IsInRange z → ⊥) → ranged z ≡ Err OutOfRange
out_of_range z h =
    elim (cases_Bool (int_le FIRST z && int_le z LAST)) [
      | inl t ↦ absurd (h (passed FIRST LAST z t))
      | inr f ↦ rw f refl
    ]

in_or_out : (z : ℤ) → IsInRange z ⊎ (IsInRange z → ⊥)
in_or_out z =
    elim (cases_Bool (int_le FIRST z && int_le z LAST)) [
      | inl t ↦ inl (passed FIRST LAST z t)
      | inr f ↦ inr (λ h. absurd (let t = tested FIRST LAST z h.0 h.1 in cc))
    ]

-- what a text was read to, and what it spells
record Read (text : List ℕ) (p : CalendarDate × ℕ) : Type 0 where
  written : Written
  spells : Spells written text
  same : number_in p.0 ≡ day_in written.day
  units : p.1 ≡ time_units written.time

read_is_spelled : (text : List ℕ) (p : CalendarDate × ℕ) → parts_of text ≡ Some p → Read text p
unfolding parts_of
read_is_spelled text p e =
    let last : CalendarDate → ℕ → Option (CalendarDate × ℕ) = λ d units. Some (d, units) in
    let next : CalendarDate × List ℕ → Option (CalendarDate × ℕ) = λ q. time_of_text q.1 >>= λ units. Some (q.0, units) in
    let d = bound (day_of_text text) next p e in
    let t = bound (time_of_text d.0.1) (last d.0.0) p d.2 in
    let same : ◌≡◌ {A = CalendarDate × ℕ} (d.0.0, t.0) p = same_Some (d.0.0, t.0) p t.2 in
    let day = day_cut text d.0 d.1 in
    let time = time_cut d.0.1 t.0 t.1 in
    record {
      written = record { day = day.day; time = time.time };
      spells = record { day_parts = day.parts; time_parts = time.parts; whole = day.whole ∙ ap (λ (v : List ℕ). day_spelling day.day ++ v) time.whole };
      same = ap (λ (q : CalendarDate × ℕ). number_in q.0) (sym same) ∙ day.same;
      units = ap (λ (q : CalendarDate × ℕ). q.1) (sym same) ∙ time.units;
    }

-- what a spelled text is read to
record Finds (text : List ℕ) (w : Written) : Type 0 where
  date : CalendarDate
  read : parts_of text ≡ Some (date, time_units w.time)
  same : number_in date ≡ day_in w.day

parts_then : (text rest : List ℕ) (d : CalendarDate) (units : ℕ) → day_of_text text ≡ Some (d, rest) → time_of_text rest ≡ Some units → parts_of text ≡ Some (d, units)
unfolding parts_of
parts_then text rest d units e f = rw (e, f) refl

spelled : (text : List ℕ) (w : Written) → Spells w text → Finds text w
spelled text w h =
    let rest = time_spelling w.time in
    let day = day_read w.day rest h.day_parts (time_stops w.time h.time_parts) in
    record {
      date = day.date;
      read = parts_then text rest day.date (time_units w.time) (ap day_of_text h.whole ∙ day.read) (time_read w.time h.time_parts);
      same = day.same;
    }

by_range : (text : List ℕ) (w : Written) (z : ℤ) → Spells w text → IsMomentOf w z → ReadsAtDate text (ranged z)
by_range text w z s d =
    elim (in_or_out z) [
      | inl h ↦ rw (in_range z h) (w, s, d, h)
      | inr h ↦ rw (out_of_range z h) (w, z, s, d, h)
    ]

by_number : (text : List ℕ) (w : Written) (o : Option ℤ) → Spells w text → o ≡ day_in w.day → ReadsAtDate text (counted o (time_units w.time))
by_number text w None s e = (w, s, λ n d. absurd (let f = day_found w.day n d in cc))
by_number text w (Some n) s e =
    by_range text w (moment n (time_units w.time)) s (n, day_is_found w.day n (sym e), refl)

by_parts : (text : List ℕ) (o : Option (CalendarDate × ℕ)) → parts_of text ≡ o → ReadsAtDate text (dated o)
by_parts text None e = λ w s. absurd (let f = (spelled text w s).read in cc)
by_parts text (Some p) e =
    let r = read_is_spelled text p e in
    let P : ℕ → Type 0 = λ units. ReadsAtDate text (counted (number_in p.0) units) in
    subst P (sym r.units) (by_number text r.written (number_in p.0) r.spells r.same)

-- the answer is allowed
pub reads : (text : List ℕ) → ReadsAtDate text (at_date_of text)
unfolding at_date_of
reads text = by_parts text (parts_of text) refl

-- a spelled text is answered by its day and time
spelled_answer : (text : List ℕ) (w : Written) → Spells w text → at_date_of text ≡ counted (day_in w.day) (time_units w.time)
unfolding at_date_of
spelled_answer text w s =
    let f = spelled text w s in
    ap dated f.read ∙ ap (λ (o : Option ℤ). counted o (time_units w.time)) f.same

moment_answer : (text : List ℕ) (w : Written) (z : ℤ) → Spells w text → IsMomentOf w z → at_date_of text ≡ ranged z
moment_answer text w z s (n, d, e) =
    spelled_answer text w s
    ∙ ap (λ (o : Option ℤ). counted o (time_units w.time)) (day_found w.day n d)
    ∙ ap ranged (sym e)

form_answer : (text : List ℕ) → ((w : Written) → Spells w text → ⊥) → (o : Option (CalendarDate × ℕ)) → parts_of text ≡ o → dated o ≡ Err Form
form_answer text h None e = refl
form_answer text h (Some p) e = let r = read_is_spelled text p e in absurd (h r.written r.spells)

day_answer : (w : Written) → ((n : ℤ) → IsDayOf w.day n → ⊥) → (o : Option ℤ) → day_in w.day ≡ o → counted o (time_units w.time) ≡ Err NoSuchDay
day_answer w h None e = refl
day_answer w h (Some n) e = absurd (h n (day_is_found w.day n e))

-- and no other is
pub only : (text : List ℕ) (answer : Result ℤ DateFault) → ReadsAtDate text answer → at_date_of text ≡ answer
unfolding at_date_of
only text (Ok z) (w, s, d, range) = moment_answer text w z s d ∙ in_range z range
only text (Err Form) h = form_answer text h (parts_of text) refl
only text (Err NoSuchDay) (w, s, none) = spelled_answer text w s ∙ day_answer w none (day_in w.day) refl
only text (Err OutOfRange) (w, z, s, d, range) = moment_answer text w z s d ∙ out_of_range z range
