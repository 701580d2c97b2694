-- Reading a time answers what the relation allows, and the relation allows one answer.
use Rattle.std.proofs.Common.{◌≡◌, ◌≢◌, ℕ, Bool, true, false, not, ◌&&◌, inl, inr, refl, sym, ap, ◌∙◌, subst, List, Option, Some, None, Result, Ok, Err}
use Rattle.std.proofs.lemmas.Bool.{cases_Bool}
use Rattle.std.proofs.lemmas.Option.{same_Some}
use Rattle.st_text.specs.Lines.{trimmed}
use Rattle.st_text.proofs.Logic.{and-left, and-right}
use Rattle.st_dates.specs.declared.system.System.{System}
use Rattle.st_dates.specs.declared.system.System.TheVariants.{Utc, Tai, Tt, Tdb, Sclk}
use Rattle.st_forms.specs.Reading.{Written, calendar, julian, plain, Takes, Spells, NamesNoOther, ReadsTime}
use Rattle.st_forms.specs.ReadingMachine.{reading_of, is_utc, takes_dates, takes_seconds, is_taken, is_same, names_other, scale_of, value_of, checked, answer_of, time_of_text}
use Rattle.st_forms.specs.Scale.{NamesSystem, ScaleText, unnamed, by_word, IsOfSystem}
use Rattle.st_forms.specs.declared.form.Form.{Form}
use Rattle.st_forms.specs.declared.form.Form.TheVariants.{Any, Calendar, Seconds}
use Rattle.st_forms.specs.declared.fault.FormFault.{FormFault}
use Rattle.st_forms.specs.declared.fault.FormFault.TheVariants.{BadTime, WrongSystem, NoSuchDay, OutOfRange}
use Rattle.st_forms.specs.declared.reading.Reading.{Reading}
use Rattle.st_forms.specs.declared.reading.Reading.TheVariants.{Dated, Julian, Plain}
use Rattle.st_forms.specs.declared.time.TimeText.{TimeText as Time}
use Rattle.st_forms.proofs.ReadingCuts.{reading_cut}
use Rattle.st_forms.proofs.ReadingForms.{IsReadingOf, reading_read}
use Rattle.st_forms.proofs.Tails.{NamesScale, system_found}
use Rattle.st_forms.proofs.Values.{ValueAnswer, value_answers, only_value}

-- the forms that are taken
dates_taken : (form : Form) → form ≢ Seconds → takes_dates form ≡ true
dates_taken Any h = refl
dates_taken Calendar h = refl
dates_taken Seconds h = absurd (h refl)

dates_only : (form : Form) → takes_dates form ≡ true → form ≢ Seconds
dates_only Any h = λ e. absurd (cc)
dates_only Calendar h = λ e. absurd (cc)
dates_only Seconds h = absurd (cc)

seconds_taken : (form : Form) → form ≢ Calendar → takes_seconds form ≡ true
seconds_taken Any h = refl
seconds_taken Calendar h = absurd (h refl)
seconds_taken Seconds h = refl

seconds_only : (form : Form) → takes_seconds form ≡ true → form ≢ Calendar
seconds_only Any h = λ e. absurd (cc)
seconds_only Calendar h = absurd (cc)
seconds_only Seconds h = λ e. absurd (cc)

not_utc : (system : System) → system ≢ Utc → not (is_utc system) ≡ true
not_utc Utc h = absurd (h refl)
not_utc Tai h = refl
not_utc Tt h = refl
not_utc Tdb h = refl
not_utc Sclk h = refl

utc_not : (system : System) → not (is_utc system) ≡ true → system ≢ Utc
utc_not Utc h = absurd (cc)
utc_not Tai h = λ e. absurd (cc)
utc_not Tt h = λ e. absurd (cc)
utc_not Tdb h = λ e. absurd (cc)
utc_not Sclk h = λ e. absurd (cc)

both : (x y : Bool) → x ≡ true → y ≡ true → (x && y) ≡ true
both x y h k = rw (h, k) refl

taken : (system : System) (form : Form) (w : Written) (r : Reading) → IsReadingOf w r → Takes system form w → is_taken system form r ≡ true
taken system form (calendar date written scale) (Dated d t o) h k = dates_taken form k
taken system form (calendar date written scale) (Julian z o) h k = absurd h
taken system form (calendar date written scale) (Plain z) h k = absurd h
taken system form (julian mark gap days scale) (Julian z o) h k =
    both (takes_dates form) (not (is_utc system)) (dates_taken form k.0) (not_utc system k.1)
taken system form (julian mark gap days scale) (Dated d t o) h k = absurd h
taken system form (julian mark gap days scale) (Plain z) h k = absurd h
taken system form (plain sign seconds) (Plain z) h k =
    both (takes_seconds form) (not (is_utc system)) (seconds_taken form k.0) (not_utc system k.1)
taken system form (plain sign seconds) (Dated d t o) h k = absurd h
taken system form (plain sign seconds) (Julian z o) h k = absurd h

takes : (system : System) (form : Form) (w : Written) (r : Reading) → IsReadingOf w r → is_taken system form r ≡ true → Takes system form w
takes system form (calendar date written scale) (Dated d t o) h k = dates_only form k
takes system form (calendar date written scale) (Julian z o) h k = absurd h
takes system form (calendar date written scale) (Plain z) h k = absurd h
takes system form (julian mark gap days scale) (Julian z o) h k = (
  dates_only form (and-left (takes_dates form) (not (is_utc system)) k),
  utc_not system (and-right (takes_dates form) (not (is_utc system)) k),
)
takes system form (julian mark gap days scale) (Dated d t o) h k = absurd h
takes system form (julian mark gap days scale) (Plain z) h k = absurd h
takes system form (plain sign seconds) (Plain z) h k = (
  seconds_only form (and-left (takes_seconds form) (not (is_utc system)) k),
  utc_not system (and-right (takes_seconds form) (not (is_utc system)) k),
)
takes system form (plain sign seconds) (Dated d t o) h k = absurd h
takes system form (plain sign seconds) (Julian z o) h k = absurd h

-- the system that a word names
same_itself : (system : System) → is_same system system ≡ true
same_itself Utc = refl
same_itself Tai = refl
same_itself Tt = refl
same_itself Tdb = refl
same_itself Sclk = refl

same_only : (a b : System) → is_same a b ≡ true → a ≡ b
same_only Utc Utc h = refl
same_only Tai Tai h = refl
same_only Tt Tt h = refl
same_only Tdb Tdb h = refl
same_only Sclk Sclk h = refl
same_only _ _ h = absurd (cc)

one_system : (word : List ℕ) (a b : System) → NamesSystem word a → NamesSystem word b → a ≡ b
one_system word a b h k = same_Some a b (sym (system_found word a h) ∙ system_found word b k)

scale_fits : (system : System) (scale : ScaleText) (o : Option System) → NamesScale scale o → IsOfSystem scale system → names_other system o ≡ false
scale_fits system unnamed o e h = ap (names_other system) e
scale_fits system (by_word gap word) o (s, n, e) h =
    let same : is_same s system ≡ true = ap (λ (x : System). is_same s x) (one_system word system s h n) ∙ same_itself s in
    ap (names_other system) e ∙ ap not same

no_other : (b : Bool) → not b ≡ false → b ≡ true
no_other true h = refl
no_other false h = absurd (cc)

scale_tells : (system : System) (scale : ScaleText) (o : Option System) → NamesScale scale o → names_other system o ≡ false → IsOfSystem scale system
scale_tells system unnamed o e h = tt
scale_tells system (by_word gap word) o (s, n, e) h =
    let same : s ≡ system = same_only s system (no_other (is_same s system) (sym (ap (names_other system) e) ∙ h)) in
    subst (λ (x : System). NamesSystem word x) same n

named_fits : (system : System) (w : Written) (r : Reading) → IsReadingOf w r → NamesNoOther system w → names_other system (scale_of r) ≡ false
named_fits system (calendar date written scale) (Dated d t o) h k = scale_fits system scale o h.2 k
named_fits system (calendar date written scale) (Julian z o) h k = absurd h
named_fits system (calendar date written scale) (Plain z) h k = absurd h
named_fits system (julian mark gap days scale) (Julian z o) h k = scale_fits system scale o h.1 k
named_fits system (julian mark gap days scale) (Dated d t o) h k = absurd h
named_fits system (julian mark gap days scale) (Plain z) h k = absurd h
named_fits system (plain sign seconds) (Plain z) h k = refl
named_fits system (plain sign seconds) (Dated d t o) h k = absurd h
named_fits system (plain sign seconds) (Julian z o) h k = absurd h

named_tells : (system : System) (w : Written) (r : Reading) → IsReadingOf w r → names_other system (scale_of r) ≡ false → NamesNoOther system w
named_tells system (calendar date written scale) (Dated d t o) h k = scale_tells system scale o h.2 k
named_tells system (calendar date written scale) (Julian z o) h k = absurd h
named_tells system (calendar date written scale) (Plain z) h k = absurd h
named_tells system (julian mark gap days scale) (Julian z o) h k = scale_tells system scale o h.1 k
named_tells system (julian mark gap days scale) (Dated d t o) h k = absurd h
named_tells system (julian mark gap days scale) (Plain z) h k = absurd h
named_tells system (plain sign seconds) (Plain z) h k = tt
named_tells system (plain sign seconds) (Dated d t o) h k = absurd h
named_tells system (plain sign seconds) (Julian z o) h k = absurd h

-- an answer to the value of a time of a good form and system
lifted : (text : List ℕ) (system : System) (form : Form) (w : Written) (a : Result Time FormFault) → Spells system form text w → NamesNoOther system w → ValueAnswer w a → ReadsTime text system form a
lifted text system form w (Ok time) s n v = (w, s, n, v.0, v.1)
lifted text system form w (Err BadTime) s n v = absurd v
lifted text system form w (Err WrongSystem) s n v = absurd v
lifted text system form w (Err NoSuchDay) s n v = (w, s, n, v)
lifted text system form w (Err OutOfRange) s n v = (w, s, n, v)

checked_reads : (text : List ℕ) (system : System) (form : Form) (w : Written) (r : Reading) → Spells system form text w → IsReadingOf w r → ReadsTime text system form (checked system r)
checked_reads text system form w r s h =
    elim (cases_Bool (names_other system (scale_of r))) [
      | inl other ↦ rw other (w, s, λ n. absurd (let fits = named_fits system w r h n in cc))
      | inr fits ↦ rw fits (lifted text system form w (value_of r) s (named_tells system w r h fits) (value_answers w r h))
    ]

-- what a spelled text is read to
record Read (text : List ℕ) (w : Written) : Type 0 where
  reading : Reading
  read : reading_of (trimmed text) ≡ Some reading
  is : IsReadingOf w reading

spelled : (text : List ℕ) (system : System) (form : Form) (w : Written) → Spells system form text w → Read text w
spelled text system form w s =
    let r = reading_read w s.parts in
    record { reading = r.reading; read = ap reading_of s.whole ∙ r.read; is = r.is }

of_reading : (text : List ℕ) (system : System) (form : Form) (r : Reading) (w : Written) → reading_of (trimmed text) ≡ Some r → Spells system form text w → IsReadingOf w r
of_reading text system form r w e s =
    let k = spelled text system form w s in
    subst (λ (q : Reading). IsReadingOf w q) (same_Some k.reading r (sym k.read ∙ e)) k.is

by_reading : (text : List ℕ) (system : System) (form : Form) (o : Option Reading) → reading_of (trimmed text) ≡ o → ReadsTime text system form (answer_of system form o)
by_reading text system form None e = λ w s. absurd (let k = (spelled text system form w s).read in cc)
by_reading text system form (Some r) e =
    let c = reading_cut (trimmed text) r e in
    elim (cases_Bool (is_taken system form r)) [
      | inl h ↦ rw h (checked_reads text system form c.written r (record { parts = c.parts; whole = c.whole; taken = takes system form c.written r c.is h }) c.is)
      | inr h ↦ rw h (λ w s. absurd (let k = taken system form w r (of_reading text system form r w e s) s.taken in cc))
    ]

-- the answer is allowed
pub reads : (text : List ℕ) (system : System) (form : Form) → ReadsTime text system form (time_of_text text system form)
unfolding time_of_text
reads text system form = by_reading text system form (reading_of (trimmed text)) refl

-- a spelled text is answered by what was read
record Answered (text : List ℕ) (system : System) (form : Form) (w : Written) : Type 0 where
  reading : Reading
  is : IsReadingOf w reading
  answer : time_of_text text system form ≡ checked system reading

answered : (text : List ℕ) (system : System) (form : Form) (w : Written) → Spells system form text w → Answered text system form w
unfolding time_of_text
answered text system form w s =
    let k = spelled text system form w s in
    record {
      reading = k.reading;
      is = k.is;
      answer = rw (k.read, taken system form w k.reading k.is s.taken) refl;
    }

no_form : (text : List ℕ) (system : System) (form : Form) (o : Option Reading) → reading_of (trimmed text) ≡ o → ((w : Written) → Spells system form text w → ⊥) → answer_of system form o ≡ Err BadTime
no_form text system form None e h = refl
no_form text system form (Some r) e h =
    let c = reading_cut (trimmed text) r e in
    elim (cases_Bool (is_taken system form r)) [
      | inl k ↦ absurd (h c.written (record { parts = c.parts; whole = c.whole; taken = takes system form c.written r c.is k }))
      | inr k ↦ rw k refl
    ]

other_system : (system : System) (w : Written) (r : Reading) → IsReadingOf w r → (NamesNoOther system w → ⊥) → checked system r ≡ Err WrongSystem
other_system system w r h n =
    elim (cases_Bool (names_other system (scale_of r))) [
      | inl other ↦ rw other refl
      | inr fits ↦ absurd (n (named_tells system w r h fits))
    ]

good_system : (system : System) (w : Written) (r : Reading) (a : Result Time FormFault) → IsReadingOf w r → NamesNoOther system w → ValueAnswer w a → checked system r ≡ a
good_system system w r a h n v = rw (named_fits system w r h n) (only_value w r a h v)

by_value : (text : List ℕ) (system : System) (form : Form) (w : Written) (a : Result Time FormFault) → Spells system form text w → NamesNoOther system w → ValueAnswer w a → time_of_text text system form ≡ a
by_value text system form w a s n v =
    let k = answered text system form w s in
    k.answer ∙ good_system system w k.reading a k.is n v

-- and no other is
pub only : (text : List ℕ) (system : System) (form : Form) (answer : Result Time FormFault) → ReadsTime text system form answer → time_of_text text system form ≡ answer
unfolding time_of_text
only text system form (Ok time) (w, s, n, v, stands) = by_value text system form w (Ok time) s n (v, stands)
only text system form (Err BadTime) h = no_form text system form (reading_of (trimmed text)) refl h
only text system form (Err WrongSystem) (w, s, n) =
    let k = answered text system form w s in
    k.answer ∙ other_system system w k.reading k.is n
only text system form (Err NoSuchDay) (w, s, n, v) = by_value text system form w (Err NoSuchDay) s n v
only text system form (Err OutOfRange) (w, s, n, v) = by_value text system form w (Err OutOfRange) s n v
