-- What follows a date is read exactly where it is a time, a scale word or both.
use Rattle.std.proofs.Common.{◌≡◌, ℕ, Bool, true, false, ◌||◌, ◌==◌, ◌≤◌, ◌⊎◌, inl, inr, refl, sym, ap, ◌∙◌, subst, arith, List, [], ◌∷◌, ◌++◌, length, Option, Some, None, if◌then◌else◌, append_assoc}
use Rattle.std.specs.Prelude.{codes}
use Rattle.std.proofs.lemmas.Bool.{cases_Bool, or_cases}
use Rattle.std.proofs.lemmas.Bool.Decides.{nat_tests}
use Rattle.std.proofs.lemmas.List.Folds.{list_all-append}
use Rattle.std.proofs.lemmas.Option.{same_Some}
use Rattle.std.proofs.lemmas.Slice.Eq.{bytes_eq-Decides}
use Rattle.std.specs.Char.{is_ascii_digit, to_ascii_lowercase}
use Rattle.std.specs.List.{list_all}
use Rattle.std.specs.Str.{bytes_eq}
use Rattle.st_text.specs.Bytes.{is_blank, are_blanks, are_digits}
use Rattle.st_text.specs.Scan.{◌>>=◌, IsDigitRun}
use Rattle.st_text.proofs.Logic.{and-left, and-right, bound}
use Rattle.st_text.proofs.Runs.{Stops}
use Rattle.st_dates.specs.Names.{AreSameLetters, lowered}
use Rattle.st_dates.specs.TimeText.{Clock, minutes, seconds, decimals, clock_spelling, AreClockParts, minute_of, second_units, TimeText, midnight, after_mark, time_spelling}
use Rattle.st_dates.specs.TimeTextMachine.{clock_of}
use Rattle.st_dates.specs.declared.clock.TimeOfDay.{TimeOfDay}
use Rattle.st_dates.specs.declared.system.System.{System}
use Rattle.st_dates.specs.declared.system.System.TheVariants.{Utc, Tai, Tt, Tdb, Sclk}
use Rattle.st_dates.proofs.ClockCuts.{clock_cut}
use Rattle.st_dates.proofs.ClockForms.{time, clock_read}
use Rattle.st_dates.proofs.NameLaws.{is_letter, same_letters, same_length}
use Rattle.st_forms.specs.DateForm.{IsGap}
use Rattle.st_forms.specs.Scale.{NamesSystem, ScaleText, unnamed, by_word, scale_spelling, AreScaleParts}
use Rattle.st_forms.specs.TailMachine.{is_word, system_named, scale_of_text, Tail, timed, begins_with_digit, spaced, tail_of_text}
use Rattle.st_forms.specs.TailMachine.{midnight as start_of_day}
use Rattle.st_forms.specs.TimeForm.{IsTimeMark, AreTimeParts}
use Rattle.st_forms.specs.WordMachine.{is_no_blank, word, past_word, past_gap}
use Rattle.st_forms.proofs.Cutting.{gap_at, gap_cut, gap_none, digit_no_blank, letter_no_blank, letter_no_digit, gap_no_digit, gap_ends, word_at, past_word_at, word_joined}

-- a word is another's letters exactly where the test says so
pub word_tested : (text full : List ℕ) → AreSameLetters text full → is_word text full ≡ true
word_tested text full e = (bytes_eq-Decides (lowered text) (lowered full)).1 e

pub word_passes : (text full : List ℕ) → is_word text full ≡ true → AreSameLetters text full
word_passes text full h = (bytes_eq-Decides (lowered text) (lowered full)).0 h

-- the systems by the words in lower case
abbrev named_lower : List ℕ → Option System
named_lower text =
    if bytes_eq text (codes "utc") then Some Utc
    else (if bytes_eq text (codes "tai") then Some Tai
    else (if bytes_eq text (codes "tt") || bytes_eq text (codes "tdt") then Some Tt
    else (if bytes_eq text (codes "tdb") || bytes_eq text (codes "et") then Some Tdb
    else None)))

by_lower : (text : List ℕ) → system_named text ≡ named_lower (lowered text)
unfolding system_named
by_lower text = refl

-- a word that names a system is found
pub system_found : (text : List ℕ) (s : System) → NamesSystem text s → system_named text ≡ Some s
system_found text Utc e = by_lower text ∙ ap named_lower e
system_found text Tai e = by_lower text ∙ ap named_lower e
system_found text Tt (inl e) = by_lower text ∙ ap named_lower e
system_found text Tt (inr e) = by_lower text ∙ ap named_lower e
system_found text Tdb (inl e) = by_lower text ∙ ap named_lower e
system_found text Tdb (inr e) = by_lower text ∙ ap named_lower e
system_found text Sclk e = absurd e

either_word : (text a b : List ℕ) → (is_word text a || is_word text b) ≡ true → AreSameLetters text a ⊎ AreSameLetters text b
either_word text a b h =
    elim (or_cases (is_word text a) (is_word text b) h) [
      | inl x ↦ inl (word_passes text a x)
      | inr x ↦ inr (word_passes text b x)
    ]

-- and what is found is named
system_is : (text : List ℕ) (s : System) → system_named text ≡ Some s → NamesSystem text s
unfolding system_named
system_is text s e =
    let P : System → Type 0 = λ s. NamesSystem text s in
    elim (cases_Bool (is_word text (codes "UTC"))) [
      | inl h ↦ subst P (same_Some Utc s (rw h at e)) (word_passes text (codes "UTC") h)
      | inr f ↦
          let e1 = rw f at e in
          elim (cases_Bool (is_word text (codes "TAI"))) [
            | inl h ↦ subst P (same_Some Tai s (rw h at e1)) (word_passes text (codes "TAI") h)
            | inr f ↦
                let e2 = rw f at e1 in
                elim (cases_Bool (is_word text (codes "TT") || is_word text (codes "TDT"))) [
                  | inl h ↦ subst P (same_Some Tt s (rw h at e2)) (either_word text (codes "TT") (codes "TDT") h)
                  | inr f ↦
                      let e3 = rw f at e2 in
                      elim (cases_Bool (is_word text (codes "TDB") || is_word text (codes "ET"))) [
                        | inl h ↦ subst P (same_Some Tdb s (rw h at e3)) (either_word text (codes "TDB") (codes "ET") h)
                        | inr f ↦ absurd (let none = rw f at e3 in cc)
                      ]
                ]
          ]
    ]

-- a word of a system is letters, at least one
record IsLetters (text : List ℕ) : Type 0 where
  all : list_all is_letter text ≡ true
  some : 1 ≤ length text

letters_of : (text full : List ℕ) → AreSameLetters text full → list_all is_letter full ≡ true → 1 ≤ length full → IsLetters text
letters_of text full e h some = record { all = same_letters text full e h; some = omega (arith, same_length text full e) }

system_letters : (text : List ℕ) (s : System) → NamesSystem text s → IsLetters text
system_letters text Utc e = letters_of text (codes "UTC") e refl (omega arith)
system_letters text Tai e = letters_of text (codes "TAI") e refl (omega arith)
system_letters text Tt (inl e) = letters_of text (codes "TT") e refl (omega arith)
system_letters text Tt (inr e) = letters_of text (codes "TDT") e refl (omega arith)
system_letters text Tdb (inl e) = letters_of text (codes "TDB") e refl (omega arith)
system_letters text Tdb (inr e) = letters_of text (codes "ET") e refl (omega arith)
system_letters text Sclk e = absurd e

letters_first : (p : ℕ → Bool) → ((b : ℕ) → is_letter b ≡ true → p b ≡ false) → (text : List ℕ) → IsLetters text → Stops p text
letters_first p each [] h = absurd (let n : 1 ≤ 0 = h.some in omega arith)
letters_first p each (b ∷ t) h = each b (and-left (is_letter b) (list_all is_letter t) h.all)

-- the system that was read is the one that the word names
abbrev pub NamesScale : ScaleText → Option System → Type 0
NamesScale unnamed o = o ≡ None
NamesScale (by_word gap text) o = (s : System) × NamesSystem text s × (o ≡ Some s)

pub record ScaleRead (scale : ScaleText) : Type 0 where
  pub system : Option System
  pub read : scale_of_text (scale_spelling scale) ≡ Some system
  pub names : NamesScale scale system

scale_none : scale_of_text [] ≡ Some None
unfolding scale_of_text
scale_none = refl

no_gap : (u : List ℕ) → past_gap [] ≡ Some u → ⊥
no_gap u e = let none = gap_none [] tt in absurd cc

scale_then : (text u : List ℕ) (s : System) → past_gap text ≡ Some u → system_named u ≡ Some s → scale_of_text text ≡ Some (Some s)
unfolding scale_of_text
scale_then [] u s e f = absurd (no_gap u e)
scale_then (b ∷ t) u s e f = rw (e, f) refl

-- a spelled scale word is read
pub scale_read : (scale : ScaleText) → AreScaleParts scale → ScaleRead scale
scale_read unnamed h = record { system = None; read = scale_none; names = refl }
scale_read (by_word gap text) (g, (s, n)) = record {
  system = Some s;
  read = scale_then (gap ++ text) text s (gap_at gap text g (letters_first is_blank letter_no_blank text (system_letters text s n))) (system_found text s n);
  names = (s, n, refl);
}

pub record ScaleCut (text : List ℕ) (o : Option System) : Type 0 where
  pub scale : ScaleText
  pub parts : AreScaleParts scale
  pub whole : text ≡ scale_spelling scale
  pub names : NamesScale scale o

pub scale_cut : (text : List ℕ) (o : Option System) → scale_of_text text ≡ Some o → ScaleCut text o
unfolding scale_of_text
scale_cut [] o e = record { scale = unnamed; parts = tt; whole = refl; names = sym (same_Some None o e) }
scale_cut (b ∷ t) o e =
    let last : System → Option (Option System) = λ s. Some (Some s) in
    let next : List ℕ → Option (Option System) = λ u. system_named u >>= λ s. Some (Some s) in
    let a = bound (past_gap (b ∷ t)) next o e in
    let f = bound (system_named a.0) last o a.2 in
    let gap = gap_cut (b ∷ t) a.0 a.1 in
    let named = system_is a.0 f.0 f.1 in
    record {
      scale = by_word gap.gap a.0;
      parts = (gap.is_gap, (f.0, named));
      whole = gap.whole;
      names = (f.0, named, sym (same_Some (Some f.0) o f.2));
    }

pub scale_ends : (scale : ScaleText) → AreScaleParts scale → Stops is_no_blank (scale_spelling scale)
scale_ends unnamed h = tt
scale_ends (by_word gap text) h = gap_ends gap text h.0

-- digits and what stands between them have no blank
pub digits_blankless : (t : List ℕ) → are_digits t ≡ true → list_all is_no_blank t ≡ true
digits_blankless [] h = refl
digits_blankless (b ∷ t) h =
    rw (digit_no_blank b (and-left (is_ascii_digit b) (are_digits t) h)) (digits_blankless t (and-right (is_ascii_digit b) (are_digits t) h))

pub blankless_both : (a b : List ℕ) → list_all is_no_blank a ≡ true → list_all is_no_blank b ≡ true → list_all is_no_blank (a ++ b) ≡ true
blankless_both a b h k = rw (list_all-append is_no_blank a b, h, k) refl

clock_blankless : (c : Clock) → AreClockParts 60 c → list_all is_no_blank (clock_spelling c) ≡ true
clock_blankless (minutes h m) (hh, hm) =
    blankless_both h (58 ∷ m) (digits_blankless h hh.digits.digits) (digits_blankless m hm.digits.digits)
clock_blankless (seconds h m s) (hh, hm, hs) =
    blankless_both h (58 ∷ (m ++ (58 ∷ s))) (digits_blankless h hh.digits.digits)
    (blankless_both m (58 ∷ s) (digits_blankless m hm.digits.digits) (digits_blankless s hs.digits.digits))
clock_blankless (decimals h m s f) (hh, hm, hs, hf) =
    blankless_both h (58 ∷ (m ++ (58 ∷ (s ++ (46 ∷ f))))) (digits_blankless h hh.digits.digits)
    (blankless_both m (58 ∷ (s ++ (46 ∷ f))) (digits_blankless m hm.digits.digits)
    (blankless_both s (46 ∷ f) (digits_blankless s hs.digits.digits) (digits_blankless f hf.digits)))

-- a time and a scale word
timed_read : (clock : Clock) (scale : ScaleText) (o : Option System) → AreClockParts 60 clock → AreScaleParts scale → scale_of_text (scale_spelling scale) ≡ Some o → timed (clock_spelling clock ++ scale_spelling scale) ≡ Some (time (minute_of clock) (second_units clock), o)
unfolding timed
timed_read clock scale o h k e =
    let all = clock_blankless clock h in
    let ends = scale_ends scale k in
    rw (word_at (clock_spelling clock) (scale_spelling scale) all ends, past_word_at (clock_spelling clock) (scale_spelling scale) all ends, clock_read 60 clock h, e) refl

digit_begins : (d x rest : List ℕ) → IsDigitRun 1 2 d → begins_with_digit ((d ++ x) ++ rest) ≡ true
digit_begins [] x rest h = absurd (let n : 1 ≤ 0 = h.at_least in omega arith)
digit_begins (b ∷ t) x rest h = and-left (is_ascii_digit b) (are_digits t) h.digits

digit_stops_blank : (text : List ℕ) → begins_with_digit text ≡ true → Stops is_blank text
digit_stops_blank [] h = absurd (cc)
digit_stops_blank (b ∷ t) h = digit_no_blank b h

clock_begins : (c : Clock) (rest : List ℕ) → AreClockParts 60 c → begins_with_digit (clock_spelling c ++ rest) ≡ true
clock_begins (minutes h m) rest k = digit_begins h (58 ∷ m) rest k.0.digits
clock_begins (seconds h m s) rest k = digit_begins h (58 ∷ (m ++ (58 ∷ s))) rest k.0.digits
clock_begins (decimals h m s f) rest k = digit_begins h (58 ∷ (m ++ (58 ∷ (s ++ (46 ∷ f))))) rest k.0.digits

spaced_time : (text : List ℕ) → begins_with_digit text ≡ true → spaced text ≡ timed text
unfolding spaced
spaced_time text h = rw h refl

spaced_word : (text : List ℕ) (s : System) → begins_with_digit text ≡ false → system_named text ≡ Some s → spaced text ≡ Some (start_of_day, Some s)
unfolding spaced
spaced_word text s h e = rw (h, e) refl

letters_begin : (text : List ℕ) → IsLetters text → begins_with_digit text ≡ false
letters_begin [] h = refl
letters_begin (b ∷ t) h = letter_no_digit b (and-left (is_letter b) (list_all is_letter t) h.all)

behind_t : (b : ℕ) (t : List ℕ) → ((b == 84) || (b == 116)) ≡ true → tail_of_text (b ∷ t) ≡ timed t
unfolding tail_of_text
behind_t b t h = rw h refl

blank_no_t : (b : ℕ) → is_blank b ≡ true → ((b == 84) || (b == 116)) ≡ false
blank_no_t b h = grind (arith, nat_tests)

behind_gap : (gap rest : List ℕ) → IsGap gap → Stops is_blank rest → tail_of_text (gap ++ rest) ≡ spaced rest
unfolding tail_of_text
behind_gap [] rest h s = absurd (let n : 1 ≤ 0 = h.some in omega arith)
behind_gap (b ∷ gap) rest h s =
    rw (blank_no_t b (and-left (is_blank b) (are_blanks gap) h.blanks), gap_at (b ∷ gap) rest h s) refl

tail_none : tail_of_text [] ≡ Some (start_of_day, None)
unfolding tail_of_text
tail_none = refl

-- `T` in any letter case
lower_t : (b : ℕ) → to_ascii_lowercase b ≡ 116 → ((b == 84) || (b == 116)) ≡ true
lower_t b h = grind (arith, nat_tests)

t_lower : (b : ℕ) → ((b == 84) || (b == 116)) ≡ true → to_ascii_lowercase b ≡ 116
t_lower b h = grind (arith, nat_tests)

first_byte : (a b : ℕ) (t u : List ℕ) → a ∷ t ≡ b ∷ u → a ≡ b
first_byte a b t u e = cc

mark_read : (mark rest : List ℕ) → AreSameLetters mark (codes "T") → tail_of_text (mark ++ rest) ≡ timed rest
mark_read [] rest e = absurd (cc)
mark_read (b ∷ []) rest e = behind_t b rest (lower_t b (first_byte (to_ascii_lowercase b) 116 [] [] e))
mark_read (b ∷ c ∷ t) rest e = absurd (cc)

-- the time of day of what is written
abbrev pub time_of : TimeText → TimeOfDay
time_of midnight = start_of_day
time_of (after_mark mark clock) = time (minute_of clock) (second_units clock)

-- what a spelled tail is read to
pub record TailRead (written : TimeText) (scale : ScaleText) : Type 0 where
  pub system : Option System
  pub read : tail_of_text (time_spelling written ++ scale_spelling scale) ≡ Some (time_of written, system)
  pub names : NamesScale scale system

apart : (a b c : List ℕ) → (a ++ b) ++ c ≡ a ++ (b ++ c)
apart a b c = simp append_assoc

pub tail_read : (written : TimeText) (scale : ScaleText) → AreTimeParts written → AreScaleParts scale → TailRead written scale
tail_read midnight unnamed h k = record { system = None; read = tail_none; names = refl }
tail_read midnight (by_word gap text) h (g, (s, n)) =
    let letters = system_letters text s n in
    record {
      system = Some s;
      read = behind_gap gap text g (letters_first is_blank letter_no_blank text letters) ∙ spaced_word text s (letters_begin text letters) (system_found text s n);
      names = (s, n, refl);
    }
tail_read (after_mark mark clock) scale (inl t, hc) k =
    let r = scale_read scale k in
    let rest = clock_spelling clock ++ scale_spelling scale in
    record {
      system = r.system;
      read = ap tail_of_text (apart mark (clock_spelling clock) (scale_spelling scale)) ∙ mark_read mark rest t ∙ timed_read clock scale r.system hc k r.read;
      names = r.names;
    }
tail_read (after_mark mark clock) scale (inr g, hc) k =
    let r = scale_read scale k in
    let rest = clock_spelling clock ++ scale_spelling scale in
    let begins = clock_begins clock (scale_spelling scale) hc in
    record {
      system = r.system;
      read = ap tail_of_text (apart mark (clock_spelling clock) (scale_spelling scale)) ∙ behind_gap mark rest g (digit_stops_blank rest begins) ∙ spaced_time rest begins ∙ timed_read clock scale r.system hc k r.read;
      names = r.names;
    }

-- a tail begins with no digit
t_no_digit : (b : ℕ) → to_ascii_lowercase b ≡ 116 → is_ascii_digit b ≡ false
t_no_digit b h = grind (arith, nat_tests)

mark_stops : (mark rest : List ℕ) → AreSameLetters mark (codes "T") → Stops is_ascii_digit (mark ++ rest)
mark_stops [] rest e = absurd (cc)
mark_stops (b ∷ t) rest e = t_no_digit b (first_byte (to_ascii_lowercase b) 116 (lowered t) [] e)

pub tail_stops : (written : TimeText) (scale : ScaleText) → AreTimeParts written → AreScaleParts scale → Stops is_ascii_digit (time_spelling written ++ scale_spelling scale)
tail_stops midnight unnamed h k = tt
tail_stops midnight (by_word gap text) h k = gap_no_digit gap text k.0
tail_stops (after_mark mark clock) scale (inl t, hc) k =
    subst (λ (v : List ℕ). Stops is_ascii_digit v) (sym (apart mark (clock_spelling clock) (scale_spelling scale))) (mark_stops mark (clock_spelling clock ++ scale_spelling scale) t)
tail_stops (after_mark mark clock) scale (inr g, hc) k =
    subst (λ (v : List ℕ). Stops is_ascii_digit v) (sym (apart mark (clock_spelling clock) (scale_spelling scale))) (gap_no_digit mark (clock_spelling clock ++ scale_spelling scale) g)

-- what a text was that was read to a time and a scale word
record TimedCut (text : List ℕ) (p : Tail) : Type 0 where
  clock : Clock
  clock_parts : AreClockParts 60 clock
  scale : ScaleText
  scale_parts : AreScaleParts scale
  whole : text ≡ clock_spelling clock ++ scale_spelling scale
  same : p.0 ≡ time (minute_of clock) (second_units clock)
  names : NamesScale scale p.1

same_time : (u : TimeOfDay) (minute units : ℕ) → u.minute ≡ minute → u.units ≡ units → u ≡ time minute units
same_time u minute units e f = ap (λ (n : ℕ). time n u.units) e ∙ ap (λ (n : ℕ). time minute n) f

two_glued : (text a b c d : List ℕ) → text ≡ a ++ b → a ≡ c → b ≡ d → text ≡ c ++ d
two_glued text a b c d e f g = e ∙ ap (λ (v : List ℕ). v ++ b) f ∙ ap (λ (v : List ℕ). c ++ v) g

timed_of : (text : List ℕ) (c : TimeOfDay) (s : Option System) → clock_of 60 (word text) ≡ Some c → scale_of_text (past_word text) ≡ Some s → TimedCut text (c, s)
timed_of text c s e f =
    let k = clock_cut 60 (word text) c e in
    let r = scale_cut (past_word text) s f in
    record {
      clock = k.clock;
      clock_parts = k.parts;
      scale = r.scale;
      scale_parts = r.parts;
      whole = two_glued text (word text) (past_word text) (clock_spelling k.clock) (scale_spelling r.scale) (word_joined text) k.whole r.whole;
      same = same_time c (minute_of k.clock) (second_units k.clock) k.minute_is k.units_are;
      names = r.names;
    }

timed_cut : (text : List ℕ) (p : Tail) → timed text ≡ Some p → TimedCut text p
unfolding timed
timed_cut text p e =
    let last : TimeOfDay → Option System → Option Tail = λ c s. Some (c, s) in
    let next : TimeOfDay → Option Tail = λ c. scale_of_text (past_word text) >>= λ s. Some (c, s) in
    let a = bound (clock_of 60 (word text)) next p e in
    let b = bound (scale_of_text (past_word text)) (last a.0) p a.2 in
    subst (λ (q : Tail). TimedCut text q) (same_Some (a.0, b.0) p b.2) (timed_of text a.0 b.0 a.1 b.1)

-- what a text was that was read to a tail
pub record TailCut (text : List ℕ) (p : TimeOfDay × Option System) : Type 0 where
  pub written : TimeText
  pub time_parts : AreTimeParts written
  pub scale : ScaleText
  pub scale_parts : AreScaleParts scale
  pub whole : text ≡ time_spelling written ++ scale_spelling scale
  pub same : p.0 ≡ time_of written
  pub names : NamesScale scale p.1

marked : (text mark rest : List ℕ) (p : Tail) → IsTimeMark mark → text ≡ mark ++ rest → TimedCut rest p → TailCut text p
marked text mark rest p h e c = record {
  written = after_mark mark c.clock;
  time_parts = (h, c.clock_parts);
  scale = c.scale;
  scale_parts = c.scale_parts;
  whole = e ∙ ap (λ (v : List ℕ). mark ++ v) c.whole ∙ sym (apart mark (clock_spelling c.clock) (scale_spelling c.scale));
  same = c.same;
  names = c.names;
}

same_head : (b c : ℕ) (t : List ℕ) → b ≡ c → b ∷ t ≡ c ∷ t
same_head b c t e = ap (λ (x : ℕ). x ∷ t) e

worded : (text gap rest : List ℕ) (s : System) → IsGap gap → text ≡ gap ++ rest → system_named rest ≡ Some s → TailCut text (start_of_day, Some s)
worded text gap rest s g e f = record {
  written = midnight;
  time_parts = tt;
  scale = by_word gap rest;
  scale_parts = (g, (s, system_is rest s f));
  whole = e;
  same = refl;
  names = (s, system_is rest s f, refl);
}

spaced_cut : (text gap rest : List ℕ) (p : Tail) → IsGap gap → text ≡ gap ++ rest → spaced rest ≡ Some p → TailCut text p
unfolding spaced
spaced_cut text gap rest p g e f =
    elim (cases_Bool (begins_with_digit rest)) [
      | inl h ↦ marked text gap rest p (inr g) e (timed_cut rest p (rw h at f))
      | inr h ↦
          let last : System → Option Tail = λ s. Some (start_of_day, Some s) in
          let a = bound (system_named rest) last p (rw h at f) in
          subst (λ (q : Tail). TailCut text q) (same_Some (start_of_day, Some a.0) p a.2) (worded text gap rest a.0 g e a.1)
    ]

pub tail_cut : (text : List ℕ) (p : TimeOfDay × Option System) → tail_of_text text ≡ Some p → TailCut text p
unfolding tail_of_text
tail_cut [] p e =
    subst (λ (q : Tail). TailCut [] q) (same_Some (start_of_day, None) p e)
    (record { written = midnight; time_parts = tt; scale = unnamed; scale_parts = tt; whole = refl; same = refl; names = refl })
tail_cut (b ∷ t) p e =
    elim (cases_Bool ((b == 84) || (b == 116))) [
      | inl h ↦ marked (b ∷ t) (b ∷ []) t p (inl (same_head (to_ascii_lowercase b) 116 [] (t_lower b h))) refl (timed_cut t p (rw h at e))
      | inr h ↦
          let next : List ℕ → Option Tail = λ u. spaced u in
          let a = bound (past_gap (b ∷ t)) next p (rw h at e) in
          let g = gap_cut (b ∷ t) a.0 a.1 in
          spaced_cut (b ∷ t) g.gap a.0 p g.is_gap g.whole a.2
    ]
