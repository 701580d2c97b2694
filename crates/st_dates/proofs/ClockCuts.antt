-- A text that was read to a time is the spelling of it.
use Rattle.std.proofs.Common.{◌≡◌, ℕ, true, ◌==◌, ◌&&◌, ◌+◌, ◌-◌, ◌*◌, ◌^◌, ◌⊎◌, nat_le, inl, inr, refl, sym, ap, ◌∙◌, arith, List, [], ◌∷◌, ◌++◌, length, Option, Some, None, IfSome}
use Rattle.std.proofs.lemmas.Bool.{cases_Bool}
use Rattle.std.proofs.lemmas.Bool.Decides.{nat_tests}
use Rattle.std.proofs.lemmas.List.{append-nil}
use Rattle.std.specs.Char.{is_ascii_digit}
use Rattle.st_text.specs.Bytes.{number_of}
use Rattle.st_text.specs.Scan.{IsDigitRun, ◌>>=◌, leading_digits, past_digits, after, is_digit_run}
use Rattle.st_dates.specs.TimeText.{Clock, minutes, seconds, decimals, clock_spelling, IsField, AreClockParts, minute_of, second_units, SpellsClock}
use Rattle.st_dates.specs.TimeTextMachine.{field, decimal_units, seconds_of, clock_of}
use Rattle.st_dates.specs.declared.clock.TimeOfDay.{TimeOfDay}
use Rattle.std.proofs.lemmas.Option.{same_Some}
use Rattle.st_text.proofs.Logic.{and-left, and-right, bound}
use Rattle.st_text.proofs.Runs.{joined, after_is, digits_tested}
use Rattle.st_dates.proofs.ClockForms.{at_most_tested, time, clock_read}

record FieldCut (last : ℕ) (text : List ℕ) (p : ℕ × List ℕ) : Type 0 where
  part : List ℕ
  is_field : IsField last part
  whole : text ≡ part ++ p.1
  number : p.0 ≡ number_of part

field_cut : (last : ℕ) (text : List ℕ) (p : ℕ × List ℕ) → field last text ≡ Some p → FieldCut last text p
unfolding field
field_cut last text p e =
    elim (cases_Bool (is_digit_run 1 2 (leading_digits text) && nat_le (number_of (leading_digits text)) last)) [
      | inl h ↦
          let same : ◌≡◌ {A = ℕ × List ℕ} (number_of (leading_digits text), past_digits text) p = same_Some (number_of (leading_digits text), past_digits text) p (rw h at e) in
          record {
            part = leading_digits text;
            is_field = record {
              digits = digits_tested 1 2 (leading_digits text) (and-left (is_digit_run 1 2 (leading_digits text)) (nat_le (number_of (leading_digits text)) last) h);
              within = at_most_tested (number_of (leading_digits text)) last (and-right (is_digit_run 1 2 (leading_digits text)) (nat_le (number_of (leading_digits text)) last) h);
            };
            whole = sym (joined is_ascii_digit text) ∙ ap (λ (q : ℕ × List ℕ). leading_digits text ++ q.1) same;
            number = ap (λ (q : ℕ × List ℕ). q.0) (sym same);
          }
      | inr h ↦ absurd (let no = rw h at e in cc)
    ]

record DecimalCut (text : List ℕ) (u : ℕ) : Type 0 where
  part : List ℕ
  part_digits : IsDigitRun 1 12 part
  whole : text ≡ 46 ∷ part
  units : u ≡ number_of part * 10 ^ (18 - length part)

decimals_none : decimal_units [] ≡ Some 0
unfolding decimal_units
decimals_none = refl

seconds_none : (last : ℕ) → seconds_of last [] ≡ Some 0
unfolding seconds_of
seconds_none last = refl

same_byte : (a b : ℕ) → (a == b) ≡ true → a ≡ b
same_byte a b h = grind (arith, nat_tests)

same_cons : (a b : ℕ) (t : List ℕ) → a ≡ b → a ∷ t ≡ b ∷ t
same_cons a b t e = ap (λ (x : ℕ). x ∷ t) e

point_cut : (b : ℕ) (t : List ℕ) (u : ℕ) → decimal_units (b ∷ t) ≡ Some u → DecimalCut (b ∷ t) u
unfolding decimal_units
point_cut b t u e =
    elim (cases_Bool ((b == 46) && is_digit_run 1 12 t)) [
      | inl h ↦ record {
        part = t;
        part_digits = digits_tested 1 12 t (and-right (b == 46) (is_digit_run 1 12 t) h);
        whole = same_cons b 46 t (same_byte b 46 (and-left (b == 46) (is_digit_run 1 12 t) h));
        units = sym (same_Some (number_of t * 10 ^ (18 - length t)) u (rw h at e));
      }
      | inr h ↦ absurd (let no = rw h at e in cc)
    ]

decimal_cut : (text : List ℕ) (u : ℕ) → decimal_units text ≡ Some u → ((text ≡ []) × (u ≡ 0)) ⊎ DecimalCut text u
decimal_cut [] u e = inl (refl, same_Some u 0 (sym e ∙ decimals_none))
decimal_cut (b ∷ t) u e = inr (point_cut b t u e)

second_sum : (s part u : ℕ) (text : List ℕ) → ◌≡◌ {A = Option ℕ} (Some (s * 10 ^ 18 + part)) (Some u) → s ≡ number_of text → u ≡ number_of text * 10 ^ 18 + part
second_sum s part u text e f =
    sym (same_Some (s * 10 ^ 18 + part) u e) ∙ ap (λ (n : ℕ). n * 10 ^ 18 + part) f

glued_clock : (text hour rest t minute tail : List ℕ) → text ≡ hour ++ rest → rest ≡ 58 ∷ t → t ≡ minute ++ tail → text ≡ hour ++ (58 ∷ (minute ++ tail))
glued_clock text hour rest t minute tail e f g =
    e ∙ ap (λ (v : List ℕ). hour ++ v) (f ∙ ap (λ (v : List ℕ). 58 ∷ v) g)

-- seconds with what follows them
record SecondCut (last : ℕ) (text : List ℕ) (u : ℕ) : Type 0 where
  second : List ℕ
  is_field : IsField last second
  rest : List ℕ
  whole : text ≡ 58 ∷ (second ++ rest)
  part : ℕ
  part_read : decimal_units rest ≡ Some part
  units : u ≡ number_of second * 10 ^ 18 + part

colon_cut : (top b : ℕ) (t : List ℕ) (u : ℕ) → seconds_of top (b ∷ t) ≡ Some u → SecondCut top (b ∷ t) u
unfolding seconds_of
colon_cut top b t u e =
    let last : ℕ → ℕ → Option ℕ = λ s part. Some (s * 10 ^ 18 + part) in
    let then : ℕ × List ℕ → Option ℕ = λ s. decimal_units s.1 >>= λ part. Some (s.0 * 10 ^ 18 + part) in
    let next : List ℕ → Option ℕ = λ v. field top v >>= λ s. decimal_units s.1 >>= λ part. Some (s.0 * 10 ^ 18 + part) in
    let a = bound (after 58 (b ∷ t)) next u e in
    let f = bound (field top a.0) then u a.2 in
    let d = bound (decimal_units f.0.1) (last f.0.0) u f.2 in
    let cut = field_cut top a.0 f.0 f.1 in
    record {
      second = cut.part;
      is_field = cut.is_field;
      rest = f.0.1;
      whole = after_is 58 (b ∷ t) a.0 a.1 ∙ ap (λ (v : List ℕ). 58 ∷ v) cut.whole;
      part = d.0;
      part_read = d.1;
      units = second_sum f.0.0 d.0 u cut.part d.2 cut.number;
    }

second_cut : (last : ℕ) (text : List ℕ) (u : ℕ) → seconds_of last text ≡ Some u → ((text ≡ []) × (u ≡ 0)) ⊎ SecondCut last text u
second_cut last [] u e = inl (refl, same_Some u 0 (sym e ∙ seconds_none last))
second_cut last (b ∷ t) u e = inr (colon_cut last b t u e)

-- hours and minutes with what follows them
record MinuteCut (last : ℕ) (text : List ℕ) (u : TimeOfDay) : Type 0 where
  hour : List ℕ
  minute_part : List ℕ
  hour_field : IsField 23 hour
  minute_field : IsField 59 minute_part
  rest : List ℕ
  whole : text ≡ hour ++ (58 ∷ (minute_part ++ rest))
  seconds_read : seconds_of last rest ≡ Some u.units
  minute_is : u.minute ≡ 60 * number_of hour + number_of minute_part

minute_sum : (h m s : ℕ) (u : TimeOfDay) (hour part : List ℕ) → ◌≡◌ {A = Option TimeOfDay} (Some (time (60 * h + m) s)) (Some u) → h ≡ number_of hour → m ≡ number_of part → u.minute ≡ 60 * number_of hour + number_of part
minute_sum h m s u hour part e f g =
    ap (λ (v : TimeOfDay). v.minute) (sym (same_Some (time (60 * h + m) s) u e))
    ∙ ap (λ (n : ℕ). 60 * n + m) f
    ∙ ap (λ (n : ℕ). 60 * number_of hour + n) g

minute_cut : (last : ℕ) (text : List ℕ) (u : TimeOfDay) → clock_of last text ≡ Some u → MinuteCut last text u
unfolding clock_of
minute_cut top text u e =
    let last : ℕ → ℕ → ℕ → Option TimeOfDay = λ h m units. Some (time (60 * h + m) units) in
    let then : ℕ → ℕ × List ℕ → Option TimeOfDay = λ h m. seconds_of top m.1 >>= λ units. Some (time (60 * h + m.0) units) in
    let next : ℕ → List ℕ → Option TimeOfDay = λ h t. field 59 t >>= λ m. seconds_of top m.1 >>= λ units. Some (time (60 * h + m.0) units) in
    let first : ℕ × List ℕ → Option TimeOfDay = λ h. after 58 h.1 >>= λ t. field 59 t >>= λ m. seconds_of top m.1 >>= λ units. Some (time (60 * h.0 + m.0) units) in
    let h = bound (field 23 text) first u e in
    let a = bound (after 58 h.0.1) (next h.0.0) u h.2 in
    let m = bound (field 59 a.0) (then h.0.0) u a.2 in
    let s = bound (seconds_of top m.0.1) (last h.0.0 m.0.0) u m.2 in
    let hour = field_cut 23 text h.0 h.1 in
    let minute = field_cut 59 a.0 m.0 m.1 in
    record {
      hour = hour.part;
      minute_part = minute.part;
      hour_field = hour.is_field;
      minute_field = minute.is_field;
      rest = m.0.1;
      whole = glued_clock text hour.part h.0.1 a.0 minute.part m.0.1 hour.whole (after_is 58 h.0.1 a.0 a.1) minute.whole;
      seconds_read = s.1 ∙ ap (λ (v : TimeOfDay). Some v.units) (same_Some (time (60 * h.0.0 + m.0.0) s.0) u s.2);
      minute_is = minute_sum h.0.0 m.0.0 s.0 u hour.part minute.part s.2 hour.number minute.number;
    }

-- what a text was that was read to a time
pub record ClockCut (last : ℕ) (text : List ℕ) (u : TimeOfDay) : Type 0 where
  pub clock : Clock
  pub parts : AreClockParts last clock
  pub whole : text ≡ clock_spelling clock
  pub minute_is : u.minute ≡ minute_of clock
  pub units_are : u.units ≡ second_units clock

to_minutes : (last : ℕ) (text : List ℕ) (u : TimeOfDay) (c : MinuteCut last text u) → c.rest ≡ [] → u.units ≡ 0 → ClockCut last text u
to_minutes last text u c e z = record {
  clock = minutes c.hour c.minute_part;
  parts = (c.hour_field, c.minute_field);
  whole = c.whole ∙ ap (λ (t : List ℕ). c.hour ++ (58 ∷ (c.minute_part ++ t))) e ∙ ap (λ (t : List ℕ). c.hour ++ (58 ∷ t)) (append-nil c.minute_part);
  minute_is = c.minute_is;
  units_are = z;
}

no_part : (n : ℕ) → n + 0 ≡ n
no_part n = omega arith

to_seconds : (last : ℕ) (text : List ℕ) (u : TimeOfDay) (c : MinuteCut last text u) (s : SecondCut last c.rest u.units) → s.rest ≡ [] → s.part ≡ 0 → ClockCut last text u
to_seconds last text u c s e z = record {
  clock = seconds c.hour c.minute_part s.second;
  parts = (c.hour_field, c.minute_field, s.is_field);
  whole = c.whole ∙ ap (λ (t : List ℕ). c.hour ++ (58 ∷ (c.minute_part ++ t))) (s.whole ∙ ap (λ (t : List ℕ). 58 ∷ (s.second ++ t)) e ∙ ap (λ (t : List ℕ). 58 ∷ t) (append-nil s.second));
  minute_is = c.minute_is;
  units_are = s.units ∙ ap (λ (n : ℕ). number_of s.second * 10 ^ 18 + n) z ∙ no_part (number_of s.second * 10 ^ 18);
}

to_decimals : (last : ℕ) (text : List ℕ) (u : TimeOfDay) (c : MinuteCut last text u) (s : SecondCut last c.rest u.units) → DecimalCut s.rest s.part → ClockCut last text u
to_decimals last text u c s d = record {
  clock = decimals c.hour c.minute_part s.second d.part;
  parts = (c.hour_field, c.minute_field, s.is_field, d.part_digits);
  whole = c.whole ∙ ap (λ (t : List ℕ). c.hour ++ (58 ∷ (c.minute_part ++ t))) (s.whole ∙ ap (λ (t : List ℕ). 58 ∷ (s.second ++ t)) d.whole);
  minute_is = c.minute_is;
  units_are = s.units ∙ ap (λ (n : ℕ). number_of s.second * 10 ^ 18 + n) d.units;
}

pub clock_cut : (last : ℕ) (text : List ℕ) (u : TimeOfDay) → clock_of last text ≡ Some u → ClockCut last text u
clock_cut last text u e =
    let c = minute_cut last text u e in
    elim (second_cut last c.rest u.units c.seconds_read) [
      | inl h ↦ to_minutes last text u c h.0 h.1
      | inr s ↦ elim (decimal_cut s.rest s.part s.part_read) [
        | inl h ↦ to_seconds last text u c s h.0 h.1
        | inr d ↦ to_decimals last text u c s d
      ]
    ]

-- the clauses of the reader
pub spelled : (last : ℕ) (text : List ℕ) (o : Option TimeOfDay) → o ≡ clock_of last text → IfSome o (SpellsClock last text)
spelled last text None e = tt
spelled last text (Some u) e =
    let c = clock_cut last text u (sym e) in (c.clock, c.parts, c.whole, c.minute_is, c.units_are)

same_time : (a : TimeOfDay) (minute units : ℕ) → a.minute ≡ minute → a.units ≡ units → time minute units ≡ a
same_time a minute units e f = sym (ap (λ (n : ℕ). time n a.units) e ∙ ap (λ (n : ℕ). time minute n) f)

pub only : (last : ℕ) (text : List ℕ) (u : TimeOfDay) → SpellsClock last text u → clock_of last text ≡ Some u
only last text u (clock, parts, whole, minute, units) =
    ap (clock_of last) whole
    ∙ clock_read last clock parts
    ∙ ap Some (same_time u (minute_of clock) (second_units clock) minute units)
