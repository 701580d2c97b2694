-- A decimal is read exactly, but for one that is far out of the range.
use Rattle.std.proofs.Common.{◌≡◌, ℕ, true, false, ◌+◌, ◌-◌, ◌*◌, ◌^◌, ◌<◌, ◌≤◌, ◌==◌, min, inl, inr, refl, sym, ap, ◌∙◌, arith, List, [], ◌∷◌, ◌++◌, length, take, get_or, Option, Some, None}
use Rattle.std.proofs.lemmas.Bool.{cases_Bool}
use Rattle.std.proofs.lemmas.Bool.Decides.{nat_tests}
use Rattle.std.proofs.lemmas.Option.{same_Some}
use Rattle.std.specs.Char.{is_ascii_digit}
use Rattle.st_text.specs.Bytes.{are_digits}
use Rattle.st_text.specs.Scan.{leading_digits, past_digits}
use Rattle.st_text.proofs.Logic.{bound}
use Rattle.st_text.proofs.Numbers.{number_of-take_more}
use Rattle.st_text.proofs.Runs.{Stops, leading-at, behind-at, joined, leading_passes}
use Rattle.st_dates.specs.Decimals.{SpellsDecimals, units_of_decimals}
use Rattle.st_dates.specs.TimeTextMachine.{decimal_units}
use Rattle.st_dates.proofs.DecimalLaws.{decimals_spell, decimals_only}
use Rattle.st_decimal.specs.Number.{pointed}
use Rattle.st_forms.specs.NumberForm.{NumberText, number_spelling, AreDecimals, AreNumberParts, decimal_part}
use Rattle.st_forms.specs.NumberMachine.{capped, number_of_text}
use Rattle.st_forms.specs.declared.number.TheConstants.{FAR}

-- the loop's step
pub next_digit : (digits : List ℕ) (i n d next : ℕ) → i < length digits → n ≡ capped (take i digits) → d ≡ get_or digits i 0 - 48 → next ≡ min FAR (10 * n + d) → next ≡ capped (take (i + 1) digits)
next_digit digits i n d next h e f g = omega (arith, number_of-take_more digits i h)

-- what is read of a decimal
abbrev pub read_units : NumberText → ℕ
read_units n = capped n.whole * 10 ^ 18 + decimal_part n.decimals

point_stops : (o : Option (List ℕ)) → Stops is_ascii_digit (pointed o)
point_stops None = tt
point_stops (Some digits) = refl

part_read : (o : Option (List ℕ)) → AreDecimals o → decimal_units (pointed o) ≡ Some (decimal_part o)
part_read None h = decimals_only [] 0 refl
part_read (Some digits) h = decimals_only (46 ∷ digits) (units_of_decimals digits) (refl, h, refl)

some_digits : (n : ℕ) → 1 ≤ n → (n == 0) ≡ false
some_digits n h = grind (arith, nat_tests)

-- a decimal before a text that neither goes on with a digit nor has its own point
number_then : (whole rest : List ℕ) (part : ℕ) → are_digits whole ≡ true → 1 ≤ length whole → Stops is_ascii_digit rest → decimal_units rest ≡ Some part → number_of_text (whole ++ rest) ≡ Some (capped whole * 10 ^ 18 + part)
unfolding number_of_text
number_then whole rest part h some s e =
    rw (leading-at is_ascii_digit whole rest h s, behind-at is_ascii_digit whole rest h s, some_digits (length whole) some, e) refl

-- a spelled decimal is read
pub number_read : (n : NumberText) → AreNumberParts n → number_of_text (number_spelling n) ≡ Some (read_units n)
number_read n h =
    number_then n.whole (pointed n.decimals) (decimal_part n.decimals) h.digits h.some (point_stops n.decimals) (part_read n.decimals h.decimals)

-- digits before another text than decimals are no decimal
pub number_stops : (whole rest : List ℕ) → are_digits whole ≡ true → Stops is_ascii_digit rest → decimal_units rest ≡ None → number_of_text (whole ++ rest) ≡ None
unfolding number_of_text
number_stops whole rest h s e =
    elim (cases_Bool (length whole == 0)) [
      | inl z ↦ rw (leading-at is_ascii_digit whole rest h s, behind-at is_ascii_digit whole rest h s, z) refl
      | inr z ↦ rw (leading-at is_ascii_digit whole rest h s, behind-at is_ascii_digit whole rest h s, z, e) refl
    ]

-- nor is a text that begins with no digit
pub number_none : (text : List ℕ) → Stops is_ascii_digit text → number_of_text text ≡ None
unfolding number_of_text
number_none text s = rw (leading-at is_ascii_digit [] text refl s) refl

pub record NumberCut (text : List ℕ) (units : ℕ) : Type 0 where
  pub number : NumberText
  pub parts : AreNumberParts number
  pub whole : text ≡ number_spelling number
  pub same : units ≡ read_units number

record PartCut (text : List ℕ) (units : ℕ) : Type 0 where
  decimals : Option (List ℕ)
  are : AreDecimals decimals
  whole : text ≡ pointed decimals
  same : units ≡ decimal_part decimals

part_of : (text : List ℕ) (units : ℕ) → SpellsDecimals text units → PartCut text units
part_of [] units e = record { decimals = None; are = tt; whole = refl; same = e }
part_of (b ∷ digits) units (e, h, f) = record {
  decimals = Some digits;
  are = h;
  whole = ap (λ (c : ℕ). c ∷ digits) e;
  same = f;
}

at_least_one : (n : ℕ) → (n == 0) ≡ false → 1 ≤ n
at_least_one n h = grind (arith, nat_tests)

sum_same : (n part units p : ℕ) → n * 10 ^ 18 + part ≡ units → part ≡ p → units ≡ n * 10 ^ 18 + p
sum_same n part units p e f = sym e ∙ ap (λ (m : ℕ). n * 10 ^ 18 + m) f

pub number_cut : (text : List ℕ) (units : ℕ) → number_of_text text ≡ Some units → NumberCut text units
unfolding number_of_text
number_cut text units e =
    elim (cases_Bool (length (leading_digits text) == 0)) [
      | inl none ↦ absurd (let nothing = rw none at e in cc)
      | inr some ↦
          let next : ℕ → Option ℕ = λ part. Some (capped (leading_digits text) * 10 ^ 18 + part) in
          let d = bound (decimal_units (past_digits text)) next units (rw some at e) in
          let p = part_of (past_digits text) d.0 (decimals_spell (past_digits text) d.0 d.1) in
          record {
            number = record { whole = leading_digits text; decimals = p.decimals };
            parts = record { digits = leading_passes is_ascii_digit text; some = at_least_one (length (leading_digits text)) some; decimals = p.are };
            whole = sym (joined is_ascii_digit text) ∙ ap (λ (t : List ℕ). leading_digits text ++ t) p.whole;
            same = sum_same (capped (leading_digits text)) d.0 units (decimal_part p.decimals) (same_Some (capped (leading_digits text) * 10 ^ 18 + d.0) units d.2) p.same;
          }
    ]
