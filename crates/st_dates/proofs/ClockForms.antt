-- The spelling of a time is read to that time.
use Rattle.std.proofs.Common.{◌≡◌, ℕ, true, ◌≤◌, ◌+◌, ◌-◌, ◌*◌, ◌^◌, nat_le, refl, sym, ap, ◌∙◌, arith, List, [], ◌∷◌, ◌++◌, length, Some}
use Rattle.std.proofs.lemmas.Bool.Decides.{nat_tests}
use Rattle.std.proofs.lemmas.List.{append-nil}
use Rattle.std.specs.Char.{is_ascii_digit}
use Rattle.st_text.specs.Bytes.{number_of}
use Rattle.st_text.specs.Scan.{IsDigitRun}
use Rattle.st_dates.specs.Decimals.{units_of_decimals}
use Rattle.st_dates.specs.TimeText.{Clock, minutes, seconds, decimals, clock_spelling, IsField, AreClockParts, minute_of, second_units}
use Rattle.st_dates.specs.TimeTextMachine.{field, decimal_units, seconds_of, clock_of}
use Rattle.st_dates.specs.declared.clock.TimeOfDay.{TimeOfDay}
use Rattle.st_text.proofs.Runs.{Stops, digits_at, past_at, digits_test, after_byte}

at_most_test : (n last : ℕ) → n ≤ last → nat_le n last ≡ true
at_most_test n last h = grind (arith, nat_tests)

pub at_most_tested : (n last : ℕ) → nat_le n last ≡ true → n ≤ last
at_most_tested n last h = grind (arith, nat_tests)

field_read : (last : ℕ) (text rest : List ℕ) → IsField last text → Stops is_ascii_digit rest → field last (text ++ rest) ≡ Some (number_of text, rest)
unfolding field
field_read last text rest h s =
    rw (digits_at 1 2 text rest h.digits s, past_at 1 2 text rest h.digits s, digits_test 1 2 text h.digits, at_most_test (number_of text) last h.within) refl

field_end : (last : ℕ) (text : List ℕ) → IsField last text → field last text ≡ Some (number_of text, [])
field_end last text h = ap (λ (t : List ℕ). field last t) (sym (append-nil text)) ∙ field_read last text [] h tt

decimals_none : decimal_units [] ≡ Some 0
unfolding decimal_units
decimals_none = refl

decimals_read : (f : List ℕ) → IsDigitRun 1 12 f → decimal_units (46 ∷ f) ≡ Some (number_of f * 10 ^ (18 - length f))
unfolding decimal_units
decimals_read f h = rw (digits_test 1 12 f h) refl

seconds_none : (last : ℕ) → seconds_of last [] ≡ Some 0
unfolding seconds_of
seconds_none last = refl

seconds_end : (last : ℕ) (s : List ℕ) → IsField last s → seconds_of last (58 ∷ s) ≡ Some (number_of s * 10 ^ 18 + 0)
unfolding seconds_of
seconds_end last s h = rw (after_byte 58 s, field_end last s h, decimals_none) refl

seconds_read : (last : ℕ) (s f : List ℕ) → IsField last s → IsDigitRun 1 12 f → seconds_of last (58 ∷ (s ++ (46 ∷ f))) ≡ Some (number_of s * 10 ^ 18 + units_of_decimals f)
unfolding seconds_of
seconds_read last s f h k =
    rw (after_byte 58 (s ++ (46 ∷ f)), field_read last s (46 ∷ f) h refl, decimals_read f k) refl

-- the time of these minutes and units
abbrev pub time : ℕ → ℕ → TimeOfDay
time minute units = record { minute = minute; units = units }

clock_then : (last : ℕ) (h m tail : List ℕ) (u : ℕ) → IsField 23 h → IsField 59 m → Stops is_ascii_digit tail → seconds_of last tail ≡ Some u → clock_of last (h ++ (58 ∷ (m ++ tail))) ≡ Some (time (60 * number_of h + number_of m) u)
unfolding clock_of
clock_then last h m tail u hh hm s e =
    rw (field_read 23 h (58 ∷ (m ++ tail)) hh refl, after_byte 58 (m ++ tail), field_read 59 m tail hm s, e) refl

no_part : (n : ℕ) → n + 0 ≡ n
no_part n = omega arith

-- a spelled time is read
pub clock_read : (last : ℕ) (c : Clock) → AreClockParts last c → clock_of last (clock_spelling c) ≡ Some (time (minute_of c) (second_units c))
clock_read last (minutes h m) (hh, hm) =
    ap (λ (t : List ℕ). clock_of last (h ++ (58 ∷ t))) (sym (append-nil m))
    ∙ clock_then last h m [] 0 hh hm tt (seconds_none last)
clock_read last (seconds h m s) (hh, hm, hs) =
    clock_then last h m (58 ∷ s) (number_of s * 10 ^ 18 + 0) hh hm refl (seconds_end last s hs)
    ∙ ap (λ (u : ℕ). Some (time (60 * number_of h + number_of m) u)) (no_part (number_of s * 10 ^ 18))
clock_read last (decimals h m s f) (hh, hm, hs, hf) =
    clock_then last h m (58 ∷ (s ++ (46 ∷ f))) (number_of s * 10 ^ 18 + units_of_decimals f) hh hm refl (seconds_read last s f hs hf)
