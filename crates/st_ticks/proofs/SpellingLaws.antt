-- Printed fields, one after the other.
use Rattle.std.proofs.Common.{◌≡◌, ℕ, ◌+◌, ◌-◌, ◌/◌, ◌%◌, ◌^◌, ◌<◌, ◌≤◌, zero, suc, List, [], ◌∷◌, ◌++◌, length, drop, get_or, refl, sym, ap, arith, length-append}
use Rattle.std.specs.Int.Digits.{digits_of}
use Rattle.std.specs.List.{join_with_byte}
use Rattle.std.proofs.lemmas.Int.Digits.{length-digits_of_step, length-digits_of-le}
use Rattle.std.proofs.lemmas.List.{drop_more, length-replicate, length-map}
use Rattle.st_text.specs.Bytes.{decimal_digits}
use Rattle.st_ticks.specs.Face.{span}
use Rattle.st_ticks.specs.SpellingMachine.{field_text, more_text, fields_text}
use Rattle.st_ticks.specs.Tick.{fields_of, field_texts}
use Rattle.st_ticks.specs.declared.field.Field.{Field}
use Rattle.st_ticks.proofs.CountLaws.{no_field}

-- a number has one digit, or as many as are written for it
pub length-decimal : (n : ℕ) → length (decimal_digits n) ≡ (1 - length (digits_of 10 n)) + length (digits_of 10 n)
length-decimal n = simp (length-append, length-replicate, length-map)

pub digits_begun : (n : ℕ) → 1 + length (digits_of 10 (n / 10)) ≡ length (decimal_digits n)
digits_begun zero = refl
digits_begun (suc n) = omega (arith, length-decimal (suc n), length-digits_of_step 10 (suc n) (omega arith) (omega arith))

pub digits_more : (digits n m : ℕ) → 0 < n → digits + length (digits_of 10 n) ≡ m → digits + 1 + length (digits_of 10 (n / 10)) ≡ m
digits_more digits n m h e = omega (arith, length-digits_of_step 10 n (omega arith) h)

pub digits_few : (n : ℕ) → n < 2 ^ 64 → length (decimal_digits n) ≤ 20
digits_few n h =
    let few : length (digits_of 10 n) ≤ 20 = length-digits_of-le 10 20 n (omega arith) (omega arith) in
    omega (arith, length-decimal n)

pub more_text-step : (d : ℕ) (fs : List Field) (i n : ℕ) → i < length fs
    → more_text d (drop i fs) n ≡ d ∷ (field_text (get_or fs i no_field) (drop (i + 1) fs) n ++ more_text d (drop (i + 1) fs) (n % span (drop (i + 1) fs)))
unfolding more_text
more_text-step d fs i n h = rw (drop_more fs i no_field h) refl

pub more_text-none : (d n : ℕ) → more_text d [] n ≡ []
unfolding more_text
more_text-none d n = refl

-- the fields with the delimiter between them
joined_first : (d : ℕ) (t : List ℕ) (f : Field) (fs : List Field) (n : ℕ)
    → join_with_byte d (t ∷ field_texts (f ∷ fs) (fields_of (f ∷ fs) n)) ≡ t ++ (d ∷ join_with_byte d (field_texts (f ∷ fs) (fields_of (f ∷ fs) n)))
joined_first d t f fs n = refl

more_is_joined : (d : ℕ) (t : List ℕ) (fs : List Field) (n : ℕ) → join_with_byte d (t ∷ field_texts fs (fields_of fs n)) ≡ t ++ more_text d fs n
unfolding more_text
more_is_joined d t [] n = append_none t
  where
    append_none : (u : List ℕ) → u ≡ u ++ []
    append_none [] = refl
    append_none (b ∷ u) = ap (λ (v : List ℕ). b ∷ v) (append_none u)
more_is_joined d t (f ∷ fs) n = ap (λ (u : List ℕ). t ++ (d ∷ u)) (more_is_joined d (field_text f fs n) fs (n % span fs))

pub fields_text-joined : (d : ℕ) (fs : List Field) (n : ℕ) → fields_text d fs n ≡ join_with_byte d (field_texts fs (fields_of fs n))
unfolding fields_text
fields_text-joined d [] n = refl
fields_text-joined d (f ∷ fs) n = sym (more_is_joined d (field_text f fs n) fs (n % span fs))
