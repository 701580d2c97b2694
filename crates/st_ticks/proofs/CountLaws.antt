-- The count of a string's fields, one field after the other.
use Rattle.std.proofs.Common.{◌≡◌, ℕ, ◌+◌, ◌-◌, ◌*◌, ◌/◌, ◌^◌, ◌<◌, ◌≤◌, zero, suc, true, ◌&&◌, nat_le, min, List, [], ◌∷◌, length, take, drop, get_or, refl, ap, ◌∙◌, arith, add-one}
use Rattle.std.specs.List.{All}
use Rattle.std.proofs.Math.Nat.{mul-div_cancel_left, mul-le-mul_right}
use Rattle.std.proofs.lemmas.Bool.Decides.{nat_tests}
use Rattle.std.proofs.lemmas.List.{drop_more, drop_all}
use Rattle.std.proofs.lemmas.List.Elements.{All-get_or}
use Rattle.std.proofs.lemmas.List.Sums.{AllPass-from_list_all}
use Rattle.std.proofs.lemmas.Nat.{mul-le}
use Rattle.st_text.specs.Bytes.{number_of}
use Rattle.st_text.proofs.Numbers.{number_of-take_more}
use Rattle.st_ticks.specs.Face.{IsField, span, span_of_rest}
use Rattle.st_ticks.specs.Reading.{count_of}
use Rattle.st_ticks.specs.ReadingMachine.{from_offsets, are_small}
use Rattle.st_ticks.specs.declared.field.Field.{Field}
use Rattle.st_text.proofs.Logic.{and-left, and-right}
use Rattle.st_ticks.proofs.FieldLaws.{field_here, fields_there}

abbrev pub no_field : Field
no_field = record { modulus = 0; offset = 0 }

-- no more values: nothing is below an offset, and nothing is counted
pub from_offsets-none : (fs : List Field) → from_offsets fs [] ≡ true
from_offsets-none [] = refl
from_offsets-none (f ∷ fs) = refl

pub count_of-none : (fs : List Field) → count_of fs [] ≡ 0
count_of-none [] = refl
count_of-none (f ∷ fs) = refl

pub from_offsets-end : (fs : List Field) (vs : List ℕ) (i : ℕ) → length vs ≤ i → from_offsets (drop i fs) (drop i vs) ≡ true
from_offsets-end fs vs i h = ap (λ (us : List ℕ). from_offsets (drop i fs) us) (drop_all i vs h) ∙ from_offsets-none (drop i fs)

pub count_of-end : (fs : List Field) (vs : List ℕ) (i : ℕ) → length vs ≤ i → count_of (drop i fs) (drop i vs) ≡ 0
count_of-end fs vs i h = ap (λ (us : List ℕ). count_of (drop i fs) us) (drop_all i vs h) ∙ count_of-none (drop i fs)

pub from_offsets-step : (fs : List Field) (vs : List ℕ) (i : ℕ) → i < length fs → i < length vs
    → from_offsets (drop i fs) (drop i vs) ≡ (nat_le (get_or fs i no_field).offset (get_or vs i 0) && from_offsets (drop (i + 1) fs) (drop (i + 1) vs))
from_offsets-step fs vs i h k = rw (drop_more fs i no_field h, drop_more vs i 0 k) refl

pub count_of-step : (fs : List Field) (vs : List ℕ) (i : ℕ) → i < length fs → i < length vs
    → count_of (drop i fs) (drop i vs) ≡ (get_or vs i 0 - (get_or fs i no_field).offset) * span (drop (i + 1) fs) + count_of (drop (i + 1) fs) (drop (i + 1) vs)
count_of-step fs vs i h k = rw (drop_more fs i no_field h, drop_more vs i 0 k) refl

pub span-step : (fs : List Field) (i : ℕ) → i < length fs → span (drop i fs) ≡ (get_or fs i no_field).modulus * span (drop (i + 1) fs)
span-step fs i h = rw (drop_more fs i no_field h) refl

pub divided : (s m t : ℕ) → 1 ≤ m → s ≡ m * t → s / m ≡ t
divided s m t h e = rw e (mul-div_cancel_left t h)

span_of_drop : (fs : List Field) (i : ℕ) → All IsField fs → span (drop i fs) ≤ span fs
span_of_drop fs zero h = omega arith
span_of_drop [] (suc i) h = omega arith
span_of_drop (f ∷ fs) (suc i) h =
    let some : 1 ≤ f.modulus = (field_here f fs h).some in
    let more : 1 * span fs ≤ f.modulus * span fs = mul-le-mul_right (span fs) some in
    omega (arith, span_of_drop fs i (fields_there f fs h), more)

pub span_small : (fs : List Field) (i : ℕ) → All IsField fs → i < length fs → span (drop (i + 1) fs) ≤ span_of_rest fs
span_small [] i h l = absurd (omega arith)
span_small (f ∷ fs) i h l = rw add-one (span_of_drop fs i (fields_there f fs h))

le_passed : (a b : ℕ) → nat_le a b ≡ true → a ≤ b
le_passed a b h = grind (arith, nat_tests)

pub offset_at : (fs : List Field) (vs : List ℕ) (i : ℕ) → from_offsets fs vs ≡ true → i < length fs → i < length vs → (get_or fs i no_field).offset ≤ get_or vs i 0
offset_at [] vs i t h k = absurd (omega arith)
offset_at (f ∷ fs) [] i t h k = absurd (omega arith)
offset_at (f ∷ fs) (v ∷ vs) zero t h k = le_passed f.offset v (and-left (nat_le f.offset v) (from_offsets fs vs) t)
offset_at (f ∷ fs) (v ∷ vs) (suc i) t h k = offset_at fs vs i (and-right (nat_le f.offset v) (from_offsets fs vs) t) (omega arith) (omega arith)

pub small_at : (vs : List ℕ) (i : ℕ) → are_small vs ≡ true → i < length vs → get_or vs i 0 ≤ 2_000_000_000_000_000_000
small_at vs i t k =
    le_passed (get_or vs i 0) 2_000_000_000_000_000_000
    (All-get_or (λ (v : ℕ). nat_le v 2_000_000_000_000_000_000 ≡ true) vs i 0 k (AllPass-from_list_all (λ v. nat_le v 2_000_000_000_000_000_000) vs t))

-- what one turn of the loop works with: v and o are the value and the offset of its field, m is its modulus
pub record Turn (fs : List Field) (vs : List ℕ) (i spans : ℕ) : Type 0 where
  pub some : 1 ≤ (get_or fs i no_field).modulus
  pub offset : (get_or fs i no_field).offset ≤ get_or vs i 0
  pub value : get_or vs i 0 ≤ 2_000_000_000_000_000_000
  pub next : spans / (get_or fs i no_field).modulus ≡ span (drop (i + 1) fs)
  pub small : span (drop (i + 1) fs) ≤ 10 ^ 12

pub turn : (fs : List Field) (vs : List ℕ) (i spans tpm : ℕ) → All IsField fs → from_offsets fs vs ≡ true → are_small vs ≡ true
    → i < length fs → i < length vs → spans ≡ span (drop i fs) → tpm ≡ span_of_rest fs → tpm ≤ 10 ^ 12 → Turn fs vs i spans
turn fs vs i spans tpm all t u h k e p q =
    let field = All-get_or IsField fs i no_field h all in
    record {
      some = field.some;
      offset = offset_at fs vs i t h k;
      value = small_at vs i u k;
      next = divided spans (get_or fs i no_field).modulus (span (drop (i + 1) fs)) field.some (e ∙ span-step fs i h);
      small = omega (arith, span_small fs i all h, p, q);
    }

pub part_small : (v o s : ℕ) → v ≤ 2_000_000_000_000_000_000 → s ≤ 10 ^ 12 → (v - o) * s ≤ 2 * 10 ^ 30
part_small v o s h k = mul-le (v - o) s 2_000_000_000_000_000_000 1_000_000_000_000 (omega arith) k

pub total_small : (c p i : ℕ) → c ≤ i * (2 * 10 ^ 30) → p ≤ 2 * 10 ^ 30 → c + p ≤ (i + 1) * (2 * 10 ^ 30)
total_small c p i h k = omega arith

-- numbers that are kept up to a cap, one digit more
pub capped_more : (digits : List ℕ) (i n d : ℕ) → i < length digits → n ≡ min (number_of (take i digits)) 2_000_000_000_000_000_001
    → d ≡ get_or digits i 0 - 48 → min (10 * n + d) 2_000_000_000_000_000_001 ≡ min (number_of (take (i + 1) digits)) 2_000_000_000_000_000_001
capped_more digits i n d h e f = omega (arith, number_of-take_more digits i h, e, f)
