-- Records that are gathered one by one.
use Rattle.std.proofs.Common.{◌≡◌, ℕ, zero, suc, ◌+◌, ◌*◌, ◌/◌, ◌%◌, ◌<◌, ◌≤◌, ℤ, List, [], ◌∷◌, ◌++◌, length, get_or, Some, slice_get, subst, arith}
use Rattle.std.proofs.lemmas.Option.{slice_get-get_or}
use Rattle.st_decimal.specs.declared.number.Dec.{Dec}
use Rattle.st_clock.specs.declared.coefficient.Coefficient.{Coefficient}
use Rattle.st_ticks.specs.declared.variable.ClockWhy.TheVariants.{Range}
use Rattle.st_clock.specs.Parts.{IsTick, IsTime, IsRate, IsRecordAt, AreRecords, KeepsCoefficients}

-- what stands at a place after one more element: what stood there, or the new one
pub pushed : (P : ℕ → Coefficient → Type 0) (xs : List Coefficient) (x : Coefficient) → ((i : ℕ) (r : Coefficient) → slice_get xs i ≡ Some r → P i r) → P (length xs) x
    → (i : ℕ) (r : Coefficient) → slice_get (xs ++ x ∷ []) i ≡ Some r → P i r
pushed P [] x old new zero r g = subst (P 0) (same x r g) new
  where
    same : (a b : Coefficient) → Some a ≡ Some b → a ≡ b
    same a b e = cc
pushed P [] x old new (suc i) r g = absurd (none r g)
  where
    none : (r : Coefficient) → slice_get [] i ≡ Some r → ⊥
    none r e = cc
pushed P (y ∷ ys) x old new zero r g = old 0 r g
pushed P (y ∷ ys) x old new (suc i) r g = pushed (λ j. P (suc j)) ys x (λ j s h. old (suc j) s h) new i r g

-- the values at the places of a record
pub first_here : (values : List Dec) (i : ℕ) (d : Dec) → 3 * i < length values → slice_get values (3 * i + 0) ≡ Some (get_or values (3 * i) d)
first_here values i d l = let z : 3 * i + 0 ≡ 3 * i = omega arith in rw z (slice_get-get_or values (3 * i) d l)

pub record_at_place : (values : List Dec) (i : ℕ) (a b d : Dec) (r : Coefficient) → 3 * i + 2 < length values
    → IsTick (get_or values (3 * i) a) r.ticks → IsTime (get_or values (3 * i + 1) b) r.time → IsRate (get_or values (3 * i + 2) d) r.rate → IsRecordAt values i r
record_at_place values i a b d r l t u w = record {
  tick = get_or values (3 * i) a;
  tick_here = first_here values i a (omega arith);
  tick_is = t;
  time = get_or values (3 * i + 1) b;
  time_here = slice_get-get_or values (3 * i + 1) b (omega arith);
  time_is = u;
  rate = get_or values (3 * i + 2) d;
  rate_here = slice_get-get_or values (3 * i + 2) d l;
  rate_is = w;
}

pub out_of_range : (values : List Dec) (i : ℕ) (a b d : Dec) → 3 * i + 2 < length values
    → (((n : ℕ) × IsTick (get_or values (3 * i) a) n) → ((u : ℤ) × IsTime (get_or values (3 * i + 1) b) u) → ((n : ℕ) × IsRate (get_or values (3 * i + 2) d) n) → ⊥)
    → KeepsCoefficients values Range → ⊥
out_of_range values i a b d l never h =
    never (h.0 i (get_or values (3 * i) a) (first_here values i a (omega arith)))
    (h.1.0 i (get_or values (3 * i + 1) b) (slice_get-get_or values (3 * i + 1) b (omega arith)))
    (h.1.1 i (get_or values (3 * i + 2) d) (slice_get-get_or values (3 * i + 2) d l))

pub third_within : (n i : ℕ) → i < n / 3 → 3 * i + 2 < n
third_within n i h = omega arith

-- as many records as thirds of the values
pub gathered : (values : List Dec) (records : List Coefficient) (i : ℕ) → length values % 3 ≡ 0 → length values / 3 ≤ i → i ≤ length values / 3 → length records ≡ i
    → ((j : ℕ) (r : Coefficient) → slice_get records j ≡ Some r → IsRecordAt values j r) → AreRecords values records
gathered values records i m l k e each = record { as_many = omega arith; each = each }
