-- A number with fixed decimals is read as what it is worth.
use Rattle.std.proofs.Common.{◌≡◌, ℕ, zero, suc, ◌-◌, ◌*◌, ◌/◌, ◌%◌, ◌^◌, ◌<◌, ◌≤◌, ℤ, pos, negsuc, neg_ℤ, ◌+ℤ◌, ◌-ℤ◌, ◌*ℤ◌, ◌==◌, if◌then◌else◌, Bool, true, false, inl, inr, List, [], ◌∷◌, ◌++◌, append_assoc, length, length-append, replicate, Option, Some, None, Ok, refl, sym, ap, ◌∙◌, subst, arith}
use Rattle.std.proofs.lemmas.Bool.{and_from, cases_lt, cond-false}
use Rattle.std.proofs.lemmas.Bool.Decides.{nat_tests}
use Rattle.std.proofs.lemmas.Int.{ints}
use Rattle.std.proofs.lemmas.List.{length-replicate, length-map, append-nil}
use Rattle.std.proofs.lemmas.List.Folds.{list_all-append}
use Rattle.std.proofs.Math.IntN.{pos-*ℤ-pos, negsuc-*ℤ-pos}
use Rattle.std.proofs.Math.Nat.{pow-le-pow_right, mul-le-mul_left, mul-le-mul_right}
use Rattle.std.specs.Char.{is_ascii_digit}
use Rattle.std.specs.Prelude.{unsigned_abs}
use Rattle.st_text.specs.Bytes.{are_digits, decimal_digits, number_of, padded}
use Rattle.st_text.proofs.Logic.{and-left, and-right}
use Rattle.st_text.proofs.Numbers.{number_of-append}
use Rattle.st_text.proofs.Spelled.{are_digits-padded, number_of-padded}
use Rattle.st_decimal.specs.Fixed.{decimals, fixed, sign}
use Rattle.st_decimal.specs.Number.{AreParts, IsOptionalSign, Parts, decimals_of, pointed, spelling}
use Rattle.st_decimal.specs.NumberMachine.{scaled_dec}
use Rattle.st_decimal.specs.Scaling.{IsTimesTen}
use Rattle.st_decimal.specs.Value.{IsScaled, IsValue, ReadsDec, digits_of, is_minus, is_negative, is_zero, signed, significant, skip_zeros, without_end_zeros}
use Rattle.st_decimal.specs.declared.number.Dec.{Dec}
use Rattle.st_decimal.proofs.FixedDecimals.{places_behind, power_some}
use Rattle.st_decimal.proofs.Scaled.{scaled_dec_is}
use Rattle.st_decimal.proofs.ZeroDigits.{cut_zeros, digit_range, not_zero, number_of-significant}

-- ---- a number below a power of ten has few significant digits
fewer : (n k : ℕ) → 10 ^ n < 10 ^ k → n < k
fewer n k h =
    elim (cases_lt n k) [
      | inl less ↦ less
      | inr more ↦ let p = pow-le-pow_right {n = 10} (omega arith) {i = k} {j = n} (omega arith) in absurd (omega (arith, h, p))
    ]

led : (x : ℕ) (xs : List ℕ) (k : ℕ) → 48 < x → number_of (x ∷ xs) < 10 ^ k → length (x ∷ xs) ≤ k
led x xs k some small =
    let product : 1 * 10 ^ length xs ≤ (x - 48) * 10 ^ length xs = mul-le-mul_right (10 ^ length xs) (omega (arith, some)) in
    let less = fewer (length xs) k (omega (arith, small, product)) in
    omega (arith, less)

left_by : (x : ℕ) (xs : List ℕ) (k : ℕ) (z : Bool) → is_zero x ≡ z → are_digits (x ∷ xs) ≡ true
    → (number_of (skip_zeros xs) < 10 ^ k → length (skip_zeros xs) ≤ k)
    → number_of (if z then skip_zeros xs else x ∷ xs) < 10 ^ k → length (if z then skip_zeros xs else x ∷ xs) ≤ k
left_by x xs k true e h rest small = rest small
left_by x xs k false e h rest small = led x xs k (not_zero x e (digit_range x (and-left (is_ascii_digit x) (are_digits xs) h)).0) small

few_left : (xs : List ℕ) (k : ℕ) → are_digits xs ≡ true → number_of (skip_zeros xs) < 10 ^ k → length (skip_zeros xs) ≤ k
few_left [] k h small = omega arith
few_left (x ∷ xs) k h small =
    left_by x xs k (is_zero x) refl h (λ less. few_left xs k (and-right (is_ascii_digit x) (are_digits xs) h) less) small

front_digits : (ds : List ℕ) → are_digits ds ≡ true → are_digits (without_end_zeros ds) ≡ true
front_digits ds h =
    let zeros : List ℕ = replicate (length ds - length (without_end_zeros ds)) 48 in
    let both = sym (list_all-append is_ascii_digit (without_end_zeros ds) zeros) ∙ ap are_digits (sym (cut_zeros ds)) ∙ h in
    and-left (are_digits (without_end_zeros ds)) (are_digits zeros) both

few_significant : (ds : List ℕ) (k : ℕ) → are_digits ds ≡ true → number_of ds < 10 ^ k → significant ds ≤ k
few_significant ds k h small =
    let left : List ℕ = skip_zeros (without_end_zeros ds) in
    let zeros : ℕ = length ds - length (without_end_zeros ds) in
    let some = power_some zeros in
    let product : number_of left * 1 ≤ number_of left * 10 ^ zeros = nonlinear (number_of left) (10 ^ zeros) some in
    few_left (without_end_zeros ds) k (front_digits ds h) (omega (arith, number_of-significant ds, small, product))
  where
    nonlinear : (m p : ℕ) → 0 < p → m * 1 ≤ m * p
    nonlinear m p some = mul-le-mul_left m (omega (arith, some))

-- ---- the parts of the text
places_of : ℕ → ℕ → Option (List ℕ)
places_of zero m = None
places_of (suc p) m = Some (padded (suc p) m)

abbrev number_text : ℤ → ℕ → Parts
number_text n places = record {
  sign = sign n;
  whole = decimal_digits (unsigned_abs n / 10 ^ places);
  decimals = places_of places (unsigned_abs n % 10 ^ places);
  exponent = None;
}

some_places : (p : ℕ) → (suc p == 0) ≡ false
some_places p = grind (arith, nat_tests)

decimals_some : (p m : ℕ) → decimals (suc p) m ≡ 46 ∷ padded (suc p) m
decimals_some p m = cond-false _ _ _ (some_places p)

behind_is : (places m : ℕ) → pointed (places_of places m) ++ [] ≡ decimals places m
unfolding places_of
behind_is zero m = refl
behind_is (suc p) m = append-nil (46 ∷ padded (suc p) m) ∙ sym (decimals_some p m)

whole_is : (n : ℤ) (places : ℕ) → fixed n places ≡ spelling (number_text n places)
whole_is n places =
    let front : List ℕ = decimal_digits (unsigned_abs n / 10 ^ places) in
    let back : ℕ = unsigned_abs n % 10 ^ places in
    append_assoc (sign n) front (decimals places back) ∙ ap (λ (t : List ℕ). sign n ++ (front ++ t)) (sym (behind_is places back))

sign_is : (n : ℤ) → IsOptionalSign (sign n)
sign_is (pos k) = tt
sign_is (negsuc k) = refl

minus_is : (n : ℤ) → is_minus (sign n) ≡ is_negative n
minus_is (pos k) = refl
minus_is (negsuc k) = refl

some_digit : (n : ℕ) → 0 < length (decimal_digits n)
some_digit n = simp (length-append, length-replicate, length-map) (omega arith)

places_digits : (places m : ℕ) → are_digits (decimals_of (places_of places m)) ≡ true
unfolding places_of
places_digits zero m = refl
places_digits (suc p) m = are_digits-padded (suc p) m

parts_are : (n : ℤ) (places : ℕ) → AreParts (number_text n places)
parts_are n places = record {
  sign = sign_is n;
  whole = are_digits-padded 1 (unsigned_abs n / 10 ^ places);
  decimals = places_digits places (unsigned_abs n % 10 ^ places);
  some = omega (arith, some_digit (unsigned_abs n / 10 ^ places));
  exponent = tt;
}

-- ---- and what they are worth
count_is : (places a : ℕ) → length (decimals_of (places_of places (a % 10 ^ places))) ≡ places
unfolding places_of
count_is zero a = refl
count_is (suc p) a = places_behind (suc p) a

part_is : (places a : ℕ) → number_of (decimals_of (places_of places (a % 10 ^ places))) ≡ a % 10 ^ places
unfolding places_of
part_is zero a = omega arith
part_is (suc p) a = number_of-padded (suc p) (a % 10 ^ suc p)

worth : (n : ℤ) (places : ℕ) → number_of (digits_of (number_text n places)) ≡ unsigned_abs n
worth n places =
    let a : ℕ = unsigned_abs n in
    let front : List ℕ = decimal_digits (a / 10 ^ places) in
    let back : List ℕ = decimals_of (places_of places (a % 10 ^ places)) in
    let weight = ap (λ (k : ℕ). number_of front * 10 ^ k) (count_is places a) in
    let left = ap (λ (k : ℕ). k * 10 ^ places) (number_of-padded 1 (a / 10 ^ places)) in
    omega (arith, number_of-append front back, weight, left, part_is places a, power_some places)

all_digits : (n : ℤ) (places : ℕ) → are_digits (digits_of (number_text n places)) ≡ true
all_digits n places =
    let front : List ℕ = decimal_digits (unsigned_abs n / 10 ^ places) in
    let back : List ℕ = decimals_of (places_of places (unsigned_abs n % 10 ^ places)) in
    list_all-append is_ascii_digit front back
    ∙ and_from _ _ (are_digits-padded 1 (unsigned_abs n / 10 ^ places)) (places_digits places (unsigned_abs n % 10 ^ places))

tens_up : (places k : ℕ) → (((pos 0 -ℤ pos places) +ℤ pos k) +ℤ pos places) ≡ pos k
tens_up places k = omega (arith, ints)

times : (u digits tens : ℤ) (k : ℕ) → tens ≡ pos k → u ≡ (digits *ℤ pos (10 ^ k)) → IsTimesTen digits tens u
times u digits tens k e h = subst (λ (z : ℤ). IsTimesTen digits z u) (sym e) h

negative_times : (n m k : ℕ) (d : Dec) → suc n ≡ m * 10 ^ k → d.digits ≡ signed true m → negsuc n ≡ (d.digits *ℤ pos (10 ^ k))
negative_times n zero k d is p = absurd (omega (arith, is))
negative_times n (suc m) k d is p =
    ap (λ (x : ℕ). neg_ℤ (pos x)) is ∙ sym (negsuc-*ℤ-pos m (10 ^ k)) ∙ ap (λ (z : ℤ). z *ℤ pos (10 ^ k)) (sym p)

-- a decimal that is scaled by the places is so many of the last place
in_places : (n : ℤ) (places : ℕ) (d : Dec) → IsScaled (is_negative n) (unsigned_abs n) (pos 0 -ℤ pos places) d → IsTimesTen d.digits (d.tens +ℤ pos places) n
in_places (pos zero) places d (p, q) =
    times (pos 0) d.digits (d.tens +ℤ pos places) places (ap (λ (t : ℤ). t +ℤ pos places) q ∙ none places)
    (sym (ap (λ (z : ℤ). z *ℤ pos (10 ^ places)) p ∙ pos-*ℤ-pos 0 (10 ^ places) ∙ ap (λ (x : ℕ). pos x) (nothing (10 ^ places))))
  where
    nothing : (k : ℕ) → 0 * k ≡ 0
    nothing k = omega arith

    none : (k : ℕ) → (pos 0 +ℤ pos k) ≡ pos k
    none k = omega (arith, ints)
in_places (pos (suc n)) places d (m, k, is, last, p, q) =
    times (pos (suc n)) d.digits (d.tens +ℤ pos places) k (ap (λ (t : ℤ). t +ℤ pos places) q ∙ tens_up places k)
    (ap (λ (x : ℕ). pos x) is ∙ sym (pos-*ℤ-pos m (10 ^ k)) ∙ ap (λ (z : ℤ). z *ℤ pos (10 ^ k)) (sym p))
in_places (negsuc n) places d (m, k, is, last, p, q) =
    times (negsuc n) d.digits (d.tens +ℤ pos places) k (ap (λ (t : ℤ). t +ℤ pos places) q ∙ tens_up places k) (negative_times n m k d is p)

-- the decimal that is read
read_as : ℤ → ℕ → Dec
read_as n places = scaled_dec (is_negative n) (digits_of (number_text n places)) (pos 0 -ℤ pos places)

is_read_as : (n : ℤ) (places : ℕ) → IsScaled (is_negative n) (unsigned_abs n) (pos 0 -ℤ pos places) (read_as n places)
unfolding read_as
is_read_as n places =
    subst (λ (a : ℕ). IsScaled (is_negative n) a (pos 0 -ℤ pos places) (read_as n places)) (worth n places)
    (scaled_dec_is (is_negative n) (digits_of (number_text n places)) (pos 0 -ℤ pos places) (all_digits n places))

value_is : (n : ℤ) (places : ℕ) → IsValue (number_text n places) (read_as n places)
value_is n places =
    let d : Dec = read_as n places in
    let a : ℕ = number_of (digits_of (number_text n places)) in
    let with_number : IsScaled (is_negative n) a (pos 0 -ℤ pos places) d =
    subst (λ (k : ℕ). IsScaled (is_negative n) k (pos 0 -ℤ pos places) d) (sym (worth n places)) (is_read_as n places) in
    let with_tens : IsScaled (is_negative n) a (pos 0 -ℤ pos (length (decimals_of (places_of places (unsigned_abs n % 10 ^ places))))) d =
    subst (λ (k : ℕ). IsScaled (is_negative n) a (pos 0 -ℤ pos k) d) (sym (count_is places (unsigned_abs n))) with_number in
    subst (λ (minus : Bool). IsScaled minus a (pos 0 -ℤ pos (length (decimals_of (places_of places (unsigned_abs n % 10 ^ places))))) d) (sym (minus_is n)) with_tens

pub fixed-reads : (n : ℤ) (places : ℕ) → unsigned_abs n < 10 ^ 30
    → (d : Dec) × (ReadsDec (fixed n places) (Ok d) × IsTimesTen d.digits (d.tens +ℤ pos places) n)
fixed-reads n places small =
    let few = few_significant (digits_of (number_text n places)) 30 (all_digits n places) (omega (arith, worth n places, small)) in (
      read_as n places,
      (
        (number_text n places, parts_are n places, whole_is n places, few, omega arith, value_is n places),
        in_places n places (read_as n places) (is_read_as n places),
      ),
    )
