-- What the code of a number's value needs: sizes of powers of ten, and digits of parts of digits.
use Rattle.std.proofs.Common.{◌≡◌, ℕ, ℤ, pos, ◌+ℤ◌, ◌-ℤ◌, ◌+◌, ◌-◌, ◌*◌, ◌^◌, ◌<◌, ◌≤◌, Bool, true, false, ◌&&◌, List, [], ◌∷◌, ◌++◌, length, Some, None, Ok, Result, refl, sym, ◌∙◌, ap, arith, nat_lt, ◌==◌}
use Rattle.std.proofs.lemmas.List.Folds.{list_all-append}
use Rattle.std.proofs.lemmas.Nat.{pow-add, mul-add-lt}
use Rattle.std.proofs.lemmas.Bool.Decides.{nat_tests}
use Rattle.std.proofs.lemmas.Bool.{ltb-false}
use Rattle.std.proofs.Math.Nat.{pow-le-pow_right, mul-le-mul_right}
use Rattle.std.specs.Char.{is_ascii_digit}
use Rattle.std.specs.Prelude.{if◌then◌else◌}
use Rattle.st_text.proofs.Logic.{and-left, and-right}
use Rattle.st_text.specs.Bytes.{number_of, are_digits}
use Rattle.st_decimal.specs.declared.number.Dec.{Dec}
use Rattle.st_decimal.specs.declared.number.DecFault.{DecFault}
use Rattle.st_decimal.specs.Value.{is_zero, are_zeros, skip_zeros, without_end_zeros, significant, signed}
use Rattle.st_decimal.specs.NumberMachine.{value_of, scaled_dec}
use Rattle.st_decimal.proofs.ZeroDigits.{digit_range, not_zero}

pub front_digits : (xs ys : List ℕ) → are_digits (xs ++ ys) ≡ true → are_digits xs ≡ true
front_digits xs ys h = and-left (are_digits xs) (are_digits ys) (sym (list_all-append is_ascii_digit xs ys) ∙ h)

pub back_digits : (xs ys : List ℕ) → are_digits (xs ++ ys) ≡ true → are_digits ys ≡ true
back_digits xs ys h = and-right (are_digits xs) (are_digits ys) (sym (list_all-append is_ascii_digit xs ys) ∙ h)

pub both_true : (a b : Bool) → a ≡ true → b ≡ true → (a && b) ≡ true
both_true true b p q = q
both_true false b p q = absurd (cc)

pub both_digits : (xs ys : List ℕ) → are_digits xs ≡ true → are_digits ys ≡ true → are_digits (xs ++ ys) ≡ true
both_digits xs ys h g = list_all-append is_ascii_digit xs ys ∙ both_true (are_digits xs) (are_digits ys) h g

skip_by : (x : ℕ) (xs : List ℕ) (z : Bool) → are_digits (x ∷ xs) ≡ true → are_digits (skip_zeros xs) ≡ true → are_digits (if z then skip_zeros xs else x ∷ xs) ≡ true
skip_by x xs true h rest = rest
skip_by x xs false h rest = h

pub skip_digits : (xs : List ℕ) → are_digits xs ≡ true → are_digits (skip_zeros xs) ≡ true
skip_digits [] h = refl
skip_digits (x ∷ xs) h = skip_by x xs (is_zero x) h (skip_digits xs (and-right _ _ h))

end_by : (x : ℕ) (xs : List ℕ) (z : Bool) → is_ascii_digit x ≡ true → are_digits (without_end_zeros xs) ≡ true → are_digits (if z then [] else x ∷ without_end_zeros xs) ≡ true
end_by x xs true h rest = refl
end_by x xs false h rest = both_true (is_ascii_digit x) (are_digits (without_end_zeros xs)) h rest

pub end_digits : (xs : List ℕ) → are_digits xs ≡ true → are_digits (without_end_zeros xs) ≡ true
end_digits [] h = refl
end_digits (x ∷ xs) h = end_by x xs (are_zeros (x ∷ xs)) (and-left _ _ h) (end_digits xs (and-right _ _ h))

shorter_by : (x : ℕ) (xs : List ℕ) (z : Bool) → length (without_end_zeros xs) ≤ length xs → length (if z then [] else x ∷ without_end_zeros xs) ≤ length (x ∷ xs)
shorter_by x xs true h = omega arith
shorter_by x xs false h = omega arith

pub end_shorter : (xs : List ℕ) → length (without_end_zeros xs) ≤ length xs
end_shorter [] = omega arith
end_shorter (x ∷ xs) = shorter_by x xs (are_zeros (x ∷ xs)) (end_shorter xs)

-- four digits, the first of them not zero, spell more than 400
many_by : (x : ℕ) (xs : List ℕ) (z : Bool) → is_zero x ≡ z → is_ascii_digit x ≡ true → (3 < length (skip_zeros xs) → 400 < number_of (skip_zeros xs))
    → 3 < length (if z then skip_zeros xs else x ∷ xs) → 400 < number_of (if z then skip_zeros xs else x ∷ xs)
many_by x xs true e d rest h = rest h
many_by x xs false e d rest h =
    let range = digit_range x d in
    let above = not_zero x e range.0 in
    let power : 10 ^ 3 ≤ 10 ^ length xs = pow-le-pow_right {n = 10} (omega arith) {i = 3} {j = length xs} (omega arith) in
    let product : 1 * 10 ^ length xs ≤ (x - 48) * 10 ^ length xs = mul-le-mul_right (10 ^ length xs) (omega (arith, above)) in
    omega (arith, power, product)

pub many_digits : (xs : List ℕ) → are_digits xs ≡ true → 3 < length (skip_zeros xs) → 400 < number_of (skip_zeros xs)
many_digits [] d h = absurd (omega arith)
many_digits (x ∷ xs) d h = many_by x xs (is_zero x) refl (and-left _ _ d) (many_digits xs (and-right _ _ d)) h

pub two_pieces : (a b l k : ℕ) → a < 10 ^ l → b < 10 ^ k → l + k ≤ 30 → a * 10 ^ k + b < 10 ^ 30
two_pieces a b l k p q h =
    let sum : k + l ≡ l + k = omega arith in
    let most : 10 ^ (k + l) ≤ 10 ^ 30 = pow-le-pow_right {n = 10} (omega arith) {i = k + l} {j = 30} (omega arith) in
    omega (arith, mul-add-lt a (10 ^ k) b (10 ^ l) p q, pow-add 10 k l, most)

pub piece_power : (k : ℕ) → k ≤ 30 → 10 ^ k ≤ 10 ^ 30
piece_power k h = pow-le-pow_right {n = 10} (omega arith) {i = k} {j = 30} h

-- the machine's answer where the limits are kept and some digit is not zero
pub value_some : (minus em : Bool) (w d e : List ℕ)
    → significant (w ++ d) ≤ 30 → number_of e ≤ 400 → 0 < significant (w ++ d)
    → value_of (record { minus = minus; whole = w; decimals = d; exponent_minus = em; exponent = e })
    ≡ Ok (record {
      digits = signed minus (number_of (skip_zeros (without_end_zeros (w ++ d))));
      tens = (signed em (number_of e) -ℤ pos (length d)) +ℤ pos (length (w ++ d) - length (without_end_zeros (w ++ d)));
    })
unfolding value_of scaled_dec
value_some minus em w d e few small some =
    let a : nat_lt 30 (significant (w ++ d)) ≡ false = grind (arith, nat_tests) in
    let b : nat_lt 400 (number_of e) ≡ false = grind (arith, nat_tests) in
    let c : (significant (w ++ d) == 0) ≡ false = grind (arith, nat_tests) in
    rw (a, b, c) refl

pub exponent_none : {A : Type 0} (n : ℕ) (x : A) → 400 < n → None ≡ (if nat_lt 400 n then None else Some x)
exponent_none n x h = let t : nat_lt 400 n ≡ true = grind (arith, nat_tests) in rw t refl

pub exponent_some : {A : Type 0} (n : ℕ) (x : A) → n ≤ 400 → Some x ≡ (if nat_lt 400 n then None else Some x)
exponent_some n x h = let t : nat_lt 400 n ≡ false = grind (arith, nat_tests) in rw t refl

known_by : {A : Type 0} (n : ℕ) (x y : A) (b : Bool) → nat_lt 400 n ≡ b → (if b then None else Some y) ≡ Some x → (n ≤ 400) × (x ≡ y)
known_by n x y true e h = absurd (cc)
known_by n x y false e h = (ltb-false 400 n e, cc)

pub exponent_known : {A : Type 0} (n : ℕ) (x y : A) → (if nat_lt 400 n then None else Some y) ≡ Some x → (n ≤ 400) × (x ≡ y)
exponent_known n x y h = known_by n x y (nat_lt 400 n) refl h

abbrev pub decimal_at : ℤ → ℤ → Result Dec DecFault
decimal_at x y = Ok (record { digits = x; tens = y })

pub same_dec : (x y d t : ℤ) → x ≡ d → y ≡ t → decimal_at x y ≡ decimal_at d t
same_dec x y d t p q = ap (λ (z : ℤ). decimal_at z y) p ∙ ap (λ (z : ℤ). decimal_at d z) q
