-- The number that digits spell, by its last digit, and how large it can be.
use Rattle.std.proofs.Common.{◌≡◌, ℕ, ◌+◌, ◌-◌, ◌*◌, ◌^◌, ◌<◌, ◌≤◌, zero, suc, true, List, [], ◌∷◌, ◌++◌, length, take, get_or, ◌∙◌, ap, arith, length-append, add-one}
use Rattle.std.proofs.lemmas.List.{take_more}
use Rattle.std.proofs.lemmas.Nat.{pow-add, mul-add-lt}
use Rattle.std.proofs.lemmas.Bool.Decides.{nat_tests}
use Rattle.std.proofs.Math.Nat.{pow-suc, pow-le-pow_right}
use Rattle.std.specs.Char.{is_ascii_digit}
use Rattle.st_text.specs.Bytes.{number_of, are_digits}

regrouped : (d p q n m : ℕ) → d * (p * q) + (n * q + m) ≡ (d * p + n) * q + m
regrouped d p q n m = grind arith

-- digits that go on are worth their own number, and those before them a power of ten more
pub number_of-append : (xs ys : List ℕ) → number_of (xs ++ ys) ≡ number_of xs * 10 ^ length ys + number_of ys
number_of-append [] ys = grind arith
number_of-append (x ∷ xs) ys =
    rw (length-append xs ys, pow-add 10 (length xs) (length ys), number_of-append xs ys)
    (regrouped (x - 48) (10 ^ length xs) (10 ^ length ys) (number_of xs) (number_of ys))

pub number_of-push : (xs : List ℕ) (b : ℕ) → number_of (xs ++ b ∷ []) ≡ 10 * number_of xs + (b - 48)
number_of-push xs b = omega (arith, number_of-append xs (b ∷ []))

-- the loop's step
pub number_of-take_more : (xs : List ℕ) (i : ℕ) → i < length xs → number_of (take (i + 1) xs) ≡ 10 * number_of (take i xs) + (get_or xs i 0 - 48)
number_of-take_more xs i h = ap number_of (take_more xs i 0 h) ∙ number_of-push (take i xs) (get_or xs i 0)

digit_small : (b : ℕ) → is_ascii_digit b ≡ true → b - 48 < 10
digit_small b h = grind (arith, nat_tests)

pub number_of-lt : (xs : List ℕ) → are_digits xs ≡ true → number_of xs < 10 ^ length xs
number_of-lt [] h = omega arith
number_of-lt (x ∷ xs) h =
    let rest : are_digits xs ≡ true = grind arith in
    let small : x - 48 < 10 = digit_small x (grind arith) in
    omega (arith, mul-add-lt (x - 48) (10 ^ length xs) (number_of xs) 10 small (number_of-lt xs rest), pow-suc 10 (length xs))

pub digit_at : (xs : List ℕ) (i : ℕ) → i < length xs → are_digits xs ≡ true → get_or xs i 0 - 48 < 10
digit_at [] i h d = omega arith
digit_at (x ∷ xs) zero h d = digit_small x (grind arith)
digit_at (x ∷ xs) (suc i) h d = digit_at xs i (omega arith) (grind arith)

-- fewer than 18 digits spell a number below 10^17
pub room : (k : ℕ) → k < 18 → 10 ^ k ≤ 10 ^ 17
room k h = pow-le-pow_right {n = 10} (omega arith) {i = k} {j = 17} (omega arith)

pub wide_room : (k : ℕ) → k < 38 → 10 ^ k ≤ 10 ^ 37
wide_room k h = pow-le-pow_right {n = 10} (omega arith) {i = k} {j = 37} (omega arith)

pub more_below : (n d k : ℕ) → n < 10 ^ k → d < 10 → 10 * n + d < 10 ^ (k + 1)
more_below n d k h e = rw add-one (omega (arith, pow-suc 10 k))
