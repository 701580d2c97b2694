-- Digits that are written for a number spell it, and are as many as the width says.
use Rattle.std.proofs.Common.{◌≡◌, ℕ, ◌+◌, ◌-◌, ◌*◌, ◌^◌, ◌<◌, zero, suc, Bool, ◌&&◌, true, List, [], ◌∷◌, length, map, replicate, refl, sym, ◌∙◌, ap, arith, length-append}
use Rattle.std.proofs.lemmas.List.{length-replicate, length-map}
use Rattle.std.proofs.lemmas.Int.Digits.{number_digits_of, length-digits_of-le, all_below_base_digits_of}
use Rattle.std.proofs.lemmas.List.Folds.{list_all-append}
use Rattle.std.proofs.lemmas.Bool.Decides.{nat_tests}
use Rattle.std.proofs.Math.Nat.{pow-suc}
use Rattle.std.specs.Char.{is_ascii_digit}
use Rattle.std.specs.Int.Digits.{digits_of, number_from_digits_after, AllBelowBase}
use Rattle.st_text.specs.Bytes.{padded, number_of, are_digits}
use Rattle.st_text.proofs.Numbers.{number_of-append}

number_of-zeros : (k : ℕ) → number_of (replicate k 48) ≡ 0
number_of-zeros zero = refl
number_of-zeros (suc k) = omega (arith, number_of-zeros k)

both : {a b : Bool} → a ≡ true → b ≡ true → (a && b) ≡ true
both p q = rw (p, q) refl

glyph : (d : ℕ) → 48 + d - 48 ≡ d
glyph d = omega arith

one_more : (n d p m : ℕ) → n * (p * 10) + (d * p + m) ≡ (n * 10 + d) * p + m
one_more n d p m = grind arith

number_of-glyphs : (n : ℕ) (ds : List ℕ) → number_from_digits_after 10 n ds ≡ n * 10 ^ length ds + number_of (map (λ d. 48 + d) ds)
number_of-glyphs n [] = omega arith
number_of-glyphs n (d ∷ ds) =
    number_of-glyphs (n * 10 + d) ds
    ∙ sym (rw (pow-suc 10 (length ds), glyph d, length-map ds (λ (e : ℕ). 48 + e))
    (one_more n d (10 ^ length ds) (number_of (map (λ e. 48 + e) ds))))

-- the digits spell the number
pub number_of-padded : (width n : ℕ) → number_of (padded width n) ≡ n
number_of-padded width n =
    let zeros : List ℕ = replicate (width - length (digits_of 10 n)) 48 in
    let glyphs : List ℕ = map (λ d. 48 + d) (digits_of 10 n) in
    let none = ap (λ (z : ℕ). z * 10 ^ length glyphs) (number_of-zeros (width - length (digits_of 10 n))) in
    omega (arith, number_of-append zeros glyphs, none, number_of-glyphs 0 (digits_of 10 n), number_digits_of 10 n (omega arith))

-- a number that the width can hold has exactly as many digits
pub length-padded : (width n : ℕ) → n < 10 ^ width → length (padded width n) ≡ width
length-padded width n h =
    simp (length-append, length-replicate, length-map) (omega (arith, length-digits_of-le 10 width n (omega arith) h))

zeros_are_digits : (k : ℕ) → are_digits (replicate k 48) ≡ true
zeros_are_digits zero = refl
zeros_are_digits (suc k) = zeros_are_digits k

one_glyph : (d : ℕ) → d < 10 → is_ascii_digit (48 + d) ≡ true
one_glyph d h = grind (arith, nat_tests)

glyphs_are_digits : (ds : List ℕ) → AllBelowBase 10 ds → are_digits (map (λ d. 48 + d) ds) ≡ true
glyphs_are_digits [] h = refl
glyphs_are_digits (d ∷ ds) h = both (one_glyph d h.0) (glyphs_are_digits ds h.1)

pub are_digits-padded : (width n : ℕ) → are_digits (padded width n) ≡ true
are_digits-padded width n =
    list_all-append is_ascii_digit (replicate (width - length (digits_of 10 n)) 48) (map (λ d. 48 + d) (digits_of 10 n))
    ∙ both (zeros_are_digits (width - length (digits_of 10 n))) (glyphs_are_digits (digits_of 10 n) (all_below_base_digits_of 10 n (omega arith)))
