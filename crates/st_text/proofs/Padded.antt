-- The digits of a number, one digit more at a time from the last.
use Rattle.std.proofs.Common.{◌≡◌, ℕ, ◌+◌, ◌-◌, ◌/◌, ◌%◌, ◌^◌, ◌<◌, ◌≤◌, zero, suc, List, [], ◌∷◌, ◌++◌, ◌⊎◌, inl, inr, length, map, replicate, take, drop, set, sym, ◌∙◌, ap, arith, append_assoc, add-one}
use Rattle.std.proofs.lemmas.List.{append-nil, map-append, replicate_more, drop-set, take-set, take-take}
use Rattle.std.proofs.lemmas.Int.Digits.{digits_of_step, length-digits_of_step, length-digits_of-le}
use Rattle.std.specs.Int.Digits.{digits_of}
use Rattle.st_text.specs.Bytes.{padded}

abbrev glyphs : List ℕ → List ℕ
glyphs ds = map (λ d. 48 + d) ds

same_zeros : (w k : ℕ) → w - (k + 1) ≡ w - 1 - k
same_zeros w k = omega arith

positive_step : (w n : ℕ) → 0 < n → padded w n ≡ padded (w - 1) (n / 10) ++ (48 + n % 10) ∷ []
positive_step w n h =
    let front : List ℕ = digits_of 10 (n / 10) in
    let zeros : List ℕ = replicate (w - 1 - length front) 48 in
    let cut : digits_of 10 n ≡ front ++ (n % 10 ∷ []) = digits_of_step 10 n (omega arith) h in
    let count : w - length (digits_of 10 n) ≡ w - 1 - length front =
    ap (λ (k : ℕ). w - k) (length-digits_of_step 10 n (omega arith) h) ∙ same_zeros w (length front) in
    ap (λ (k : ℕ). replicate k 48 ++ glyphs (digits_of 10 n)) count
    ∙ ap (λ (ds : List ℕ). zeros ++ glyphs ds) cut
    ∙ ap (λ (ds : List ℕ). zeros ++ ds) (map-append (λ (d : ℕ). 48 + d) front (n % 10 ∷ []))
    ∙ sym (append_assoc zeros (glyphs front) ((48 + n % 10) ∷ []))

pub padded-zero : (w : ℕ) → padded w 0 ≡ replicate w 48
padded-zero w =
    let all : w - 0 ≡ w = omega arith in
    append-nil {A = ℕ} (replicate (w - 0) 48) ∙ ap (λ (k : ℕ). replicate k 48) all

zero_step : (w : ℕ) → padded (suc w) 0 ≡ padded (suc w - 1) 0 ++ 48 ∷ []
zero_step w =
    let less : suc w - 1 ≡ w = omega arith in
    padded-zero (suc w)
    ∙ ap (λ (k : ℕ). replicate {A = ℕ} k 48) (sym (add-one w))
    ∙ sym (replicate_more {X = ℕ} w 48)
    ∙ ap (λ (zs : List ℕ). zs ++ 48 ∷ []) (sym (padded-zero w))
    ∙ ap (λ (k : ℕ). padded k 0 ++ 48 ∷ []) (sym less)

-- a last digit, where there is one or the width wants one
pub padded_step : (w n : ℕ) → (0 < n) ⊎ (0 < w) → padded w n ≡ padded (w - 1) (n / 10) ++ (48 + n % 10) ∷ []
padded_step w (suc n) h = positive_step w (suc n) (omega arith)
padded_step (suc w) zero h = zero_step w
padded_step zero zero (inl h) = absurd (omega arith)
padded_step zero zero (inr h) = absurd (omega arith)

-- the loop's step, from `at` to the place before it
pub padded_more : (width end at n : ℕ) (buffer whole : List ℕ) → 0 < at → at ≤ end → at ≤ length buffer → (0 < n) ⊎ (end - at < width)
    → padded (width - (end - at)) n ++ drop at buffer ≡ whole
    → padded (width - (end - (at - 1))) (n / 10) ++ drop (at - 1) (set buffer (at - 1) (48 + n % 10)) ≡ whole
padded_more width end at n buffer whole some before inside more written =
    let w : ℕ = width - (end - at) in
    let glyph : ℕ = 48 + n % 10 in
    let front : List ℕ = padded (w - 1) (n / 10) in
    let fewer : width - (end - (at - 1)) ≡ w - 1 = omega arith in
    let next : at - 1 + 1 ≡ at = omega arith in
    let put : drop (at - 1) (set buffer (at - 1) glyph) ≡ glyph ∷ drop (at - 1 + 1) buffer = drop-set buffer (at - 1) glyph (omega arith) in
    let wanted : (0 < n) ⊎ (0 < w) = elim more [ inl h ↦ inl h | inr h ↦ inr (omega arith) ] in
    ap (λ (k : ℕ). padded k (n / 10) ++ drop (at - 1) (set buffer (at - 1) glyph)) fewer
    ∙ ap (λ (xs : List ℕ). front ++ xs) (put ∙ ap (λ (k : ℕ). glyph ∷ drop k buffer) next)
    ∙ sym (append_assoc front (glyph ∷ []) (drop at buffer))
    ∙ ap (λ (xs : List ℕ). xs ++ drop at buffer) (sym (padded_step w n wanted))
    ∙ written

-- the room that is left for more digits
pub room_more : (end at n : ℕ) → 0 < n → 0 < at → at ≤ end → length (digits_of 10 n) + (end - at) ≤ 39 → length (digits_of 10 (n / 10)) + (end - (at - 1)) ≤ 39
room_more end at n h some before room = omega (arith, length-digits_of_step 10 n (omega arith) h)

pub digit_begun : (n : ℕ) → 0 < n → 0 < length (digits_of 10 n)
digit_begun n h = omega (arith, length-digits_of_step 10 n (omega arith) h)

pub zero_room : (end at n width : ℕ) → n ≤ 0 → 0 < at → at ≤ end → end - at < width → width ≤ 39 → length (digits_of 10 (n / 10)) + (end - (at - 1)) ≤ 39
zero_room end at zero width none some before more h = omega arith
zero_room end at (suc n) width none some before more h = absurd (omega arith)

pub begun : (width number end : ℕ) (buffer : List ℕ) → padded (width - (end - end)) number ++ drop end buffer ≡ padded width number ++ drop end buffer
begun width number end buffer =
    let none : width - (end - end) ≡ width = omega arith in
    ap (λ (k : ℕ). padded k number ++ drop end buffer) none

-- what stands before the digits stays
pub kept_before : (buffer old : List ℕ) (at glyph : ℕ) → take at buffer ≡ take at old → take (at - 1) (set buffer (at - 1) glyph) ≡ take (at - 1) old
kept_before buffer old at glyph kept =
    take-set buffer (at - 1) glyph
    ∙ sym (take-take (at - 1) at buffer (omega arith))
    ∙ ap (take (at - 1)) kept
    ∙ take-take (at - 1) at old (omega arith)

pub digits_at_most : (n : ℕ) → n < 2 ^ 128 → length (digits_of 10 n) ≤ 39
digits_at_most n h = length-digits_of-le 10 39 n (omega arith) (omega arith)
