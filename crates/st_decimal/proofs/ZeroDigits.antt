-- Digits without the zeros at their two ends: over two pieces, and what they are worth.
use Rattle.std.proofs.Common.{◌≡◌, ◌≢◌, ℕ, ◌-◌, ◌*◌, ◌%◌, ◌^◌, ◌<◌, ◌≤◌, zero, suc, ◌⊎◌, inl, inr, Bool, true, false, ◌&&◌, List, [], ◌∷◌, ◌++◌, length, take, get_or, replicate, refl, sym, ◌∙◌, ap, arith}
use Rattle.std.proofs.lemmas.Grind.{common_steps}
use Rattle.std.proofs.lemmas.List.{length-replicate}
use Rattle.std.proofs.lemmas.List.Folds.{list_all-append}
use Rattle.st_text.proofs.Logic.{and-left, and-right}
use Rattle.st_text.proofs.Trimmed.{front_and_last}
use Rattle.st_text.proofs.Numbers.{number_of-append, number_of-push}
use Rattle.std.proofs.lemmas.Bool.Decides.{nat_tests}
use Rattle.std.specs.Char.{is_ascii_digit}
use Rattle.std.specs.Prelude.{if◌then◌else◌}
use Rattle.st_text.specs.Bytes.{number_of, are_digits}
use Rattle.st_decimal.specs.Value.{is_zero, are_zeros, skip_zeros, without_end_zeros}

pub without_end_zeros-zero : (xs : List ℕ) → without_end_zeros (xs ++ 48 ∷ []) ≡ without_end_zeros xs
without_end_zeros-zero [] = refl
without_end_zeros-zero (x ∷ xs) = grind (arith, common_steps, list_all-append is_zero, without_end_zeros-zero xs)

pub without_end_zeros-other : (xs : List ℕ) (b : ℕ) → is_zero b ≡ false → without_end_zeros (xs ++ b ∷ []) ≡ xs ++ b ∷ []
without_end_zeros-other [] b h = grind (arith, common_steps)
without_end_zeros-other (x ∷ xs) b h = grind (arith, common_steps, list_all-append is_zero, without_end_zeros-other xs b h)

none_left : (ys : List ℕ) → are_zeros ys ≡ true → without_end_zeros ys ≡ []
none_left [] h = refl
none_left (y ∷ ys) h = rw h refl

-- both pieces' zeros, where the second has none but zeros, and where it has others
pub end_zeros_all : (xs ys : List ℕ) → are_zeros ys ≡ true → without_end_zeros (xs ++ ys) ≡ without_end_zeros xs
end_zeros_all [] ys h = none_left ys h
end_zeros_all (x ∷ xs) ys h = grind (arith, common_steps, list_all-append is_zero, end_zeros_all xs ys h)

pub end_zeros_some : (xs ys : List ℕ) → are_zeros ys ≡ false → without_end_zeros (xs ++ ys) ≡ xs ++ without_end_zeros ys
end_zeros_some [] ys h = refl
end_zeros_some (x ∷ xs) ys h = grind (arith, common_steps, list_all-append is_zero, end_zeros_some xs ys h)

pub skip_zeros_all : (xs ys : List ℕ) → are_zeros xs ≡ true → skip_zeros (xs ++ ys) ≡ skip_zeros ys
skip_zeros_all [] ys h = refl
skip_zeros_all (x ∷ xs) ys h = grind (arith, common_steps, skip_zeros_all xs ys)

pub skip_zeros_some : (xs ys : List ℕ) → are_zeros xs ≡ false → skip_zeros (xs ++ ys) ≡ skip_zeros xs ++ ys
skip_zeros_some [] ys h = absurd (cc)
skip_zeros_some (x ∷ xs) ys h = grind (arith, common_steps, skip_zeros_some xs ys)

pub and_first : (a b : Bool) → (a && b) ≡ false → b ≡ true → a ≡ false
and_first true b h e = absurd (cc)
and_first false b h e = refl

pub same_cons : {b c : ℕ} {t u : List ℕ} → b ≡ c → t ≡ u → b ∷ t ≡ c ∷ u
same_cons p q = cc

pub digit_range : (b : ℕ) → is_ascii_digit b ≡ true → (48 ≤ b) × (b < 58)
digit_range b h = (grind (arith, nat_tests), grind (arith, nat_tests))

pub not_zero : (b : ℕ) → is_zero b ≡ false → 48 ≤ b → 48 < b
not_zero b h l = grind (arith, nat_tests)

none_by : (x : ℕ) (xs : List ℕ) (z : Bool) → are_zeros (x ∷ xs) ≡ z → (if z then [] else x ∷ without_end_zeros xs) ≡ [] → are_zeros (x ∷ xs) ≡ true
none_by x xs true e h = e
none_by x xs false e h = absurd (cc)

all_from_none : (xs : List ℕ) → without_end_zeros xs ≡ [] → are_zeros xs ≡ true
all_from_none [] h = refl
all_from_none (x ∷ xs) h = none_by x xs (are_zeros (x ∷ xs)) refl h

pub record EndsNonzero (xs : List ℕ) : Type 0 where
  pub front : List ℕ
  pub last : ℕ
  pub is : xs ≡ front ++ last ∷ []
  pub above : 48 < last
  pub below : last < 58

pub zero_byte : (b : ℕ) → is_zero b ≡ true → b ≡ 48
zero_byte b h = grind (arith, nat_tests)

skipped : (x : ℕ) (xs : List ℕ) (z : Bool) → is_zero x ≡ z → number_of (skip_zeros xs) ≡ number_of xs
    → number_of (if z then skip_zeros xs else x ∷ xs) ≡ number_of (x ∷ xs)
skipped x xs true e h =
    let none : x - 48 ≡ 0 = omega (arith, zero_byte x e) in
    let gone = ap (λ (d : ℕ). d * 10 ^ length xs) none in
    omega (arith, h, gone)
skipped x xs false e h = refl

-- zeros that are cut off at the end are a power of ten
all_zeros : (xs : List ℕ) → are_zeros xs ≡ true → xs ≡ replicate (length xs) 48
all_zeros [] h = refl
all_zeros (x ∷ xs) h = same_cons (zero_byte x (and-left _ _ h)) (all_zeros xs (and-right _ _ h))

cut : (x : ℕ) (xs : List ℕ) (z : Bool) → are_zeros (x ∷ xs) ≡ z → xs ≡ without_end_zeros xs ++ replicate (length xs - length (without_end_zeros xs)) 48
    → x ∷ xs ≡ (if z then [] else x ∷ without_end_zeros xs) ++ replicate (length (x ∷ xs) - length (if z then [] else x ∷ without_end_zeros xs)) 48
cut x xs true e h =
    let whole : suc (length xs) - 0 ≡ suc (length xs) = omega arith in
    all_zeros (x ∷ xs) e ∙ ap (λ (n : ℕ). replicate {A = ℕ} n 48) (sym whole)
cut x xs false e h =
    let fewer : length xs - length (without_end_zeros xs) ≡ suc (length xs) - suc (length (without_end_zeros xs)) = omega arith in
    ap (λ (ys : List ℕ). x ∷ ys) (h ∙ ap (λ (n : ℕ). without_end_zeros xs ++ replicate {A = ℕ} n 48) fewer)

rest_digits : (x : ℕ) (xs : List ℕ) → are_digits (x ∷ xs) ≡ true → are_digits xs ≡ true
rest_digits x xs h = and-right _ _ h

last_of : (x : ℕ) (xs : List ℕ) (z : Bool) → are_zeros (x ∷ xs) ≡ z → are_digits (x ∷ xs) ≡ true → (without_end_zeros xs ≡ []) ⊎ EndsNonzero (without_end_zeros xs)
    → ((if z then [] else x ∷ without_end_zeros xs) ≡ []) ⊎ EndsNonzero (if z then [] else x ∷ without_end_zeros xs)
last_of x xs true e h rest = inl refl
last_of x xs false e h (inl none) =
    let other = and_first _ _ e (all_from_none xs none) in
    let digit = digit_range x (and-left _ _ h) in
    inr (record {
      front = [];
      last = x;
      is = ap (λ (ys : List ℕ). x ∷ ys) none;
      above = not_zero x other digit.0;
      below = digit.1;
    })
last_of x xs false e h (inr r) = inr (record { front = x ∷ r.front; last = r.last; is = ap (λ (ys : List ℕ). x ∷ ys) r.is; above = r.above; below = r.below })

pub end_zeros_more : (xs : List ℕ) → 0 < length xs → is_zero (get_or xs (length xs - 1) 0) ≡ true → without_end_zeros (take (length xs - 1) xs) ≡ without_end_zeros xs
end_zeros_more xs h b =
    sym (ap (λ (ys : List ℕ). without_end_zeros ys) (front_and_last xs h ∙ ap (λ (z : ℕ). take (length xs - 1) xs ++ z ∷ []) (zero_byte _ b))
    ∙ without_end_zeros-zero (take (length xs - 1) xs))

pub end_zeros_none : (xs : List ℕ) → 0 < length xs → is_zero (get_or xs (length xs - 1) 0) ≡ false → xs ≡ without_end_zeros xs
end_zeros_none xs h b =
    let parts = front_and_last xs h in
    parts ∙ sym (ap (λ (ys : List ℕ). without_end_zeros ys) parts ∙ without_end_zeros-other (take (length xs - 1) xs) (get_or xs (length xs - 1) 0) b)

pub number_of-skip_zeros : (xs : List ℕ) → number_of (skip_zeros xs) ≡ number_of xs
number_of-skip_zeros [] = refl
number_of-skip_zeros (x ∷ xs) = skipped x xs (is_zero x) refl (number_of-skip_zeros xs)

pub cut_zeros : (ds : List ℕ) → ds ≡ without_end_zeros ds ++ replicate (length ds - length (without_end_zeros ds)) 48
cut_zeros [] = refl
cut_zeros (x ∷ xs) = cut x xs (are_zeros (x ∷ xs)) refl (cut_zeros xs)

number_of-zeros : (k : ℕ) → number_of (replicate k 48) ≡ 0
number_of-zeros zero = refl
number_of-zeros (suc k) = omega (arith, number_of-zeros k)

pub number_of-zeros_behind : (xs : List ℕ) (k : ℕ) → number_of (xs ++ replicate k 48) ≡ number_of xs * 10 ^ k
number_of-zeros_behind xs k =
    let count = ap (λ (n : ℕ). number_of xs * 10 ^ n) (length-replicate {A = ℕ} k 48) in
    omega (arith, number_of-append xs (replicate k 48), number_of-zeros k, count)

-- digits are their significant part times a power of ten
pub number_of-significant : (ds : List ℕ) → number_of ds ≡ number_of (skip_zeros (without_end_zeros ds)) * 10 ^ (length ds - length (without_end_zeros ds))
number_of-significant ds =
    ap number_of (cut_zeros ds)
    ∙ number_of-zeros_behind (without_end_zeros ds) (length ds - length (without_end_zeros ds))
    ∙ ap (λ (n : ℕ). n * 10 ^ (length ds - length (without_end_zeros ds))) (sym (number_of-skip_zeros (without_end_zeros ds)))

pub end_nonzero : (ds : List ℕ) → are_digits ds ≡ true → (without_end_zeros ds ≡ []) ⊎ EndsNonzero (without_end_zeros ds)
end_nonzero [] h = inl refl
end_nonzero (x ∷ xs) h = last_of x xs (are_zeros (x ∷ xs)) refl h (end_nonzero xs (rest_digits x xs h))

-- the significant part of digits is no multiple of ten
pub no_multiple : (xs : List ℕ) → EndsNonzero xs → (number_of xs % 10 ≢ 0) × (0 < number_of xs)
no_multiple xs e =
    let value = ap number_of e.is ∙ number_of-push e.front e.last in
    (λ z. absurd (omega (arith, e.above, e.below, value, z)), omega (arith, e.above, value))
