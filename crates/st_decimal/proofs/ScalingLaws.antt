-- Numbers times powers of ten, by their signs and magnitudes.
use Rattle.std.proofs.Common.{◌≡◌, ℕ, ℤ, pos, negsuc, neg_ℤ, ◌*ℤ◌, ◌+◌, ◌-◌, ◌*◌, ◌/◌, ◌%◌, ◌^◌, ◌<◌, ◌≤◌, zero, suc, inl, inr, refl, sym, ◌∙◌, ap, arith, add-zero, Option, Some, None}
use Rattle.std.proofs.lemmas.Nat.{mod-mul-add, pow-add}
use Rattle.std.proofs.Math.Nat.{pow-le-pow_right, one-le-pow, mul-le-mul_right, mul-le-mul_left, mul_comm, add-mul}
use Rattle.std.proofs.Math.IntN.{pos-*ℤ-pos, negsuc-*ℤ-pos}
use Rattle.std.proofs.lemmas.Bool.{cases_lt, ltb-true}
use Rattle.std.proofs.lemmas.Int.{unsigned_abs-mul}
use Rattle.std.specs.Int.Signed.{lt_z}
use Rattle.std.specs.Prelude.{true, unsigned_abs, MatchOption}
use Rattle.st_decimal.specs.Scaling.{IsTimesTen}
use Rattle.st_decimal.specs.ScalingMachine.{IsSizeTimesTen, with_sign_of}

pub power_some : (k : ℕ) → 0 < 10 ^ k
power_some k = omega (arith, one-le-pow k 10 (omega arith))

-- ---- magnitudes
pub small_power : (k : ℕ) → k ≤ 38 → 10 ^ k ≤ 10 ^ 38
small_power k h = pow-le-pow_right {n = 10} (omega arith) {i = k} {j = 38} h

-- 10^38 is cut into the power and what is left of it
pub power_cut : (k : ℕ) → k ≤ 38 → 10 ^ (38 - k) * 10 ^ k ≡ 10 ^ 38
power_cut k h =
    let sum : 38 - k + k ≡ 38 = omega arith in
    sym (pow-add 10 (38 - k) k) ∙ ap (λ (n : ℕ). 10 ^ n) sum

pub product_more : (s t p : ℕ) → t ≤ s → t * p ≤ s * p
product_more s t p h = mul-le-mul_right p h

pub raised_over : (s k : ℕ) → 0 < s → 37 < k → 10 ^ 38 ≤ s * 10 ^ k
raised_over s k some h =
    let power : 10 ^ 38 ≤ 10 ^ k = pow-le-pow_right {n = 10} (omega arith) {i = 38} {j = k} (omega arith) in
    omega (arith, power, product_more s 1 (10 ^ k) some)

pub raised_most : (s k : ℕ) → k ≤ 37 → 10 ^ (38 - k) ≤ s → 10 ^ 38 ≤ s * 10 ^ k
raised_most s k h more = omega (arith, power_cut k (omega arith), product_more s (10 ^ (38 - k)) (10 ^ k) more)

product_less : (s t p : ℕ) → s < t → 0 < p → s * p < t * p
product_less s t p h some = omega (arith, product_more t (s + 1) p (omega arith), add-mul s 1 p)

pub raised_below : (s k : ℕ) → k ≤ 37 → s < 10 ^ (38 - k) → s * 10 ^ k < 10 ^ 38
raised_below s k h less = omega (arith, power_cut k (omega arith), product_less s (10 ^ (38 - k)) (10 ^ k) less (power_some k))

some_factor : (m p : ℕ) → 0 < m * p → 0 < m
some_factor zero p h = absurd (omega arith)
some_factor (suc m) p h = omega arith

pub lowered_over : (s k m : ℕ) → 0 < s → s < 2 ^ 128 → 38 < k → m * 10 ^ k ≡ s → ⊥
lowered_over s k m some fits h is =
    let power : 10 ^ 39 ≤ 10 ^ k = pow-le-pow_right {n = 10} (omega arith) {i = 39} {j = k} (omega arith) in
    let factor = some_factor m (10 ^ k) (omega arith) in
    omega (arith, power, product_more m 1 (10 ^ k) factor)

pub lowered_part : (s d m : ℕ) → 0 < d → (s % d ≡ 0 → ⊥) → m * d ≡ s → ⊥
lowered_part s d m some part is = part (ap (λ (n : ℕ). n % d) (sym is ∙ sym (add-zero (m * d))) ∙ mod-mul-add m d 0 some)

pub lowered_whole : (s d : ℕ) → 0 < d → s % d ≡ 0 → s / d * d ≡ s
lowered_whole s d some none = omega (arith, mul_comm (s / d) d)

pub lowered_below : (m s k : ℕ) → 0 < k → s < 2 ^ 128 → m * 10 ^ k ≡ s → m < 10 ^ 38
lowered_below m s k some fits is =
    let power : 10 ^ 1 ≤ 10 ^ k = pow-le-pow_right {n = 10} (omega arith) {i = 1} {j = k} (omega arith) in
    let product = mul-le-mul_left m power in
    omega (arith, product)

one_factor : (m n p : ℕ) → 0 < p → m * p ≡ n * p → m ≡ n
one_factor m n p some same =
    elim (cases_lt m n) [
      | inl l ↦ absurd (omega (arith, same, product_less m n p l some))
      | inr g ↦ elim (cases_lt n m) [ inl l ↦ absurd (omega (arith, same, product_less n m p l some)) | inr h ↦ omega arith ]
    ]

pub lowered_only : (size count m : ℕ) (r : Option ℕ)
    → MatchOption r ((x : ℕ) → x * 10 ^ count ≡ size → ⊥) (λ x. (x * 10 ^ count ≡ size) × (x < 10 ^ 38))
    → m * 10 ^ count ≡ size → r ≡ Some m
lowered_only size count m None h is = absurd (h m is)
lowered_only size count m (Some x) h is = ap (λ (n : ℕ). Some n) (one_factor x m (10 ^ count) (power_some count) (h.0 ∙ sym is))

pub negative_size : (size m : ℕ) (power : ℤ) → lt_z power (pos 0) ≡ true → IsSizeTimesTen size power m → m * 10 ^ unsigned_abs power ≡ size
negative_size size m (pos k) h is = absurd (omega (arith, ltb-true k 0 h))
negative_size size m (negsuc k) h is = is

zero_product : (m p : ℕ) → 0 < p → m * p ≡ 0 → m ≡ 0
zero_product zero p some h = refl
zero_product (suc m) p some h = absurd (omega (arith, h, product_more (suc m) 1 p (omega arith)))

pub zero_size : (size m : ℕ) (power : ℤ) → size ≡ 0 → IsSizeTimesTen size power m → Some 0 ≡ Some m
zero_size size m (pos k) none is =
    let product = ap (λ (n : ℕ). n * 10 ^ k) none in
    let same : 0 ≡ m = omega (arith, is, product) in
    ap (λ (n : ℕ). Some n) same
zero_size size m (negsuc k) none is =
    ap (λ (n : ℕ). Some n) (sym (zero_product m (10 ^ suc k) (power_some (suc k)) (is ∙ none)))

-- ---- signs
negated : (a m : ℕ) → with_sign_of (negsuc a) m ≡ neg_ℤ (pos m)
negated a zero = refl
negated a (suc m) = refl

times_sign : (n : ℤ) (m p : ℕ) → m ≡ unsigned_abs n * p → with_sign_of n m ≡ n *ℤ pos p
times_sign (pos a) m p e = ap (λ (x : ℕ). pos x) e ∙ sym (pos-*ℤ-pos a p)
times_sign (negsuc a) m p e = negated a m ∙ ap (λ (x : ℕ). neg_ℤ (pos x)) e ∙ sym (negsuc-*ℤ-pos a p)

divided_sign : (n : ℤ) (m p : ℕ) → m * p ≡ unsigned_abs n → with_sign_of n m *ℤ pos p ≡ n
divided_sign (pos a) m p e = pos-*ℤ-pos m p ∙ ap (λ (x : ℕ). pos x) e
divided_sign (negsuc a) zero p e = absurd (omega arith)
divided_sign (negsuc a) (suc m) p e = negsuc-*ℤ-pos m p ∙ ap (λ (x : ℕ). neg_ℤ (pos x)) e

pub size_with_sign : (n : ℤ) (m : ℕ) → unsigned_abs (with_sign_of n m) ≡ m
size_with_sign (pos a) m = refl
size_with_sign (negsuc a) zero = refl
size_with_sign (negsuc a) (suc m) = refl

pub with_sign : (n power : ℤ) (m : ℕ) → IsSizeTimesTen (unsigned_abs n) power m → IsTimesTen n power (with_sign_of n m)
with_sign n (pos k) m is = times_sign n m (10 ^ k) is
with_sign n (negsuc k) m is = divided_sign n m (10 ^ suc k) is

negative_sign : (b y : ℕ) → 0 < y → with_sign_of (neg_ℤ (pos y)) (suc b) ≡ negsuc b
negative_sign b zero some = absurd (omega arith)
negative_sign b (suc y) some = refl

kept_sign : (u : ℤ) (p : ℕ) → 0 < p → with_sign_of (u *ℤ pos p) (unsigned_abs u) ≡ u
kept_sign (pos b) p some = ap (λ (z : ℤ). with_sign_of z b) (pos-*ℤ-pos b p)
kept_sign (negsuc b) p some =
    ap (λ (z : ℤ). with_sign_of z (suc b)) (negsuc-*ℤ-pos b p)
    ∙ negative_sign b (suc b * p) (omega (arith, some, product_more (suc b) 1 p (omega arith)))

-- a number times a power of ten, by its magnitude and its sign
pub size_of_times : (n power u : ℤ) → IsTimesTen n power u → IsSizeTimesTen (unsigned_abs n) power (unsigned_abs u)
size_of_times n (pos k) u is = ap (λ (z : ℤ). unsigned_abs z) is ∙ unsigned_abs-mul n (pos (10 ^ k))
size_of_times n (negsuc k) u is = sym (unsigned_abs-mul u (pos (10 ^ suc k))) ∙ ap (λ (z : ℤ). unsigned_abs z) is

pub sign_of_times : (n power u : ℤ) → IsTimesTen n power u → with_sign_of n (unsigned_abs u) ≡ u
sign_of_times n (pos k) u is = times_sign n (unsigned_abs u) (10 ^ k) (size_of_times n (pos k) u is) ∙ sym is
sign_of_times n (negsuc k) u is = ap (λ (z : ℤ). with_sign_of z (unsigned_abs u)) (sym is) ∙ kept_sign u (10 ^ suc k) (power_some (suc k))
