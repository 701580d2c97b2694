-- From a degree on each term is at most half of the one before it, so all later terms together are at most twice the
-- first of them.
use Rattle.std.proofs.Common.{◌≡◌, ℕ, zero, suc, ◌+◌, ◌-◌, ◌*◌, ◌≤◌, ◌<◌, ℤ, pos, negsuc, ◌+ℤ◌, ◌*ℤ◌, ◌≤ℤ◌, arith, mul-le-mul_right, le_of_mul-le-mul_right, mul-pos}
use Rattle.std.proofs.lemmas.Int.{ints}
use Rattle.st_fraction.proofs.Ring.{lin, le-mul_nonneg}
use Rattle.st_fraction.proofs.Within.{Within, within_abs, within_mul, within_scale}
use Rattle.st_fraction.proofs.Sums.{upto}
use Rattle.st_series.specs.Series.{power}
use Rattle.st_series.proofs.Terms.{scaled_term, series_exists, rest}
use Rattle.std.specs.Prelude.{unsigned_abs}

pub mul-nonneg_z : (a b : ℤ) → pos 0 ≤ℤ a → pos 0 ≤ℤ b → pos 0 ≤ℤ (a *ℤ b)
mul-nonneg_z a b h k = let m = le-mul_nonneg (pos 0) a b h k in omega (arith, ints)

pub power-nonneg : (z k : ℕ) → pos 0 ≤ℤ power (pos z) k
power-nonneg z zero = omega (arith, ints)
power-nonneg z (suc k) = mul-nonneg_z (power (pos z) k) (pos z) (power-nonneg z k) (omega (arith, ints))

pub scaled_term-nonneg : (z q k d : ℕ) → pos 0 ≤ℤ scaled_term (pos z) q k d
scaled_term-nonneg z q k d = mul-nonneg_z (power (pos z) d) (pos (rest q d (k - d))) (power-nonneg z d) (omega (arith, ints))

pub power-within : (p : ℤ) (k : ℕ) → Within (power p k) (power (pos (unsigned_abs p)) k)
power-within p zero = record { above = omega (arith, ints); below = omega (arith, ints) }
power-within p (suc k) = within_mul (power p k) p (power (pos (unsigned_abs p)) k) (pos (unsigned_abs p)) (power-within p k) (within_abs p)

pub scaled_term-within : (p : ℤ) (q k d : ℕ) → Within (scaled_term p q k d) (scaled_term (pos (unsigned_abs p)) q k d)
scaled_term-within p q k d = within_scale (power p d) (power (pos (unsigned_abs p)) d) (rest q d (k - d)) (power-within p d)

-- q s u = z t with z ≤ q c and 2 c ≤ s
half : (q s z c t u : ℕ) → 0 < q → 0 < c → q * (s * u) ≡ z * t → z ≤ q * c → 2 * c ≤ s → 2 * u ≤ t
half q s z c t u hq hc e hz hs =
    let a : z * t ≤ q * c * t = mul-le-mul_right t hz in
    let b : 2 * c * (q * u) ≤ s * (q * u) = mul-le-mul_right (q * u) hs in
    let d : 2 * u * (q * c) ≤ t * (q * c) = omega arith in
    le_of_mul-le-mul_right d (mul-pos hq hc)

half_z : (q s z c : ℕ) (t u : ℤ) → 0 < q → 0 < c → pos 0 ≤ℤ t → pos 0 ≤ℤ u → pos q *ℤ (pos s *ℤ u) ≡ pos z *ℤ t → z ≤ q * c → 2 * c ≤ s → (u +ℤ u) ≤ℤ t
half_z q s z c (pos t) (pos u) hq hc ht hu e hz hs =
    let h = half q s z c t u hq hc (omega (arith, ints)) hz hs in
    omega (arith, ints)
half_z q s z c (pos t) (negsuc u) hq hc ht hu e hz hs = absurd (omega (arith, ints))
half_z q s z c (negsuc t) u hq hc ht hu e hz hs = absurd (omega (arith, ints))

pub halves : (z q k c n : ℕ) → 0 < q → 0 < c → z ≤ q * c → 2 * c ≤ suc n → (d : ℕ) → n ≤ d → d < k
    → (scaled_term (pos z) q k (suc d) +ℤ scaled_term (pos z) q k (suc d)) ≤ℤ scaled_term (pos z) q k d
halves z q k c n hq hc hz hn d l m =
    half_z q (suc d) z c (scaled_term (pos z) q k d) (scaled_term (pos z) q k (suc d)) hq hc (scaled_term-nonneg z q k d) (scaled_term-nonneg z q k (suc d))
    ((series_exists (pos z) q k).next d m) hz (omega arith)

pub tail : (t : ℕ → ℤ) (n k : ℕ) → ((d : ℕ) → n < d → d < k → (t (suc d) +ℤ t (suc d)) ≤ℤ t d) → (j : ℕ) → suc j + n ≤ k
    → (upto t (suc j + n) +ℤ t (suc j + n)) ≤ℤ (upto t n +ℤ (t (suc n) +ℤ t (suc n)))
tail t n k h zero l = let e : suc 0 + n ≡ suc n = omega arith in rw e (omega (arith, lin))
tail t n k h (suc j) l =
    let e : suc (suc j) + n ≡ suc (suc j + n) = omega arith in
    let ih = tail t n k h j (omega arith) in
    let s = h (suc j + n) (omega arith) (omega arith) in
    rw e (omega (arith, lin))
