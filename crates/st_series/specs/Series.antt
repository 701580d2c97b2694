-- Sine and cosine of a fraction, in radians, by the partial sums of their Maclaurin series: NIST Digital Library of
-- Mathematical Functions, 4.19.1 and 4.19.2, or any textbook of analysis.
use Rattle.std.specs.Prelude.{ℕ, zero, suc, ◌+◌, ◌*◌, ◌^◌, ℤ, pos, neg_ℤ, ◌+ℤ◌, ◌*ℤ◌}
use Rattle.st_fraction.specs.Fraction.{Fraction, ◌≤ᶠ◌, over, whole, ◌+ᶠ◌, neg_f, ◌*ᶠ◌, least, greatest}

-- n!
abbrev pub factorial : ℕ → ℕ
factorial zero = 1
factorial (suc n) = suc n * factorial n

-- z^k
abbrev pub power : ℤ → ℕ → ℤ
power z zero = pos 1
power z (suc k) = power z k *ℤ z

-- x^k / k!
unfoldable pub term : Fraction → ℕ → Fraction
term x k = over (power x.num k) (x.den ^ k * factorial k)

-- (-1)^i a
abbrev pub alternating : ℕ → Fraction → Fraction
alternating zero a = a
alternating (suc i) a = neg_f (alternating i a)

-- f 0 + f 1 + .. + f n
abbrev pub sum_to : (ℕ → Fraction) → ℕ → Fraction
sum_to f zero = f 0
sum_to f (suc n) = sum_to f n +ᶠ f (suc n)

-- S_n(x): the sum for i from 0 to n of (-1)^i x^(2i+1) / (2i+1)!
unfoldable pub sine_sum : Fraction → ℕ → Fraction
sine_sum x n = sum_to (λ i. alternating i (term x (2 * i + 1))) n

-- C_n(x): the sum for i from 0 to n of (-1)^i x^(2i) / (2i)!
unfoldable pub cosine_sum : Fraction → ℕ → Fraction
cosine_sum x n = sum_to (λ i. alternating i (term x (2 * i))) n

-- n is long enough for x where (2n+1)(2n+2) ≥ x^2: from there on each term is at most the one before it
pub record IsLongEnough (x : Fraction) (n : ℕ) : Type 0 where
  pub enough : (x *ᶠ x) ≤ᶠ whole (pos ((2 * n + 1) * (2 * n + 2)))

-- L_n(x) and U_n(x): the lesser and the greater of the n-th partial sum and the next
unfoldable pub sine_lower : Fraction → ℕ → Fraction
sine_lower x n = least (sine_sum x n) (sine_sum x (suc n))

unfoldable pub sine_upper : Fraction → ℕ → Fraction
sine_upper x n = greatest (sine_sum x n) (sine_sum x (suc n))

unfoldable pub cosine_lower : Fraction → ℕ → Fraction
cosine_lower x n = least (cosine_sum x n) (cosine_sum x (suc n))

unfoldable pub cosine_upper : Fraction → ℕ → Fraction
cosine_upper x n = greatest (cosine_sum x n) (cosine_sum x (suc n))

-- The sine of x is at least a where no U_n(x), n long enough, is below a; and at most b where no L_n(x) is above b.
pub record SineIsAtLeast (x a : Fraction) : Type 0 where
  pub at_each : (n : ℕ) → IsLongEnough x n → a ≤ᶠ sine_upper x n

pub record SineIsAtMost (x b : Fraction) : Type 0 where
  pub at_each : (n : ℕ) → IsLongEnough x n → sine_lower x n ≤ᶠ b

pub record CosineIsAtLeast (x a : Fraction) : Type 0 where
  pub at_each : (n : ℕ) → IsLongEnough x n → a ≤ᶠ cosine_upper x n

pub record CosineIsAtMost (x b : Fraction) : Type 0 where
  pub at_each : (n : ℕ) → IsLongEnough x n → cosine_lower x n ≤ᶠ b

-- (-1)^i z
abbrev pub turned : ℕ → ℤ → ℤ
turned zero z = z
turned (suc i) z = neg_ℤ (turned i z)

-- The numerators of the partial sums at p / q over the denominators q^(2n+1) (2n+1)! and q^(2n) (2n)!
abbrev pub sine_num : ℤ → ℕ → ℕ → ℤ
sine_num p q zero = p
sine_num p q (suc n) = sine_num p q n *ℤ pos (q * q * ((2 * n + 2) * (2 * n + 3))) +ℤ turned (suc n) (power p (2 * suc n + 1))

abbrev pub cosine_num : ℤ → ℕ → ℕ → ℤ
cosine_num p q zero = pos 1
cosine_num p q (suc n) = cosine_num p q n *ℤ pos (q * q * ((2 * n + 1) * (2 * n + 2))) +ℤ turned (suc n) (power p (2 * suc n))
