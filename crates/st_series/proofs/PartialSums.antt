-- What the partial sums are: one numerator over one denominator, and their values at 0 and at 1.
use Rattle.std.proofs.Common.{◌≡◌, ℕ, zero, suc, ◌+◌, ◌*◌, ◌^◌, pos, neg_ℤ, refl, ap, ◌∙◌, arith}
use Rattle.std.proofs.Math.Nat.{pow-suc}
use Rattle.std.proofs.Math.IntN.{*ℤ-zero}
use Rattle.std.proofs.lemmas.Int.{ints}
use Rattle.st_fraction.specs.Fraction.{Fraction, over, whole}
use Rattle.st_fraction.proofs.Ring.{one-mul_z}
use Rattle.st_fraction.proofs.Scale.{IsAt, at_self, at_more, at_add}
use Rattle.st_series.specs.Series.{factorial, power, turned, term, alternating, sine_sum, cosine_sum, sine_num, cosine_num}
use Rattle.st_series.specs.Laws.{SineOverOne, CosineOverOne, AtZero, AtOne}
use Rattle.st_series.proofs.Terms.{alternating_at}

-- q^k k!
abbrev pub full : ℕ → ℕ → ℕ
full q k = q ^ k * factorial k

pub full-two : (q k : ℕ) → full q (suc (suc k)) ≡ full q k * (q * q * (suc k * suc (suc k)))
full-two q k = rw (pow-suc q (suc k), pow-suc q k) (omega arith)

pub term_at_full : (x : Fraction) (k : ℕ) → IsAt (full x.den k) (term x k) (power x.num k)
unfolding term
term_at_full x k = at_self (over (power x.num k) (full x.den k))

pub sine_num_at : (x : Fraction) (n : ℕ) → IsAt (full x.den (2 * n + 1)) (sine_sum x n) (sine_num x.num x.den n)
unfolding sine_sum
sine_num_at x zero = let h = term_at_full x 1 in rw (one-mul_z x.num) at h
sine_num_at x (suc n) =
    let q = x.den in
    let e : 2 * suc n + 1 ≡ suc (suc (2 * n + 1)) = omega arith in
    let f : suc (2 * n + 1) * suc (suc (2 * n + 1)) ≡ (2 * n + 2) * (2 * n + 3) = omega arith in
    let d : full q (2 * suc n + 1) ≡ full q (2 * n + 1) * (q * q * ((2 * n + 2) * (2 * n + 3))) =
    rw e (full-two q (2 * n + 1) ∙ ap (λ (i : ℕ). full q (2 * n + 1) * (q * q * i)) f) in
    let old = at_more (full q (2 * n + 1)) (q * q * ((2 * n + 2) * (2 * n + 3))) (sine_sum x n) (sine_num x.num q n) (sine_num_at x n) in
    let new = rw d at (alternating_at (full q (2 * suc n + 1)) (term x (2 * suc n + 1)) (power x.num (2 * suc n + 1)) (suc n) (term_at_full x (2 * suc n + 1))) in
    rw d (at_add (full q (2 * n + 1) * (q * q * ((2 * n + 2) * (2 * n + 3)))) (sine_sum x n) (alternating (suc n) (term x (2 * suc n + 1))) _ _ old new)

pub cosine_num_at : (x : Fraction) (n : ℕ) → IsAt (full x.den (2 * n)) (cosine_sum x n) (cosine_num x.num x.den n)
unfolding cosine_sum
cosine_num_at x zero = term_at_full x 0
cosine_num_at x (suc n) =
    let q = x.den in
    let e : 2 * suc n ≡ suc (suc (2 * n)) = omega arith in
    let f : suc (2 * n) * suc (suc (2 * n)) ≡ (2 * n + 1) * (2 * n + 2) = omega arith in
    let d : full q (2 * suc n) ≡ full q (2 * n) * (q * q * ((2 * n + 1) * (2 * n + 2))) =
    rw e (full-two q (2 * n) ∙ ap (λ (i : ℕ). full q (2 * n) * (q * q * i)) f) in
    let old = at_more (full q (2 * n)) (q * q * ((2 * n + 1) * (2 * n + 2))) (cosine_sum x n) (cosine_num x.num q n) (cosine_num_at x n) in
    let new = rw d at (alternating_at (full q (2 * suc n)) (term x (2 * suc n)) (power x.num (2 * suc n)) (suc n) (term_at_full x (2 * suc n))) in
    rw d (at_add (full q (2 * n) * (q * q * ((2 * n + 1) * (2 * n + 2)))) (cosine_sum x n) (alternating (suc n) (term x (2 * suc n))) _ _ old new)

pub sine_over_one : SineOverOne
sine_over_one x n h = record { same = (sine_num_at x n).at }

pub cosine_over_one : CosineOverOne
cosine_over_one x n h = record { same = (cosine_num_at x n).at }

-- every term after the first is 0 at 0
zero_term : (k : ℕ) → IsAt 1 (term (whole (pos 0)) (suc k)) (pos 0)
unfolding term
zero_term k = record { at = rw (*ℤ-zero (power (pos 0) k)) (omega (arith, ints)) }

first_term : IsAt 1 (term (whole (pos 0)) 0) (pos 1)
unfolding term
first_term = record { at = refl }

turned_zero : (i : ℕ) → turned i (pos 0) ≡ pos 0
turned_zero zero = refl
turned_zero (suc i) = ap neg_ℤ (turned_zero i)

sine_term_zero : (i : ℕ) → IsAt 1 (alternating i (term (whole (pos 0)) (2 * i + 1))) (pos 0)
sine_term_zero i =
    let e : 2 * i + 1 ≡ suc (2 * i) = omega arith in
    rw e (rw (turned_zero i) at (alternating_at 1 (term (whole (pos 0)) (suc (2 * i))) (pos 0) i (zero_term (2 * i))))

cosine_term_zero : (i : ℕ) → IsAt 1 (alternating (suc i) (term (whole (pos 0)) (2 * suc i))) (pos 0)
cosine_term_zero i =
    let e : 2 * suc i ≡ suc (2 * i + 1) = omega arith in
    rw e (rw (turned_zero (suc i)) at (alternating_at 1 (term (whole (pos 0)) (suc (2 * i + 1))) (pos 0) (suc i) (zero_term (2 * i + 1))))

sine_at_zero : (n : ℕ) → IsAt 1 (sine_sum (whole (pos 0)) n) (pos 0)
unfolding sine_sum
sine_at_zero zero = sine_term_zero 0
sine_at_zero (suc n) = at_add 1 (sine_sum (whole (pos 0)) n) (alternating (suc n) (term (whole (pos 0)) (2 * suc n + 1))) (pos 0) (pos 0) (sine_at_zero n) (sine_term_zero (suc n))

cosine_at_zero : (n : ℕ) → IsAt 1 (cosine_sum (whole (pos 0)) n) (pos 1)
unfolding cosine_sum
cosine_at_zero zero = first_term
cosine_at_zero (suc n) = at_add 1 (cosine_sum (whole (pos 0)) n) (alternating (suc n) (term (whole (pos 0)) (2 * suc n))) (pos 1) (pos 0) (cosine_at_zero n) (cosine_term_zero n)

pub at_zero : AtZero
at_zero n = (record { same = (sine_at_zero n).at }, record { same = (cosine_at_zero n).at })

pub at_one : AtOne
unfolding sine_sum cosine_sum term
at_one = (record { same = refl }, record { same = refl })
