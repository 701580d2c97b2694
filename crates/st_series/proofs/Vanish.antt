-- The terms of the series vanish: a^k / (b^k k!) falls below c / d from an explicit k on.
use Rattle.std.proofs.Common.{◌≡◌, ℕ, zero, suc, ◌+◌, ◌-◌, ◌*◌, ◌^◌, ◌≤◌, ◌<◌, ℤ, pos, negsuc, ◌*ℤ◌, ◌≤ℤ◌, unsigned_abs, refl, arith, mul-pos, mul-le-mul, mul-le-mul_left, mul-le-mul_right, le_trans}
use Rattle.std.proofs.Math.Nat.{pow-zero, pow-suc}
use Rattle.std.proofs.lemmas.Nat.{mul-pow, pow-add}
use Rattle.std.proofs.lemmas.Int.{ints}
use Rattle.st_fraction.specs.Fraction.{Fraction, ◌≤ᶠ◌, ◌<ᶠ◌, whole, abs_f}
use Rattle.st_series.specs.Series.{power, term}
use Rattle.st_series.specs.Laws.{Vanishing}
use Rattle.st_series.proofs.Terms.{factorial-pos, power-pos}
use Rattle.st_series.proofs.PartialSums.{full}

full-pos : (b k : ℕ) → 0 < b → 0 < full b k
full-pos b k some = mul-pos (power-pos b k some) (factorial-pos k)

full-suc : (b k : ℕ) → full b (suc k) ≡ full b k * (b * suc k)
full-suc b k = rw (pow-suc b k) (omega arith)

below_power : (j : ℕ) → j ≤ 2 ^ j
below_power zero = omega arith
below_power (suc j) = rw (pow-suc 2 j) (let ih = below_power j in let p = power-pos 2 j (omega arith) in omega arith)

power_below : (a b j : ℕ) → 0 < b → (2 * a) ^ j ≤ full b (j + 2 * a)
power_below a b zero some = let e : 0 + 2 * a ≡ 2 * a = omega arith in rw (e, pow-zero) (full-pos b (2 * a) some)
power_below a b (suc j) some =
    let e : suc j + 2 * a ≡ suc (j + 2 * a) = omega arith in
    let ih = power_below a b j some in
    let step : 2 * a ≤ b * suc (j + 2 * a) = omega (arith, mul-le-mul_right (suc (j + 2 * a)) some) in
    rw (e, pow-suc (2 * a) j, full-suc b (j + 2 * a)) (mul-le-mul ih step)

pub vanishes : (a b c d : ℕ) → 0 < b → 0 < c → (k : ℕ) → 2 * a + a ^ (2 * a) * d ≤ k → a ^ k * d ≤ c * full b k
vanishes a b c d hb hc k l =
    let j = k - 2 * a in
    let e : j + 2 * a ≡ k = omega arith in
    let w : a ^ (2 * a) * d ≤ 2 ^ j = le_trans {m = j} (omega arith) (below_power j) in
    let p : a ^ (j + 2 * a) * d ≤ (2 * a) ^ j = rw (pow-add a j (2 * a), mul-pow 2 a j) (omega (arith, mul-le-mul_left (a ^ j) w)) in
    let f : full b (j + 2 * a) ≤ c * full b (j + 2 * a) = omega (arith, mul-le-mul_right (full b (j + 2 * a)) hc) in
    rw e at (le_trans p (le_trans (power_below a b j hb) f))

pub power_is : (a k : ℕ) → power (pos a) k ≡ pos (a ^ k)
power_is a zero = rw pow-zero refl
power_is a (suc k) = rw (power_is a k, pow-suc a k) refl

-- an explicit degree from which on |z|^k / k! is at most e
pub enough_for : Fraction → Fraction → ℕ
enough_for z e = 2 * unsigned_abs z.num + unsigned_abs z.num ^ (2 * unsigned_abs z.num) * e.den

pub vanishing_from : (z e : Fraction) → 0 < z.den → whole (pos 0) <ᶠ e → (k : ℕ) → enough_for z e ≤ k → term (abs_f z) k ≤ᶠ e
unfolding term enough_for
vanishing_from z e pz h k l = record { le = rw (power_is (unsigned_abs z.num) k) (by e.num refl) }
  where
    by : (c : ℤ) → e.num ≡ c → (pos (unsigned_abs z.num ^ k) *ℤ pos e.den) ≤ℤ (e.num *ℤ pos (full z.den k))
    by (pos c) i =
        let some : 0 < c = omega (arith, ints, h.lt, i) in
        let v = vanishes (unsigned_abs z.num) z.den c e.den pz some k l in
        rw i (omega (arith, ints))
    by (negsuc c) i = absurd (omega (arith, ints, h.lt, i))

pub vanishing : Vanishing
vanishing z e pz h = (enough_for z e, λ k l. vanishing_from z e pz.positive h k l)
