-- TDB less TT moves slowly: while t moves by e, K sin E moves by less than a part in 10^9 of e.
use Rattle.std.proofs.Common.{ℕ, ◌+◌, ◌*◌, ◌^◌, ◌≤◌, ◌<◌, ℤ, pos, negsuc, ◌+ℤ◌, ◌*ℤ◌, ◌≤ℤ◌, arith, lit<, mul-pos, mul-le-mul, mul-le-mul_left, mul-le-mul_right}
use Rattle.std.proofs.lemmas.Int.{ints}
use Rattle.st_fraction.specs.Fraction.{Fraction, IsFraction, ◌≤ᶠ◌, whole, units, ◌*ᶠ◌}
use Rattle.st_fraction.proofs.Scale.{at_self}
use Rattle.st_fraction.proofs.Placed.{Placed, placed, plus, product, finer, number, times, lowered, raised}
use Rattle.st_sine.specs.Laws.{anomaly_step}

-- s is a part in 10^9 of e, or more
pub record IsSlack (e s : Fraction) : Type 0 where
  pub enough : e ≤ᶠ (whole (pos (10 ^ 9)) *ᶠ s)

-- a count of units, at the scale of units
pub of_units : (u : ℤ) → Placed (10 ^ 18) (units u) u
of_units u = record { den = lit< tt; at = at_self (units u) }

pub step_small : (k eb m1 : ℤ) (e s : Fraction) → pos 0 ≤ℤ k → k ≤ℤ pos (2 * 10 ^ 15) → pos 0 ≤ℤ eb → eb ≤ℤ pos (2 * 10 ^ 16) → pos 0 ≤ℤ m1 → m1 ≤ℤ pos (4 * 10 ^ 11)
    → IsFraction e → IsFraction s → whole (pos 0) ≤ᶠ e → IsSlack e s → (anomaly_step eb m1 e *ᶠ units k) ≤ᶠ s
step_small (negsuc k) eb m1 e s k0 kh e0 eh m0 mh pe ps se slack = absurd (omega (arith, ints))
step_small (pos k) (negsuc eb) m1 e s k0 kh e0 eh m0 mh pe ps se slack = absurd (omega (arith, ints))
step_small (pos k) (pos eb) (negsuc m1) e s k0 kh e0 eh m0 mh pe ps se slack = absurd (omega (arith, ints))
step_small (pos k) (pos eb) (pos m1) e s k0 kh e0 eh m0 mh pe ps se slack =
    let w : 0 < 10 ^ 18 = lit< tt in
    let z = placed e s s s s s s s pe.positive ps.positive ps.positive ps.positive ps.positive ps.positive ps.positive ps.positive in
    let low = lowered (number (pos 0) z.m) z.of_a se in
    let enough = lowered z.of_a (times (pos (10 ^ 9)) z.of_b) slack.enough in
    let h = product z.of_a (of_units (pos m1)) in
    raised (mul-pos (mul-pos (mul-pos z.some w) w) w) (product (plus (finer (10 ^ 18) h) (product h (of_units (pos eb)))) (of_units (pos k)))
    (finer (10 ^ 18) (finer (10 ^ 18) (finer (10 ^ 18) z.of_b)))
    (go z.xa z.xb m1 k eb (omega (arith, ints, low)) enough (omega (arith, ints)) (omega (arith, ints)) (omega (arith, ints)))
  where
    go : (x s : ℤ) (a b c : ℕ) → pos 0 ≤ℤ x → x ≤ℤ (pos (10 ^ 9) *ℤ s) → a ≤ 4 * 10 ^ 11 → b ≤ 2 * 10 ^ 15 → c ≤ 2 * 10 ^ 16
        → ((x *ℤ pos a *ℤ pos (10 ^ 18) +ℤ x *ℤ pos a *ℤ pos c) *ℤ pos b) ≤ℤ (s *ℤ pos (10 ^ 18) *ℤ pos (10 ^ 18) *ℤ pos (10 ^ 18))
    go (negsuc n) s a b c low enough ha hb hc = absurd (omega (arith, ints))
    go (pos n) (negsuc t) a b c low enough ha hb hc = absurd (omega (arith, ints))
    go (pos n) (pos t) a b c low enough ha hb hc =
        let more : 10 ^ 18 + c ≤ 102 * 10 ^ 16 = omega arith in
        let rate : a * b * (10 ^ 18 + c) ≤ 10 ^ 45 = omega (arith, mul-le-mul (mul-le-mul ha hb) more) in
        let part : n ≤ 10 ^ 9 * t = omega (arith, ints) in
        omega (arith, ints, mul-le-mul_left n rate, mul-le-mul_right (10 ^ 45) part)
