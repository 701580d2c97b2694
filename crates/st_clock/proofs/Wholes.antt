-- Whether a number times ten to a power is whole.
use Rattle.std.proofs.Common.{◌≡◌, ℕ, suc, ◌*◌, ◌^◌, ◌<◌, ◌≤◌, ℤ, pos, negsuc, ◌+ℤ◌, ◌-ℤ◌, ◌*ℤ◌, ◌≤ℤ◌, ◌<ℤ◌, true, false, ◌==◌, unsigned_abs, refl, sym, ap, ◌∙◌, arith, mul-le-mul_left, pow-suc}
use Rattle.std.specs.Int.Signed.{le_z}
use Rattle.std.proofs.lemmas.Bool.Decides.{nat_tests}
use Rattle.std.proofs.lemmas.Int.{ints, unsigned_abs-mul}
use Rattle.st_decimal.specs.Scaling.{IsTimesTen, IsUnits18}
use Rattle.st_decimal.proofs.ScalingLaws.{power_some, lowered_over}

pub whole_up : (n tens : ℤ) → pos 0 ≤ℤ tens → (u : ℤ) × IsTimesTen n tens u
whole_up n (pos k) h = (n *ℤ pos (10 ^ k), refl)
whole_up n (negsuc k) h = absurd (omega (arith, ints, h))

pub whole_zero : (tens : ℤ) → (u : ℤ) × IsTimesTen (pos 0) tens u
whole_zero (pos k) = (pos 0 *ℤ pos (10 ^ k), refl)
whole_zero (negsuc k) = (pos 0, zero (10 ^ suc k))
  where
    zero : (n : ℕ) → pos 0 *ℤ pos n ≡ pos 0
    zero n = omega (arith, ints)

sizes : (u n : ℤ) (p : ℕ) → (u *ℤ pos p) ≡ n → unsigned_abs u * p ≡ unsigned_abs n
sizes u n p e = sym (unsigned_abs-mul u (pos p)) ∙ ap unsigned_abs e

pub too_low : (n tens u : ℤ) → (n ≡ pos 0 → ⊥) → unsigned_abs n < 2 ^ 128 → (tens +ℤ pos 40) <ℤ pos 0 → IsTimesTen n tens u → ⊥
too_low n (pos k) u some small h t = omega (arith, ints, h)
too_low n (negsuc k) u some small h t =
    lowered_over (unsigned_abs n) (suc k) (unsigned_abs u) (size n some) small (omega (arith, ints, h)) (sizes u n (10 ^ suc k) t)
  where
    size : (n : ℤ) → (n ≡ pos 0 → ⊥) → 0 < unsigned_abs n
    size n some = omega (arith, ints, some)

below : (u n : ℤ) (p : ℕ) → 0 < p → unsigned_abs u * (p * 10) ≡ unsigned_abs n → unsigned_abs n < 2 ^ 128 → unsigned_abs u < 10 ^ 38
below u n p some e small = go (unsigned_abs u) (unsigned_abs n) p some e small
  where
    go : (u n p : ℕ) → 0 < p → u * (p * 10) ≡ n → n < 2 ^ 128 → u < 10 ^ 38
    go u n p some e small = let m : u * 10 * 1 ≤ u * 10 * p = mul-le-mul_left (u * 10) some in omega (arith, m, e)

-- as a count of units of a decimal with 18 more decimals
pub as_units : (n tens u : ℤ) → unsigned_abs n < 2 ^ 128 → tens <ℤ pos 0 → IsTimesTen n tens u → IsUnits18 (record { digits = n; tens = tens -ℤ pos 18 }) u
as_units n (pos k) u small h t = absurd (omega (arith, ints, h))
as_units n (negsuc k) u small h t =
    let e : negsuc k -ℤ pos 18 +ℤ pos 18 ≡ negsuc k = omega (arith, ints) in
    record { value = rw e t; below = below u n (10 ^ k) (power_some k) (rw (pow-suc 10 k) at (sizes u n (10 ^ suc k) t)) small }

pub from_units : (n tens u : ℤ) → IsUnits18 (record { digits = n; tens = tens -ℤ pos 18 }) u → IsTimesTen n tens u
from_units n tens u h =
    let e : tens -ℤ pos 18 +ℤ pos 18 ≡ tens = omega (arith, ints) in
    rw e at h.value

pub at_least_zero : (t : ℤ) → le_z (pos 0) t ≡ true → pos 0 ≤ℤ t
at_least_zero t e = omega (arith, ints, e)

pub below_zero : (t : ℤ) → le_z (pos 0) t ≡ false → t <ℤ pos 0
below_zero t e = omega (arith, ints, e)

pub not_empty : (n : ℕ) → n ≤ 1 → false ≡ (n == 0) → n ≡ 1
not_empty n h e = grind (arith, nat_tests)
