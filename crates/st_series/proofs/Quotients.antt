-- The floor of a quotient, by the size of the number that is divided.
use Rattle.std.proofs.Common.{◌≡◌, ℕ, ◌/◌, ℤ, pos, negsuc, ◌-ℤ◌, ◌*ℤ◌, true, false, unsigned_abs, ap, arith}
use Rattle.std.specs.Int.{int_div_euclid}
use Rattle.std.proofs.lemmas.Int.{ints}
use Rattle.st_fraction.proofs.Ring.{square_abs}
use lib.Signed.{lt_z}
use borrow.Author.Tests.{ltb-true}

pub floor_below_zero : (p r : ℤ) (n : ℕ) → lt_z p (pos 0) ≡ true → r ≡ pos (unsigned_abs (negsuc 0 -ℤ p) / n) → negsuc 0 -ℤ r ≡ int_div_euclid p (pos n)
floor_below_zero (pos a) r n t e = absurd (omega (arith, ints, ltb-true a 0 t))
floor_below_zero (negsuc a) r n t e =
    let i : unsigned_abs (negsuc 0 -ℤ negsuc a) ≡ a = omega (arith, ints) in
    let j : r ≡ pos (a / n) = rw i at e in
    omega (arith, ints)

pub floor_from_zero : (p r : ℤ) (n : ℕ) → lt_z p (pos 0) ≡ false → r ≡ pos (unsigned_abs p / n) → r ≡ int_div_euclid p (pos n)
floor_from_zero (pos a) r n t e = e
floor_from_zero (negsuc a) r n t e = absurd (cc)

pub square_floor : (x : ℤ) (w n : ℕ) → w ≡ unsigned_abs (x *ℤ x) / n → pos w ≡ int_div_euclid (x *ℤ x) (pos n)
square_floor x w n h = rw (square_abs x) (ap (λ (i : ℕ). pos i) (rw (square_abs x) at h))
