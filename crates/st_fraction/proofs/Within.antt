-- |z| ≤ w, as two linear facts, which `omega (arith, lin)` reads from the fields.
use Rattle.std.proofs.Common.{ℕ, ◌*◌, ◌≤◌, ℤ, pos, negsuc, ◌+ℤ◌, ◌*ℤ◌, neg_ℤ, unsigned_abs, ◌≤ℤ◌, arith, mul-le-mul}
use Rattle.std.proofs.lemmas.Int.{ints, unsigned_abs-mul}
use Rattle.st_fraction.proofs.Ring.{lin}

pub record Within (z w : ℤ) : Type 0 where
  pub above : z ≤ℤ w
  pub below : neg_ℤ z ≤ℤ w

pub within_abs : (z : ℤ) → Within z (pos (unsigned_abs z))
within_abs z = record { above = omega (arith, ints); below = omega (arith, ints) }

pub abs_within : (z : ℤ) (n : ℕ) → Within z (pos n) → unsigned_abs z ≤ n
abs_within z n h = omega (arith, ints)

pub within_of_abs : (z : ℤ) (n : ℕ) → unsigned_abs z ≤ n → Within z (pos n)
within_of_abs z n h = record { above = omega (arith, ints); below = omega (arith, ints) }

pub within_zero : Within (pos 0) (pos 0)
within_zero = record { above = omega (arith, ints); below = omega (arith, ints) }

pub within_neg : (z w : ℤ) → Within z w → Within (neg_ℤ z) w
within_neg z w h = record { above = omega (arith, lin); below = omega (arith, lin) }

pub within_add : (x y v w : ℤ) → Within x v → Within y w → Within (x +ℤ y) (v +ℤ w)
within_add x y v w h k = record { above = omega (arith, lin); below = omega (arith, lin) }

pub within_mul : (x y v w : ℤ) → Within x v → Within y w → Within (x *ℤ y) (v *ℤ w)
within_mul x y (negsuc v) w h k = absurd (omega (arith, ints))
within_mul x y (pos v) (negsuc w) h k = absurd (omega (arith, ints))
within_mul x y (pos v) (pos w) h k =
    let a : unsigned_abs x ≤ v = omega (arith, ints) in
    let b : unsigned_abs y ≤ w = omega (arith, ints) in
    let e : unsigned_abs (x *ℤ y) ≤ v * w = omega (arith, unsigned_abs-mul x y, mul-le-mul a b) in
    record { above = omega (arith, lin); below = omega (arith, lin) }

-- by a factor that is not negative
pub within_scale : (z w : ℤ) (n : ℕ) → Within z w → Within (z *ℤ pos n) (w *ℤ pos n)
within_scale z w n h = within_mul z (pos n) w (pos n) h (record { above = omega (arith, ints); below = omega (arith, ints) })
