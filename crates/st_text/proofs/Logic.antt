-- What tests that pass and steps that had an answer tell. That equal `Some`s have equal values is std's
-- `same_Some`.
use Rattle.std.proofs.Common.{◌≡◌, Bool, true, false, ◌&&◌, Option, Some, None, ℤ, ◌≤ℤ◌, int_le, refl, arith}
use Rattle.std.proofs.lemmas.Int.{ints}
use Rattle.st_text.specs.Scan.{◌>>=◌}

-- both of two tests pass
pub and-left : (x y : Bool) → (x && y) ≡ true → x ≡ true
and-left true y e = refl
and-left false y e = e

pub and-right : (x y : Bool) → (x && y) ≡ true → y ≡ true
and-right true y e = e
and-right false y e = absurd cc

-- a step whose answer was used had one
pub bound : {A B : Type 0} (o : Option A) (f : A → Option B) (b : B) → (o >>= f) ≡ Some b → (a : A) × (o ≡ Some a) × (f a ≡ Some b)
bound None f b e = absurd (cc)
bound (Some a) f b e = (a, refl, e)

-- a number between two bounds passes the test of them, and what passes is between them
pub tested : (low high z : ℤ) → low ≤ℤ z → z ≤ℤ high → (int_le low z && int_le z high) ≡ true
tested low high z from to = grind (arith, ints)

pub passed : (low high z : ℤ) → (int_le low z && int_le z high) ≡ true → (low ≤ℤ z) × (z ≤ℤ high)
passed low high z e = grind (arith, ints)
