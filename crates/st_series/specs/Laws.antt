-- The laws of sine and cosine that the enclosures stand on, each for all fractions and all n, over the partial sums
-- alone.
use Rattle.std.specs.Prelude.{ℕ, ◌+◌, ◌*◌, ◌^◌, ◌≤◌, pos, negsuc}
use Rattle.st_fraction.specs.Fraction.{Fraction, IsFraction, ◌≤ᶠ◌, ◌<ᶠ◌, ◌≈ᶠ◌, over, whole, ◌+ᶠ◌, ◌-ᶠ◌, ◌*ᶠ◌, abs_f, IsNear}
use Rattle.st_series.specs.Series.{factorial, term, sine_sum, cosine_sum, IsLongEnough, sine_lower, sine_upper, cosine_lower, cosine_upper, sine_num, cosine_num, SineIsAtLeast, SineIsAtMost, CosineIsAtLeast, CosineIsAtMost}

-- Each partial sum at p/q is one numerator over one denominator.
abbrev pub SineOverOne : Type 0
SineOverOne = (x : Fraction) (n : ℕ) → IsFraction x
    → sine_sum x n ≈ᶠ over (sine_num x.num x.den n) (x.den ^ (2 * n + 1) * factorial (2 * n + 1))

abbrev pub CosineOverOne : Type 0
CosineOverOne = (x : Fraction) (n : ℕ) → IsFraction x
    → cosine_sum x n ≈ᶠ over (cosine_num x.num x.den n) (x.den ^ (2 * n) * factorial (2 * n))

-- At 0 the sums are 0 and 1. At 1 the sums of three terms are 1 - 1/6 + 1/120 and 1 - 1/2 + 1/24.
abbrev pub AtZero : Type 0
AtZero = (n : ℕ) → (sine_sum (whole (pos 0)) n ≈ᶠ whole (pos 0)) × (cosine_sum (whole (pos 0)) n ≈ᶠ whole (pos 1))

abbrev pub AtOne : Type 0
AtOne = (sine_sum (whole (pos 1)) 2 ≈ᶠ over (pos 101) 120) × (cosine_sum (whole (pos 1)) 2 ≈ᶠ over (pos 13) 24)

-- Sandwich: the ends L_n and U_n close in on each other, so one long enough n bounds all later ones.
abbrev pub SineSandwich : Type 0
SineSandwich = (x : Fraction) (n m : ℕ) → IsFraction x → IsLongEnough x n → n ≤ m
    → (sine_lower x n ≤ᶠ sine_lower x m) × (sine_upper x m ≤ᶠ sine_upper x n)

abbrev pub CosineSandwich : Type 0
CosineSandwich = (x : Fraction) (n m : ℕ) → IsFraction x → IsLongEnough x n → n ≤ m
    → (cosine_lower x n ≤ᶠ cosine_lower x m) × (cosine_upper x m ≤ᶠ cosine_upper x n)

-- A number that is long enough stays so, and no long enough lower end is above a long enough upper end.
abbrev pub LongEnoughStays : Type 0
LongEnoughStays = (x : Fraction) (n m : ℕ) → IsLongEnough x n → n ≤ m → IsLongEnough x m

abbrev pub SineInOrder : Type 0
SineInOrder = (x : Fraction) (n m : ℕ) → IsFraction x → IsLongEnough x n → IsLongEnough x m → sine_lower x n ≤ᶠ sine_upper x m

abbrev pub CosineInOrder : Type 0
CosineInOrder = (x : Fraction) (n m : ℕ) → IsFraction x → IsLongEnough x n → IsLongEnough x m → cosine_lower x n ≤ᶠ cosine_upper x m

-- Vanishing: from some degree on, the terms of the series are at most e, for every fraction e above 0.
abbrev pub Vanishing : Type 0
Vanishing = (z e : Fraction) → IsFraction z → whole (pos 0) <ᶠ e
    → (n : ℕ) × ((k : ℕ) → n ≤ k → term (abs_f z) k ≤ᶠ e)

-- Some n is long enough; the ends of n are no farther apart than the term that divides them; and so a value that is at
-- least a and at most b has a ≤ b.
abbrev pub LongEnoughExists : Type 0
LongEnoughExists = (x : Fraction) → IsFraction x → (n : ℕ) × IsLongEnough x n

abbrev pub SineNarrow : Type 0
SineNarrow = (x : Fraction) (n : ℕ) → IsFraction x → (sine_upper x n -ᶠ sine_lower x n) ≤ᶠ term (abs_f x) (2 * n + 3)

abbrev pub CosineNarrow : Type 0
CosineNarrow = (x : Fraction) (n : ℕ) → IsFraction x → (cosine_upper x n -ᶠ cosine_lower x n) ≤ᶠ term (abs_f x) (2 * n + 2)

abbrev pub SineAgrees : Type 0
SineAgrees = (x a b : Fraction) → IsFraction x → SineIsAtLeast x a → SineIsAtMost x b → a ≤ᶠ b

abbrev pub CosineAgrees : Type 0
CosineAgrees = (x a b : Fraction) → IsFraction x → CosineIsAtLeast x a → CosineIsAtMost x b → a ≤ᶠ b

-- Addition, with z = |x| + |y| and n + 1 ≥ z: off by at most 2 z^(2n+2) / (2n+2)!. Doubling is the case of x and x.
abbrev pub SineAddition : Type 0
SineAddition = (x y : Fraction) (n : ℕ) → IsFraction x → IsFraction y → (abs_f x +ᶠ abs_f y) ≤ᶠ whole (pos (n + 1))
    → IsNear (sine_sum (x +ᶠ y) n) (sine_sum x n *ᶠ cosine_sum y n +ᶠ cosine_sum x n *ᶠ sine_sum y n)
    (whole (pos 2) *ᶠ term (abs_f x +ᶠ abs_f y) (2 * n + 2))

abbrev pub CosineAddition : Type 0
CosineAddition = (x y : Fraction) (n : ℕ) → IsFraction x → IsFraction y → (abs_f x +ᶠ abs_f y) ≤ᶠ whole (pos (n + 1))
    → IsNear (cosine_sum (x +ᶠ y) n) (cosine_sum x n *ᶠ cosine_sum y n -ᶠ sine_sum x n *ᶠ sine_sum y n)
    (whole (pos 2) *ᶠ term (abs_f x +ᶠ abs_f y) (2 * n + 2))

-- Bound by one: neither is above 1 or below -1.
abbrev pub SineBound : Type 0
SineBound = (x : Fraction) (n : ℕ) → IsFraction x → IsLongEnough x n
    → (sine_lower x n ≤ᶠ whole (pos 1)) × (whole (negsuc 0) ≤ᶠ sine_upper x n)

abbrev pub CosineBound : Type 0
CosineBound = (x : Fraction) (n : ℕ) → IsFraction x → IsLongEnough x n
    → (cosine_lower x n ≤ᶠ whole (pos 1)) × (whole (negsuc 0) ≤ᶠ cosine_upper x n)

-- Lipschitz: two sines, or two cosines, are no farther apart than their angles.
abbrev pub SineLipschitz : Type 0
SineLipschitz = (x y : Fraction) (n : ℕ) → IsFraction x → IsFraction y → IsLongEnough x n → IsLongEnough y n
    → (sine_lower x n -ᶠ sine_upper y n) ≤ᶠ abs_f (x -ᶠ y)

abbrev pub CosineLipschitz : Type 0
CosineLipschitz = (x y : Fraction) (n : ℕ) → IsFraction x → IsFraction y → IsLongEnough x n → IsLongEnough y n
    → (cosine_lower x n -ᶠ cosine_upper y n) ≤ᶠ abs_f (x -ᶠ y)
