-- Fractions of whole numbers. There are no real numbers anywhere: an exact value is known through the fractions that
-- are at most it, and those that are at least it.
use Rattle.std.specs.Prelude.{◌≡◌, ℕ, ◌*◌, ◌^◌, ◌<◌, ℤ, pos, neg_ℤ, ◌+ℤ◌, ◌*ℤ◌, ◌≤ℤ◌, ◌<ℤ◌, int_le, cond, unsigned_abs}

infix 50 ◌≤ᶠ◌
infix 50 ◌<ᶠ◌
infix 50 ◌≈ᶠ◌
infixl 60 ◌+ᶠ◌
infixl 60 ◌-ᶠ◌
infixl 70 ◌*ᶠ◌
-- num / den. It means a number where den is above 0, which is a premise wherever it is needed.
pub record Fraction : Type 0 where
  pub num : ℤ
  pub den : ℕ

pub record IsFraction (a : Fraction) : Type 0 where
  pub positive : 0 < a.den

-- Order and equality, by cross products: a/b ≤ c/d where a d ≤ c b.
pub record ◌≤ᶠ◌ (a b : Fraction) : Type 0 where
  pub le : (a.num *ℤ pos b.den) ≤ℤ (b.num *ℤ pos a.den)

pub record ◌<ᶠ◌ (a b : Fraction) : Type 0 where
  pub lt : (a.num *ℤ pos b.den) <ℤ (b.num *ℤ pos a.den)

pub record ◌≈ᶠ◌ (a b : Fraction) : Type 0 where
  pub same : a.num *ℤ pos b.den ≡ b.num *ℤ pos a.den

abbrev pub over : ℤ → ℕ → Fraction
over p q = record { num = p; den = q }

-- a whole number
abbrev pub whole : ℤ → Fraction
whole p = over p 1

-- u units, of which 10^18 make one: with values in seconds or radians, what an `i128` count of units means
abbrev pub units : ℤ → Fraction
units u = over u (10 ^ 18)

abbrev pub ◌+ᶠ◌ : Fraction → Fraction → Fraction
a +ᶠ b = over (a.num *ℤ pos b.den +ℤ b.num *ℤ pos a.den) (a.den * b.den)

abbrev pub neg_f : Fraction → Fraction
neg_f a = over (neg_ℤ a.num) a.den

abbrev pub ◌-ᶠ◌ : Fraction → Fraction → Fraction
a -ᶠ b = a +ᶠ neg_f b

abbrev pub ◌*ᶠ◌ : Fraction → Fraction → Fraction
a *ᶠ b = over (a.num *ℤ b.num) (a.den * b.den)

abbrev pub abs_f : Fraction → Fraction
abs_f a = over (pos (unsigned_abs a.num)) a.den

-- the lesser, and the greater, of two
abbrev pub least : Fraction → Fraction → Fraction
least a b = cond (int_le (a.num *ℤ pos b.den) (b.num *ℤ pos a.den)) a b

abbrev pub greatest : Fraction → Fraction → Fraction
greatest a b = cond (int_le (a.num *ℤ pos b.den) (b.num *ℤ pos a.den)) b a

-- x lies from lo units to hi units, both included: what an enclosure with these ends contains
pub record LiesWithin (lo hi : ℤ) (x : Fraction) : Type 0 where
  pub from : units lo ≤ᶠ x
  pub to : x ≤ᶠ units hi

-- |a - b| ≤ e, as two facts
pub record IsNear (a b e : Fraction) : Type 0 where
  pub above : a ≤ᶠ (b +ᶠ e)
  pub below : b ≤ᶠ (a +ᶠ e)
