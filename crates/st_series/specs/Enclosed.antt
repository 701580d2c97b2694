-- What it means that an interval of whole units has the sine, or the cosine, of an angle.
use Rattle.std.specs.Prelude.{ℤ}
use Rattle.st_fraction.specs.Fraction.{Fraction, units}
use Rattle.st_series.specs.Series.{SineIsAtLeast, SineIsAtMost, CosineIsAtLeast, CosineIsAtMost}

-- the sine of x is at least lo units and at most hi units
pub record HasSine (lo hi : ℤ) (x : Fraction) : Type 0 where
  pub at_least : SineIsAtLeast x (units lo)
  pub at_most : SineIsAtMost x (units hi)

pub record HasCosine (lo hi : ℤ) (x : Fraction) : Type 0 where
  pub at_least : CosineIsAtLeast x (units lo)
  pub at_most : CosineIsAtMost x (units hi)
