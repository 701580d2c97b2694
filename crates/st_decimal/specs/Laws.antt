-- What the definition of a number's text says by itself.
use Rattle.std.specs.Prelude.{ℕ, ℤ, pos, ◌+ℤ◌, ◌^◌, ◌<◌, Ok, unsigned_abs}
use Rattle.st_decimal.specs.Fixed.{fixed}
use Rattle.st_decimal.specs.Scaling.{IsTimesTen}
use Rattle.st_decimal.specs.Value.{ReadsDec}
use Rattle.st_decimal.specs.declared.number.Dec.{Dec}

-- A number written with fixed decimals is read as what it is worth.
abbrev pub FixedReads : Type 0
FixedReads =
    (n : ℤ) (places : ℕ) → unsigned_abs n < 10 ^ 30
    → (d : Dec) × (ReadsDec (fixed n places) (Ok d) × IsTimesTen d.digits (d.tens +ℤ pos places) n)
