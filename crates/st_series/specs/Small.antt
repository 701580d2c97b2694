-- The small bounds: sine and cosine of x units, |x| at most 2·10^18, by fourteen terms of the series, each rounded down to
-- whole units. Fixed to the last unit, so that whoever checks a computation can find them again.
use Rattle.std.specs.Prelude.{ℕ, zero, suc, ◌+◌, ◌*◌, ◌^◌, ℤ, pos, ◌+ℤ◌, ◌*ℤ◌}
use Rattle.std.specs.Int.{int_div_euclid}
use Rattle.st_series.specs.Series.{turned}

-- the greatest whole number at most z / n
abbrev pub floor_of : ℤ → ℕ → ℤ
floor_of z n = int_div_euclid z (pos n)

-- The first term is that of degree k. Each later one is the term before it times x^2 / ((d+1)(d+2)), where d is that
-- term's degree and q is x^2 in units, rounded down.
unfoldable pub rounded_term : ℤ → ℤ → ℕ → ℕ → ℤ
rounded_term first q k zero = first
rounded_term first q k (suc i) = floor_of (rounded_term first q k i *ℤ q) (10 ^ 18 * ((2 * i + k + 1) * (2 * i + k + 2)))

-- the sum for i from 0 to n of (-1)^i times the i-th term
unfoldable pub rounded_sum : ℤ → ℤ → ℕ → ℕ → ℤ
rounded_sum first q k zero = first
rounded_sum first q k (suc n) = rounded_sum first q k n +ℤ turned (suc n) (rounded_term first q k (suc n))

-- x^2 in units
abbrev pub rounded_square : ℤ → ℤ
rounded_square x = floor_of (x *ℤ x) (10 ^ 18)

-- The small bounds of sine are 25 units below and above `small_sine`, those of cosine below and above `small_cosine`.
unfoldable pub small_sine : ℤ → ℤ
small_sine x = rounded_sum x (rounded_square x) 1 13

unfoldable pub small_cosine : ℤ → ℤ
small_cosine x = rounded_sum (pos (10 ^ 18)) (rounded_square x) 0 13
