-- The limits of numbers, which are this project's own.
use Rattle.std.specs.Prelude.{ℕ}

-- the most digits from the first nonzero digit of a number to the last
abbrev pub most_digits : ℕ
most_digits = 30

-- the greatest magnitude of an exponent
abbrev pub most_exponent : ℕ
most_exponent = 400

-- the most bytes of a text that is read as a number
abbrev pub most_number_bytes : ℕ
most_number_bytes = 1_000

-- a count of units of 10^-18 is of a magnitude below this
abbrev pub units_bound : ℕ
units_bound = 100_000_000_000_000_000_000_000_000_000_000_000_000
