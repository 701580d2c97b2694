-- The numbers that samples are made from: a linear congruential generator modulo 2^64, with the multiplier and the increment
-- of D. E. Knuth's MMIX. Which of its bits are taken is a choice of this project.
use Rattle.std.specs.Prelude.{ℕ, zero, suc, ◌+◌, ◌*◌, ◌/◌, ◌%◌, ◌^◌}

-- the number that follows x
abbrev pub next_of : ℕ → ℕ
next_of x = (6_364_136_223_846_793_005 * x + 1_442_695_040_888_963_407) % 2 ^ 64

-- x(i), by recursion from x(0), which is the seed
unfoldable pub x_of : ℕ → ℕ → ℕ
x_of seed zero = seed
x_of seed (suc i) = next_of (x_of seed i)

-- the whole seconds of a sample time, below 2^31
abbrev pub seconds : ℕ → ℕ
seconds x = x / 2 ^ 20 % 2 ^ 31

-- and the milliseconds after them
abbrev pub milliseconds : ℕ → ℕ
milliseconds x = x / 2 ^ 8 % 1_000

-- a tick of a clock that has ticks from 0 to this total
abbrev pub tick : ℕ → ℕ → ℕ
tick x total = x / 2 ^ 20 % (total + 1)
