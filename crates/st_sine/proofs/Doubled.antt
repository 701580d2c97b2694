-- What the loop has after i doublings.
use Rattle.std.proofs.Common.{◌≡◌, ℕ, zero, suc, ◌+◌, ◌-◌, ◌*◌, ◌^◌, ◌≤◌, ℤ, pos, ◌+ℤ◌, ◌-ℤ◌, ◌*ℤ◌, ◌≤ℤ◌, arith, lit<}
use Rattle.std.proofs.Math.Nat.{pow-suc}
use Rattle.std.proofs.lemmas.Int.{ints}
use Rattle.st_fraction.specs.Fraction.{IsFraction, units}
use Rattle.st_fraction.proofs.Ring.{mul-one_z}
use Rattle.st_enclosure.specs.Ends.{EndsAtMost}
use Rattle.st_series.specs.Enclosed.{HasSine, HasCosine}
use Rattle.st_sine.specs.Narrow.{AreNarrow}
use Rattle.st_sine.proofs.Carried.{has_sine_low, has_sine_high, has_cosine_low, has_cosine_high}
use Rattle.st_sine.proofs.Widths.{width_after, width_after-suc}

pub record AreDoubled (start : ℤ) (i : ℕ) (sl sh cl ch : ℤ) : Type 0 where
  pub sine : HasSine sl sh (units (start *ℤ pos (2 ^ i)))
  pub cosine : HasCosine cl ch (units (start *ℤ pos (2 ^ i)))
  pub sine_width : (sh -ℤ sl) ≤ℤ pos (width_after i)
  pub cosine_width : (ch -ℤ cl) ≤ℤ pos (width_after i)

pub doubled_start : (start sl sh cl ch : ℤ) → HasSine sl sh (units start) → HasCosine cl ch (units start) → (sh -ℤ sl) ≤ℤ pos 51 → (ch -ℤ cl) ≤ℤ pos 51 → AreDoubled start 0 sl sh cl ch
unfolding width_after
doubled_start start sl sh cl ch s c w v =
    let e : start *ℤ pos (2 ^ 0) ≡ start = mul-one_z start in
    record { sine = rw e s; cosine = rw e c; sine_width = w; cosine_width = v }

twice_power : (start : ℤ) (i : ℕ) → start *ℤ pos (2 ^ suc i) ≡ start *ℤ pos (2 ^ i) +ℤ start *ℤ pos (2 ^ i)
twice_power start i = rw (pow-suc 2 i) (go start (2 ^ i))
  where
    go : (s : ℤ) (p : ℕ) → s *ℤ pos (p * 2) ≡ s *ℤ pos p +ℤ s *ℤ pos p
    go s p = omega (arith, ints)

pub doubled_next : (start : ℤ) (i : ℕ) (sl sh cl ch : ℤ)
    → HasSine sl sh (units (start *ℤ pos (2 ^ i) +ℤ start *ℤ pos (2 ^ i))) → HasCosine cl ch (units (start *ℤ pos (2 ^ i) +ℤ start *ℤ pos (2 ^ i)))
    → (sh -ℤ sl) ≤ℤ pos (4 * width_after i + 4) → (ch -ℤ cl) ≤ℤ pos (4 * width_after i + 4) → AreDoubled start (suc i) sl sh cl ch
doubled_next start i sl sh cl ch s c w v =
    let e = twice_power start i in
    let f = width_after-suc i in
    record { sine = rw e s; cosine = rw e c; sine_width = rw f w; cosine_width = rw f v }

pub units-fraction : (z : ℤ) → IsFraction (units z)
units-fraction z = record { positive = lit< tt }

-- no end is farther beyond 1 than the enclosure is wide
pub sine_ends : (lo hi : ℤ) (w : ℕ) (z : ℤ) → HasSine lo hi (units z) → (hi -ℤ lo) ≤ℤ pos w → EndsAtMost lo hi (10 ^ 18 + w)
sine_ends lo hi w z h k =
    let l = has_sine_low lo hi (units z) (units-fraction z) h in
    let u = has_sine_high lo hi (units z) (units-fraction z) h in
    record { low = omega (arith, ints); high = omega (arith, ints) }

pub cosine_ends : (lo hi : ℤ) (w : ℕ) (z : ℤ) → HasCosine lo hi (units z) → (hi -ℤ lo) ≤ℤ pos w → EndsAtMost lo hi (10 ^ 18 + w)
cosine_ends lo hi w z h k =
    let l = has_cosine_low lo hi (units z) (units-fraction z) h in
    let u = has_cosine_high lo hi (units z) (units-fraction z) h in
    record { low = omega (arith, ints); high = omega (arith, ints) }

pub are_narrow : (start : ℤ) (i : ℕ) (sl sh cl ch : ℤ) → AreDoubled start i sl sh cl ch → AreNarrow (width_after i) sl sh cl ch
are_narrow start i sl sh cl ch d = record {
  sine = d.sine_width;
  cosine = d.cosine_width;
  sine_ends = sine_ends sl sh (width_after i) (start *ℤ pos (2 ^ i)) d.sine d.sine_width;
  cosine_ends = cosine_ends cl ch (width_after i) (start *ℤ pos (2 ^ i)) d.cosine d.cosine_width;
}

pub ends_wider : (lo hi : ℤ) (n m : ℕ) → EndsAtMost lo hi n → n ≤ m → EndsAtMost lo hi m
ends_wider lo hi n m h k = let l = h.low in let u = h.high in record { low = omega (arith, ints); high = omega (arith, ints) }

power_rises : (i j : ℕ) → 2 ^ i ≤ 2 ^ (j + i)
power_rises i zero = let e : 0 + i ≡ i = omega arith in rw e (omega arith)
power_rises i (suc j) = let e : suc j + i ≡ suc (j + i) = omega arith in rw (e, pow-suc 2 (j + i)) (let ih = power_rises i j in omega arith)

pub power_at_most : (i : ℕ) → i ≤ 11 → 2 ^ i ≤ 2048
power_at_most i h = let e : (11 - i) + i ≡ 11 = omega arith in rw e at (power_rises i (11 - i))
