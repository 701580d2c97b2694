-- A line passes within the tolerance of a pair where its rate lies between two quotients.
use Rattle.std.proofs.Common.{◌≡◌, ℕ, ◌*◌, ◌-◌, ◌^◌, ◌<◌, ◌≤◌, ℤ, pos, ◌+ℤ◌, ◌-ℤ◌, ◌*ℤ◌, neg_ℤ, ◌≤ℤ◌, ap, arith, lit<, mul-pos}
use Rattle.std.proofs.lemmas.Int.{ints}
use Rattle.st_fraction.specs.Fraction.{over, units, ◌*ᶠ◌}
use Rattle.st_fraction.proofs.Ring.{lin, ring, le-mul_z}
use Rattle.st_fraction.proofs.Scale.{IsAt, at_self, at_more, at_add, at_mul}
use Rattle.st_fraction.proofs.Linear.{near_at, at_near}
use Rattle.st_fit.specs.declared.pair.Pair.{Pair}
use Rattle.st_fit.specs.declared.pair.Terms.{Terms}
use Rattle.st_fit.specs.Fit.{line_time, Passes}

pub units_at : (tpm : ℕ) (u : ℤ) → IsAt (10 ^ 18 * tpm) (units u) (u *ℤ pos tpm)
units_at tpm u = at_more (10 ^ 18) tpm (units u) u (at_self (units u))

-- the times of a line, of a pair and of a tolerance at one scale
pub line_at : (tpm : ℕ) (start : Pair) (rate : ℤ) (k : ℕ) → IsAt (10 ^ 18 * tpm) (line_time tpm start rate k) (start.time *ℤ pos tpm +ℤ rate *ℤ (pos k -ℤ pos start.ticks))
line_at tpm start rate k =
    at_add (10 ^ 18 * tpm) (units start.time) (units rate *ᶠ over (pos k -ℤ pos start.ticks) tpm) (start.time *ℤ pos tpm) (rate *ℤ (pos k -ℤ pos start.ticks))
    (units_at tpm start.time)
    (at_mul (10 ^ 18) tpm (units rate) (over (pos k -ℤ pos start.ticks) tpm) rate (pos k -ℤ pos start.ticks) (at_self (units rate)) (at_self (over (pos k -ℤ pos start.ticks) tpm)))

-- passing, in whole numbers
pub record LiesBetween (t : Terms) (start : Pair) (rate : ℤ) (p : Pair) : Type 0 where
  pub low : ((p.time -ℤ start.time -ℤ t.tolerance) *ℤ pos t.tpm) ≤ℤ (rate *ℤ pos (p.ticks - start.ticks))
  pub high : (rate *ℤ pos (p.ticks - start.ticks)) ≤ℤ ((p.time -ℤ start.time +ℤ t.tolerance) *ℤ pos t.tpm)

spread_low : (p s e n : ℤ) → (p +ℤ neg_ℤ s +ℤ neg_ℤ e) *ℤ n ≡ p *ℤ n +ℤ neg_ℤ (s *ℤ n) +ℤ neg_ℤ (e *ℤ n)
spread_low p s e n = simp ring

spread_high : (p s e n : ℤ) → (p +ℤ neg_ℤ s +ℤ e) *ℤ n ≡ p *ℤ n +ℤ neg_ℤ (s *ℤ n) +ℤ e *ℤ n
spread_high p s e n = simp ring

since : (start p : Pair) → start.ticks ≤ p.ticks → pos p.ticks -ℤ pos start.ticks ≡ pos (p.ticks - start.ticks)
since start p h = omega (arith, ints)

pub passes_between : (t : Terms) (start p : Pair) (rate : ℤ) → 0 < t.tpm → start.ticks ≤ p.ticks → Passes t start rate p → LiesBetween t start rate p
passes_between t start p rate some h n =
    let s = since start p h in
    let d = ap (λ z. rate *ℤ z) s in
    let w = near_at (10 ^ 18 * t.tpm) (line_time t.tpm start rate p.ticks) (units p.time) (units t.tolerance)
    (start.time *ℤ pos t.tpm +ℤ rate *ℤ (pos p.ticks -ℤ pos start.ticks)) (p.time *ℤ pos t.tpm) (t.tolerance *ℤ pos t.tpm)
    (mul-pos (lit< tt) (mul-pos (lit< tt) some)) (lit< tt) (lit< tt)
    (line_at t.tpm start rate p.ticks) (units_at t.tpm p.time) (units_at t.tpm t.tolerance) n in
    let a = spread_low p.time start.time t.tolerance (pos t.tpm) in
    let b = spread_high p.time start.time t.tolerance (pos t.tpm) in
    record { low = omega (arith, lin); high = omega (arith, lin) }

pub between_passes : (t : Terms) (start p : Pair) (rate : ℤ) → 0 < t.tpm → start.ticks ≤ p.ticks → LiesBetween t start rate p → Passes t start rate p
between_passes t start p rate some h l =
    let s = since start p h in
    let d = ap (λ z. rate *ℤ z) s in
    let a = spread_low p.time start.time t.tolerance (pos t.tpm) in
    let b = spread_high p.time start.time t.tolerance (pos t.tpm) in
    at_near (10 ^ 18 * t.tpm) (line_time t.tpm start rate p.ticks) (units p.time) (units t.tolerance)
    (start.time *ℤ pos t.tpm +ℤ rate *ℤ (pos p.ticks -ℤ pos start.ticks)) (p.time *ℤ pos t.tpm) (t.tolerance *ℤ pos t.tpm)
    (mul-pos (lit< tt) some)
    (line_at t.tpm start rate p.ticks) (units_at t.tpm p.time) (units_at t.tpm t.tolerance)
    (record { above = omega (arith, lin); below = omega (arith, lin) })

-- each line passes its own pair
pub passes_start : (t : Terms) (start : Pair) (rate : ℤ) → 0 < t.tpm → pos 0 ≤ℤ t.tolerance → Passes t start rate start
passes_start t start rate some h =
    let z : start.ticks - start.ticks ≡ 0 = omega arith in
    let m : (pos 0 *ℤ pos t.tpm) ≤ℤ (t.tolerance *ℤ pos t.tpm) = le-mul_z (pos 0) t.tolerance t.tpm h in
    let a = spread_low start.time start.time t.tolerance (pos t.tpm) in
    let b = spread_high start.time start.time t.tolerance (pos t.tpm) in
    between_passes t start start rate some (omega arith) (record { low = rw z (omega (arith, ints)); high = rw z (omega (arith, ints)) })
