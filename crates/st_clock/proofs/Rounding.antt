-- Whole numbers and the line: what the division gives is the nearest tick.
use Rattle.std.proofs.Common.{◌≡◌, ℕ, ◌+◌, ◌*◌, ◌/◌, ◌%◌, ◌^◌, ◌<◌, ◌≤◌, min, ℤ, pos, ◌+ℤ◌, ◌*ℤ◌, neg_ℤ, ◌≤ℤ◌, ◌<ℤ◌, ◌⊎◌, inl, inr, Some, lit<, arith, mul-pos, mul-le-mul_right}
use Rattle.std.proofs.Math.Nat.{div-mul-le_self, lt-div-mul-add}
use Rattle.std.proofs.lemmas.Bool.{cases_lt}
use Rattle.std.proofs.lemmas.Int.{ints}
use Rattle.st_fraction.specs.Fraction.{Fraction, ◌≤ᶠ◌, ◌<ᶠ◌, over, whole, units, ◌+ᶠ◌, least}
use Rattle.st_fraction.proofs.Order.{le_f_trans, least_cases}
use Rattle.st_fraction.proofs.Ends.{least-den}
use Rattle.st_fraction.proofs.Scale.{at_self, le_at}
use Rattle.st_fraction.proofs.Linear.{whole_at}
use Rattle.st_fraction.proofs.Strict.{lt_at, le_lt_f, least_first, least_second}
use Rattle.st_clock.specs.declared.coefficient.Coefficient.{Coefficient}
use Rattle.st_clock.specs.NearestSteps.{IsFloorOrFar}
use Rattle.st_clock.specs.Tick.{line_tick, capped}
use Rattle.st_clock.proofs.Falls.{line_tick-den, half_more-den, half_more, add_half}
use Rattle.st_clock.proofs.Half.{tick_at}

low : (d r p q m e : ℕ) → d ≡ q * r + m → e * (2 * r) ≤ 2 * m * p + r → 2 * (q * p + e) * r ≤ 2 * d * p + r
low d r p q m e split h = rw split (omega arith)

high : (d r p q m e : ℕ) → d ≡ q * r + m → 2 * m * p + r < e * (2 * r) + 2 * r → 2 * d * p + r < 2 * (q * p + e + 1) * r
high d r p q m e split h = rw split (omega arith)

pub rounded_low : (d r p : ℕ) → 0 < r → 2 * (d / r * p + (2 * (d % r) * p + r) / (2 * r)) * r ≤ 2 * d * p + r
rounded_low d r p some =
    let split : d ≡ d / r * r + d % r = omega arith in
    low d r p (d / r) (d % r) ((2 * (d % r) * p + r) / (2 * r)) split (div-mul-le_self (2 * (d % r) * p + r) (2 * r))

pub rounded_high : (d r p : ℕ) → 0 < r → 2 * d * p + r < 2 * (d / r * p + (2 * (d % r) * p + r) / (2 * r) + 1) * r
rounded_high d r p some =
    let split : d ≡ d / r * r + d % r = omega arith in
    let twice : 0 < 2 * r = omega arith in
    high d r p (d / r) (d % r) ((2 * (d % r) * p + r) / (2 * r)) split (lt-div-mul-add {a = 2 * (d % r) * p + r} twice)

-- the same over the line of a record, d units after its time
pub line_floor : (tpm : ℕ) (r : Coefficient) (t : ℤ) (d n : ℕ) → 0 < r.rate → t ≡ r.time +ℤ pos d → 2 * n * r.rate ≤ 2 * d * tpm + r.rate
    → whole (pos (r.ticks + n)) ≤ᶠ (line_tick tpm r (units t) +ᶠ over (pos 1) 2)
line_floor tpm r t d n some e h =
    let unit : 0 < 10 ^ 18 = lit< tt in
    let two : 0 < 2 = lit< tt in
    le_at (10 ^ 18 * r.rate * 2) (whole (pos (r.ticks + n))) (line_tick tpm r (units t) +ᶠ over (pos 1) 2) _ _ (mul-pos (mul-pos unit some) two)
    (whole_at (pos (r.ticks + n)) (10 ^ 18 * r.rate * 2)) (tick_at tpm r (units t) (10 ^ 18) r.time t (at_self (units r.time)) (at_self (units t)))
    (go r.ticks n d tpm r.rate (10 ^ 18) r.time t e h)
  where
    numbers : (s n d p q m : ℕ) → 2 * n * q ≤ 2 * d * p + q → (s + n) * (m * q * 2) ≤ (s * (m * q) + d * (p * m)) * 2 + m * q
    numbers s n d p q m h = omega (arith, mul-le-mul_right m h)

    go : (s n d p q m : ℕ) (x t : ℤ) → t ≡ x +ℤ pos d → 2 * n * q ≤ 2 * d * p + q
        → (pos (s + n) *ℤ pos (m * q * 2)) ≤ℤ ((pos s *ℤ pos (m * q) +ℤ (t +ℤ neg_ℤ x) *ℤ pos (p * m)) *ℤ pos 2 +ℤ pos (m * q))
    go s n d p q m x t e h =
        let f : t +ℤ neg_ℤ x ≡ pos d = omega (arith, ints) in
        rw f (omega (arith, ints, numbers s n d p q m h))

pub line_next : (tpm : ℕ) (r : Coefficient) (t : ℤ) (d n : ℕ) → 0 < r.rate → t ≡ r.time +ℤ pos d → 2 * d * tpm + r.rate < 2 * (n + 1) * r.rate
    → (line_tick tpm r (units t) +ᶠ over (pos 1) 2) <ᶠ whole (pos (r.ticks + n + 1))
line_next tpm r t d n some e h =
    let unit : 0 < 10 ^ 18 = lit< tt in
    lt_at (10 ^ 18 * r.rate * 2) (line_tick tpm r (units t) +ᶠ over (pos 1) 2) (whole (pos (r.ticks + n + 1))) _ _
    (half_more-den (line_tick tpm r (units t)) (line_tick-den tpm r (units t) some unit)) (lit< tt)
    (tick_at tpm r (units t) (10 ^ 18) r.time t (at_self (units r.time)) (at_self (units t))) (whole_at (pos (r.ticks + n + 1)) (10 ^ 18 * r.rate * 2))
    (go r.ticks n d tpm r.rate (10 ^ 18) r.time t unit e h)
  where
    numbers : (s n d p q m : ℕ) → 0 < m → 2 * d * p + q < 2 * (n + 1) * q → (s * (m * q) + d * (p * m)) * 2 + m * q < (s + n + 1) * (m * q * 2)
    numbers s n d p q m some h =
        let l : 2 * d * p + q + 1 ≤ 2 * (n + 1) * q = omega arith in
        let k : (2 * d * p + q + 1) * m ≤ 2 * (n + 1) * q * m = mul-le-mul_right m l in
        omega arith

    go : (s n d p q m : ℕ) (x t : ℤ) → 0 < m → t ≡ x +ℤ pos d → 2 * d * p + q < 2 * (n + 1) * q
        → ((pos s *ℤ pos (m * q) +ℤ (t +ℤ neg_ℤ x) *ℤ pos (p * m)) *ℤ pos 2 +ℤ pos (m * q)) <ℤ (pos (s + n + 1) *ℤ pos (m * q * 2))
    go s n d p q m x t some e h =
        let f : t +ℤ neg_ℤ x ≡ pos d = omega (arith, ints) in
        rw f (omega (arith, ints, numbers s n d p q m some h))

pub line_floor_or_far : (tpm : ℕ) (r : Coefficient) (t : ℤ) (d n : ℕ) → 0 < r.rate → t ≡ r.time +ℤ pos d → 2 * n * r.rate ≤ 2 * d * tpm + r.rate
    → (2 * d * tpm + r.rate < 2 * (n + 1) * r.rate) ⊎ (10 ^ 19 ≤ n) → IsFloorOrFar (line_tick tpm r (units t) +ᶠ over (pos 1) 2) (r.ticks + n)
line_floor_or_far tpm r t d n some e h k = record {
  at_most = line_floor tpm r t d n some e h;
  next = elim k [ inl l ↦ inl (line_next tpm r t d n some e l) | inr far ↦ inr (more r.ticks n (10 ^ 19) far) ];
}
  where
    more : (s n m : ℕ) → m ≤ n → m ≤ s + n
    more s n m h = omega arith

-- the cap
pub capped_floor_or_far : (s : Coefficient) (x : Fraction) (n : ℕ) → 0 < x.den → s.ticks ≤ 10 ^ 18 → IsFloorOrFar (x +ᶠ over (pos 1) 2) n
    → IsFloorOrFar (capped (Some s) x +ᶠ over (pos 1) 2) (min n s.ticks)
capped_floor_or_far s x n px small f =
    elim (cases_lt s.ticks n) [
      | inl l ↦
          let e : min n s.ticks ≡ s.ticks = omega arith in
          rw e (record {
            at_most = least_cases x cap (λ y. cap ≤ᶠ (y +ᶠ over (pos 1) 2))
                (λ k. le_f_trans cap (whole (pos n)) (x +ᶠ over (pos 1) 2) (lit< tt) (wholes s.ticks n (omega arith)) f.at_most) (λ k. half_more cap);
            next = inl (le_lt_f (least x cap +ᶠ over (pos 1) 2) (cap +ᶠ over (pos 1) 2) (whole (pos (s.ticks + 1)))
                (half_more-den (least x cap) (least-den x cap px (lit< tt))) (add_half (least x cap) cap (least_second x cap)) (below_next s.ticks));
          })
      | inr l ↦
          let e : min n s.ticks ≡ n = omega arith in
          rw e (record {
            at_most = least_cases x cap (λ y. whole (pos n) ≤ᶠ (y +ᶠ over (pos 1) 2)) (λ k. f.at_most)
                (λ k. le_f_trans (whole (pos n)) cap (cap +ᶠ over (pos 1) 2) (lit< tt) (wholes n s.ticks (omega arith)) (half_more cap));
            next = elim f.next [
              | inl k ↦ inl (le_lt_f (least x cap +ᶠ over (pos 1) 2) (x +ᶠ over (pos 1) 2) (whole (pos (n + 1)))
                  (half_more-den (least x cap) (least-den x cap px (lit< tt))) (add_half (least x cap) x (least_first x cap)) k)
              | inr far ↦ inr far
            ];
          })
    ]
  where
    cap : Fraction
    cap = whole (pos s.ticks)

    wholes : (a b : ℕ) → a ≤ b → whole (pos a) ≤ᶠ whole (pos b)
    wholes a b h = record { le = omega (arith, ints) }

    below_next : (k : ℕ) → (whole (pos k) +ᶠ over (pos 1) 2) <ᶠ whole (pos (k + 1))
    below_next k = record { lt = omega (arith, ints) }
