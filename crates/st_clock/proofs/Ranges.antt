-- The time of a tick in units and parts of a unit, and whether it is in the range.
use Rattle.std.proofs.Common.{◌≡◌, ℕ, ◌+◌, ◌-◌, ◌*◌, ◌/◌, ◌%◌, ◌^◌, ◌<◌, ◌≤◌, ℤ, pos, ◌+ℤ◌, ◌-ℤ◌, ◌*ℤ◌, ◌≤ℤ◌, ◌<ℤ◌, int_lt, true, false, inl, inr, lit<, refl, sym, arith, mul-pos, mul-le-mul_right, mul-le-mul_left}
use Rattle.std.proofs.Math.Nat.{div-mul-le_self, lt-div-mul-add}
use Rattle.std.proofs.lemmas.Bool.{cases_Bool}
use Rattle.std.proofs.lemmas.Int.{ints, by_lt_z}
use Rattle.st_fraction.specs.Fraction.{Fraction, ◌≤ᶠ◌, ◌<ᶠ◌, ◌≈ᶠ◌, over, units, ◌+ᶠ◌, ◌*ᶠ◌}
use Rattle.st_fraction.proofs.Ring.{lin, add-mul_z, one-mul_z, le-mul_z, lt-mul_z, le_cancel_z}
use Rattle.st_fraction.proofs.Scale.{IsAt, at_self, at_add, at_mul, le_at, at_le, same_at}
use Rattle.st_fraction.proofs.Linear.{at_factor}
use Rattle.st_fraction.proofs.Strict.{lt_at}
use Rattle.st_clock.specs.declared.coefficient.Coefficient.{Coefficient}
use Rattle.st_clock.specs.Clock.{line_time}
use Rattle.st_clock.proofs.Rising.{line_time-den}

-- u units and a d-th parts of a unit
abbrev pub parted : ℤ → ℕ → ℕ → Fraction
parted u a d = units u +ᶠ over (pos a) (10 ^ 18 * d)

pub units_at : (u : ℤ) (d : ℕ) → IsAt (10 ^ 18 * d) (units u) (u *ℤ pos d)
units_at u d = at_factor (units u) d (10 ^ 18 * d) refl

pub parted_at : (u : ℤ) (a d : ℕ) → IsAt (10 ^ 18 * d) (parted u a d) (u *ℤ pos d +ℤ pos a)
parted_at u a d = at_add (10 ^ 18 * d) (units u) (over (pos a) (10 ^ 18 * d)) (u *ℤ pos d) (pos a) (units_at u d) (at_self (over (pos a) (10 ^ 18 * d)))

scale_some : (d : ℕ) → 0 < d → 0 < 10 ^ 18 * d
scale_some d p = let unit : 0 < 10 ^ 18 = lit< tt in mul-pos unit p

pub parted-den : (u : ℤ) (a d : ℕ) → 0 < d → 0 < (parted u a d).den
parted-den u a d p = let unit : 0 < 10 ^ 18 = lit< tt in mul-pos unit (scale_some d p)

pub from_low : (lo u : ℤ) (a d : ℕ) → 0 < d → lo ≤ℤ u → units lo ≤ᶠ parted u a d
from_low lo u a d p h =
    let m = le-mul_z lo u d h in
    le_at (10 ^ 18 * d) (units lo) (parted u a d) (lo *ℤ pos d) (u *ℤ pos d +ℤ pos a) (scale_some d p) (units_at lo d) (parted_at u a d)
    (more (lo *ℤ pos d) (u *ℤ pos d) a m)
  where
    more : (x y : ℤ) (a : ℕ) → x ≤ℤ y → x ≤ℤ (y +ℤ pos a)
    more x y a h = omega (arith, ints)

pub low_from : (lo u : ℤ) (a d : ℕ) → a < d → units lo ≤ᶠ parted u a d → lo ≤ℤ u
low_from lo u a d l h =
    let p : 0 < d = omega arith in
    let k = at_le (10 ^ 18 * d) (units lo) (parted u a d) (lo *ℤ pos d) (u *ℤ pos d +ℤ pos a) (lit< tt) (parted-den u a d p) (units_at lo d) (parted_at u a d) h in
    go lo u a d l k
  where
    go : (lo u : ℤ) (a d : ℕ) → a < d → (lo *ℤ pos d) ≤ℤ (u *ℤ pos d +ℤ pos a) → lo ≤ℤ u
    go lo u a d l k = by_lt_z u lo (λ (s : u <ℤ lo).
        let m = le-mul_z (u +ℤ pos 1) lo d (omega (arith, ints, s)) in
        let e = add-mul_z u (pos 1) (pos d) in
        let f = one-mul_z (pos d) in
        absurd (never (u *ℤ pos d) (lo *ℤ pos d) a d l k (rw (e, f) at m)))
        (λ (s : lo ≤ℤ u). s)
      where
        never : (x y : ℤ) (a d : ℕ) → a < d → y ≤ℤ (x +ℤ pos a) → (x +ℤ pos d) ≤ℤ y → ⊥
        never x y a d l h k = omega (arith, ints)

pub to_high : (u hi : ℤ) (a d : ℕ) → a < d → u <ℤ hi → parted u a d ≤ᶠ units hi
to_high u hi a d l h =
    let p : 0 < d = omega arith in
    let m = le-mul_z (u +ℤ pos 1) hi d (omega (arith, ints, h)) in
    let e = add-mul_z u (pos 1) (pos d) in
    let f = one-mul_z (pos d) in
    le_at (10 ^ 18 * d) (parted u a d) (units hi) (u *ℤ pos d +ℤ pos a) (hi *ℤ pos d) (scale_some d p) (parted_at u a d) (units_at hi d)
    (less (u *ℤ pos d) (hi *ℤ pos d) a d l (rw (e, f) at m))
  where
    less : (x y : ℤ) (a d : ℕ) → a < d → (x +ℤ pos d) ≤ℤ y → (x +ℤ pos a) ≤ℤ y
    less x y a d l h = omega (arith, ints)

pub at_high : (u : ℤ) (d : ℕ) → 0 < d → parted u 0 d ≤ᶠ units u
at_high u d p =
    le_at (10 ^ 18 * d) (parted u 0 d) (units u) (u *ℤ pos d +ℤ pos 0) (u *ℤ pos d) (scale_some d p) (parted_at u 0 d) (units_at u d) (same (u *ℤ pos d))
  where
    same : (x : ℤ) → (x +ℤ pos 0) ≤ℤ x
    same x = omega (arith, ints)

-- what is at most the end is before it, or is the end itself with no part of a unit
pub high_from : (u hi : ℤ) (a d : ℕ) → a < d → parted u a d ≤ᶠ units hi → hi ≤ℤ u → (u ≡ hi) × (a ≡ 0)
high_from u hi a d l h k =
    let p : 0 < d = omega arith in
    let m = at_le (10 ^ 18 * d) (parted u a d) (units hi) (u *ℤ pos d +ℤ pos a) (hi *ℤ pos d) (parted-den u a d p) (lit< tt) (parted_at u a d) (units_at hi d) h in
    let n = le-mul_z hi u d k in
    let low : u ≤ℤ hi = le_cancel_z u hi d p (first (u *ℤ pos d) (hi *ℤ pos d) a m) in
    (omega (arith, lin, low, k), none (u *ℤ pos d) (hi *ℤ pos d) a m n)
  where
    first : (x y : ℤ) (a : ℕ) → (x +ℤ pos a) ≤ℤ y → x ≤ℤ y
    first x y a h = omega (arith, ints)

    none : (x y : ℤ) (a : ℕ) → (x +ℤ pos a) ≤ℤ y → y ≤ℤ x → a ≡ 0
    none x y a h k = omega (arith, ints)

-- the line's time at the scale of its parts
pub line_time_at : (tpm : ℕ) (r : Coefficient) (k : ℕ) → IsAt (10 ^ 18 * tpm) (line_time tpm r k) (r.time *ℤ pos tpm +ℤ pos r.rate *ℤ (pos k -ℤ pos r.ticks))
line_time_at tpm r k =
    at_add (10 ^ 18 * tpm) (units r.time) (units (pos r.rate) *ᶠ over (pos k -ℤ pos r.ticks) tpm) _ _ (units_at r.time tpm)
    (at_mul (10 ^ 18) tpm (units (pos r.rate)) (over (pos k -ℤ pos r.ticks) tpm) (pos r.rate) (pos k -ℤ pos r.ticks) (at_self (units (pos r.rate)))
    (at_self (over (pos k -ℤ pos r.ticks) tpm)))

-- R (k - S) / tpm, with the whole counts of the first field taken out
split_parts : (n d r : ℕ) → 0 < d → (n / d * r + n % d * r / d) * d + n % d * r % d ≡ r * n
split_parts n d r p =
    go n d r (n / d) (n % d) (n % d * r / d) (n % d * r % d) (omega arith) (omega arith)
  where
    go : (n d r q m e f : ℕ) → n ≡ q * d + m → m * r ≡ e * d + f → (q * r + e) * d + f ≡ r * n
    go n d r q m e f h k = rw h (omega (arith, k))

pub parts_are_time : (tpm : ℕ) (r : Coefficient) (k : ℕ) (u : ℤ) (a : ℕ) → 0 < tpm → r.ticks ≤ k
    → u ≡ r.time +ℤ pos ((k - r.ticks) / tpm * r.rate + (k - r.ticks) % tpm * r.rate / tpm) → a ≡ (k - r.ticks) % tpm * r.rate % tpm
    → parted u a tpm ≈ᶠ line_time tpm r k
parts_are_time tpm r k u a p l e f =
    let n = k - r.ticks in
    let w = n / tpm * r.rate + n % tpm * r.rate / tpm in
    same_at (10 ^ 18 * tpm) (parted u a tpm) (line_time tpm r k) (u *ℤ pos tpm +ℤ pos a) (scale_some tpm p) (parted_at u a tpm)
    (rw (go r.time u w a tpm r.rate k r.ticks l e (rw (sym f) at (split_parts n tpm r.rate p))) (line_time_at tpm r k))
  where
    go : (t u : ℤ) (w a d r k s : ℕ) → s ≤ k → u ≡ t +ℤ pos w → w * d + a ≡ r * (k - s) → u *ℤ pos d +ℤ pos a ≡ t *ℤ pos d +ℤ pos r *ℤ (pos k -ℤ pos s)
    go t u w a d r k s l e h =
        let f : pos k -ℤ pos s ≡ pos (k - s) = omega (arith, ints) in
        let g = add-mul_z t (pos w) (pos d) in
        rw (e, f, g) (sum (t *ℤ pos d) (w * d) a (r * (k - s)) h)
      where
        sum : (x : ℤ) (p a q : ℕ) → p + a ≡ q → x +ℤ pos p +ℤ pos a ≡ x +ℤ pos q
        sum x p a q h = omega (arith, ints)

-- a tick whose counts are too many is after every time u with u < T + far
pub far_behind : (tpm : ℕ) (r : Coefficient) (k far : ℕ) (u : ℤ) → 0 < tpm → 0 < r.rate → r.ticks ≤ k → far / r.rate < (k - r.ticks) / tpm → u <ℤ (r.time +ℤ pos far)
    → units u <ᶠ line_time tpm r k
far_behind tpm r k far u p q l h b =
    let unit : 0 < 10 ^ 18 = lit< tt in
    lt_at (10 ^ 18 * tpm) (units u) (line_time tpm r k) (u *ℤ pos tpm) _ unit (line_time-den tpm r k p) (units_at u tpm) (line_time_at tpm r k)
    (go r.time u far tpm r.rate k r.ticks p q l h b)
  where
    counted : (far d r n : ℕ) → 0 < d → 0 < r → far / r < n / d → far * d ≤ r * n
    counted far d r n p q h =
        let a = lt-div-mul-add {a = far} q in
        let b : n / d * d ≤ n = div-mul-le_self n d in
        chain far d r n (far / r) (n / d) a b h
      where
        chain : (far d r n e c : ℕ) → far < e * r + r → c * d ≤ n → e < c → far * d ≤ r * n
        chain far d r n e c a b h =
            let s : e * r + r ≤ c * r = let k : (e + 1) * r ≤ c * r = mul-le-mul_right r (omega arith) in omega arith in
            let t : far * d ≤ c * r * d = mul-le-mul_right d (omega arith) in
            let u : r * (c * d) ≤ r * n = mul-le-mul_left r b in
            omega arith

    go : (t u : ℤ) (far d r k s : ℕ) → 0 < d → 0 < r → s ≤ k → far / r < (k - s) / d → u <ℤ (t +ℤ pos far)
        → (u *ℤ pos d) <ℤ (t *ℤ pos d +ℤ pos r *ℤ (pos k -ℤ pos s))
    go t u far d r k s p q l h b =
        let f : pos k -ℤ pos s ≡ pos (k - s) = omega (arith, ints) in
        let m = lt-mul_z u (t +ℤ pos far) d p b in
        let g = add-mul_z t (pos far) (pos d) in
        rw f (sum (u *ℤ pos d) (t *ℤ pos d) (far * d) (r * (k - s)) (rw g at m) (counted far d r (k - s) p q h))
      where
        sum : (x y : ℤ) (a b : ℕ) → x <ℤ (y +ℤ pos a) → a ≤ b → x <ℤ (y +ℤ pos b)
        sum x y a b h k = omega (arith, ints)

-- what the last comparison says of a count that is not before the range, and not its end
pub decided : (lo hi u : ℤ) (a d : ℕ) → a < d → lo ≤ℤ u → (u ≡ hi → ⊥)
    → (u <ℤ hi → (units lo ≤ᶠ parted u a d) × (parted u a d ≤ᶠ units hi)) × ((parted u a d ≤ᶠ units hi) → u <ℤ hi)
decided lo hi u a d l h never = (
  λ less. (from_low lo u a d (omega arith) h, to_high u hi a d l less),
  λ k. by_lt_z u hi (λ (s : u <ℤ hi). s) (λ (s : hi ≤ℤ u). absurd (never (high_from u hi a d l k s).0)),
)

pub less_of_test : (x y : ℤ) → int_lt x y ≡ true → x <ℤ y
less_of_test x y e = omega (arith, ints)

pub test_of_less : (x y : ℤ) → x <ℤ y → int_lt x y ≡ true
test_of_less x y l = elim (cases_Bool (int_lt x y)) [ inl e ↦ e | inr e ↦ absurd (fails x y l e) ]
  where
    fails : (x y : ℤ) → x <ℤ y → int_lt x y ≡ false → ⊥
    fails x y l e = omega (arith, ints)

pub at_least_of_test : (x y : ℤ) → int_lt x y ≡ false → y ≤ℤ x
at_least_of_test x y e = omega (arith, ints)
