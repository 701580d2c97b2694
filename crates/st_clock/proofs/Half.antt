-- A time within half a tick of a covered tick's time has that tick. All is counted in half ticks.
use Rattle.std.proofs.Common.{◌≡◌, ℕ, zero, suc, ◌+◌, ◌*◌, ◌^◌, ◌<◌, ◌≤◌, ℤ, pos, negsuc, ◌+ℤ◌, ◌-ℤ◌, ◌*ℤ◌, neg_ℤ, ◌≤ℤ◌, ◌<ℤ◌, List, Option, None, Some, slice_get, refl, ap, ◌∙◌, subst, lit<, arith, mul-pos}
use Rattle.std.proofs.lemmas.Int.{ints}
use Rattle.st_fraction.specs.Fraction.{Fraction, IsFraction, ◌≤ᶠ◌, ◌<ᶠ◌, ◌≈ᶠ◌, over, whole, units, ◌+ᶠ◌, ◌-ᶠ◌, ◌*ᶠ◌, IsNear}
use Rattle.st_fraction.specs.Floor.{IsFloor}
use Rattle.st_fraction.proofs.Ring.{ring, lin, one-mul_z, two-mul_z, add-mul_z, le-mul_z, le-mul_nonneg, lt-mul_z}
use Rattle.st_fraction.proofs.Order.{le_f_trans, le_of_same, same_sym, not_both_f, least_cases}
use Rattle.st_fraction.proofs.Scale.{IsAt, at_self, at_more, at_add, at_sub, at_mul, le_at, at_le}
use Rattle.st_fraction.proofs.Within.{Within}
use Rattle.st_fraction.proofs.Linear.{at_factor, whole_at, at_one_scale, near_at}
use Rattle.st_fraction.proofs.Strict.{lt_at, at_lt, le_lt_f, lt_le_f}
use Rattle.st_clock.specs.declared.coefficient.Coefficient.{Coefficient}
use Rattle.st_clock.specs.declared.ticks.Ticks.TheVariants.{At}
use Rattle.st_clock.specs.Clock.{Clock, tpm, AreRising, IsClock, StartsBy, IsTimeOf, line_time}
use Rattle.st_clock.specs.Tick.{line_tick, capped, TickOf}
use Rattle.st_clock.specs.Covered.{IsCovered, tick_length, half_tick}
use Rattle.st_clock.proofs.Faces.{tpm_some, inside_total}
use Rattle.st_clock.proofs.Lasts.{by_place, same_record, next_there, times_in_order}
use Rattle.st_clock.proofs.Falls.{line_tick-den, half_more-den, add_half, half_more}
use Rattle.st_clock.proofs.Rising.{last_is_one, line_time-den}

pub tick_length-den : (tpm : ℕ) (r : Coefficient) → 0 < tpm → 0 < (tick_length tpm r).den
tick_length-den tpm r p = let unit : 0 < 10 ^ 18 = lit< tt in mul-pos unit p

pub half_tick-den : (tpm : ℕ) (r : Coefficient) → 0 < tpm → 0 < (half_tick tpm r).den
half_tick-den tpm r p = let two : 0 < 2 = lit< tt in mul-pos (tick_length-den tpm r p) two

-- R m = y (10^18 tpm 2), where half a tick is y at the scale m
half_is : (tpm : ℕ) (r : Coefficient) (m : ℕ) (y : ℤ) → IsAt m (half_tick tpm r) y → pos (r.rate * m) ≡ y *ℤ pos (10 ^ 18 * tpm * 2)
half_is tpm r m y h = let e : r.rate * 1 * 1 ≡ r.rate = omega arith in rw e at h.at

-- the line's time, in half ticks from the record's
pub line_at : (tpm : ℕ) (r : Coefficient) (k m : ℕ) (x y : ℤ) → IsAt m (units r.time) x → IsAt m (half_tick tpm r) y
    → IsAt m (line_time tpm r k) (x +ℤ pos 2 *ℤ ((pos k -ℤ pos r.ticks) *ℤ y))
line_at tpm r k m x y h g =
    at_add m (units r.time) (units (pos r.rate) *ᶠ over (pos k -ℤ pos r.ticks) tpm) x (pos 2 *ℤ ((pos k -ℤ pos r.ticks) *ℤ y)) h
    (record { at = go (pos r.rate) (pos m) y (pos (10 ^ 18 * tpm)) (pos 2) (pos k -ℤ pos r.ticks) (half_is tpm r m y g) })
  where
    go : (r m y e b d : ℤ) → r *ℤ m ≡ y *ℤ (e *ℤ b) → r *ℤ d *ℤ m ≡ b *ℤ (d *ℤ y) *ℤ e
    go r m y e b d h =
        let u : r *ℤ d *ℤ m ≡ d *ℤ (r *ℤ m) = simp ring in
        let v : b *ℤ (d *ℤ y) *ℤ e ≡ d *ℤ (y *ℤ (e *ℤ b)) = simp ring in
        rw (u, v, h) refl

-- the line's tick and a half, at the scale m R 2
pub tick_at : (tpm : ℕ) (r : Coefficient) (v : Fraction) (m : ℕ) (x w : ℤ) → IsAt m (units r.time) x → IsAt m v w
    → IsAt (m * r.rate * 2) (line_tick tpm r v +ᶠ over (pos 1) 2)
    ((pos r.ticks *ℤ pos (m * r.rate) +ℤ (w +ℤ neg_ℤ x) *ℤ pos (tpm * 10 ^ 18)) *ℤ pos 2 +ℤ pos (m * r.rate))
tick_at tpm r v m x w h g =
    let q = over (pos (tpm * 10 ^ 18)) r.rate in
    let a = at_mul m r.rate (v -ᶠ units r.time) q (w +ℤ neg_ℤ x) (pos (tpm * 10 ^ 18)) (at_sub m v (units r.time) w x g h) (at_self q) in
    let b = at_add (m * r.rate) (whole (pos r.ticks)) ((v -ᶠ units r.time) *ᶠ q) _ _ (whole_at (pos r.ticks) (m * r.rate)) a in
    let d = at_more (m * r.rate) 2 (line_tick tpm r v) _ b in
    let e : 2 * (m * r.rate) ≡ m * r.rate * 2 = omega arith in
    let f : pos 1 *ℤ pos (m * r.rate) ≡ pos (m * r.rate) = omega (arith, ints) in
    let half : IsAt (m * r.rate * 2) (over (pos 1) 2) (pos (m * r.rate)) = rw f at (at_factor (over (pos 1) 2) (m * r.rate) (m * r.rate * 2) e) in
    at_add (m * r.rate * 2) (line_tick tpm r v) (over (pos 1) 2) _ _ d half

-- m R is two half ticks times tpm 10^18
both_halves : (tpm : ℕ) (r : Coefficient) (m : ℕ) (y : ℤ) → IsAt m (half_tick tpm r) y → pos (m * r.rate) ≡ pos 2 *ℤ (y *ℤ pos (tpm * 10 ^ 18))
both_halves tpm r m y h =
    let e = half_is tpm r m y h in
    let a : m * r.rate ≡ r.rate * m = omega arith in
    let b : 10 ^ 18 * tpm * 2 ≡ tpm * 10 ^ 18 * 2 = omega arith in
    rw a (rw b at e ∙ go y (pos (tpm * 10 ^ 18)) (pos 2))
  where
    go : (y p b : ℤ) → y *ℤ (p *ℤ b) ≡ b *ℤ (y *ℤ p)
    go y p b = simp ring

pub line_low : (tpm : ℕ) (r : Coefficient) (k : ℕ) (v : Fraction) → 0 < tpm → 0 < r.rate → 0 < v.den
    → (line_time tpm r k -ᶠ half_tick tpm r) ≤ᶠ v → whole (pos k) ≤ᶠ (line_tick tpm r v +ᶠ over (pos 1) 2)
line_low tpm r k v p q pv h =
    let unit : 0 < 10 ^ 18 = lit< tt in
    let two : 0 < 2 = lit< tt in
    let z = at_one_scale (units r.time) (half_tick tpm r) v v v v v v unit (half_tick-den tpm r p) pv pv pv pv pv pv in
    let l = line_at tpm r k z.m z.xa z.xb z.a_at z.b_at in
    let n = at_le z.m (line_time tpm r k -ᶠ half_tick tpm r) v _ z.xc (mul-pos (line_time-den tpm r k p) (half_tick-den tpm r p)) pv
    (at_sub z.m (line_time tpm r k) (half_tick tpm r) _ z.xb l z.b_at) z.c_at h in
    le_at (z.m * r.rate * 2) (whole (pos k)) (line_tick tpm r v +ᶠ over (pos 1) 2) _ _ (mul-pos (mul-pos z.some q) two)
    (whole_at (pos k) (z.m * r.rate * 2)) (tick_at tpm r v z.m z.xa z.xc z.a_at z.c_at)
    (go (pos k) (pos r.ticks) z.xa z.xb z.xc (pos (tpm * 10 ^ 18)) (pos 2) (pos (z.m * r.rate)) (both_halves tpm r z.m z.xb z.b_at)
    (le-mul_z _ _ 2 (le-mul_z _ _ (tpm * 10 ^ 18) n)))
  where
    go : (k s x y w p b d : ℤ) → d ≡ b *ℤ (y *ℤ p) → ((x +ℤ b *ℤ ((k +ℤ neg_ℤ s) *ℤ y) +ℤ neg_ℤ y) *ℤ p *ℤ b) ≤ℤ (w *ℤ p *ℤ b)
        → (k *ℤ (d *ℤ b)) ≤ℤ ((s *ℤ d +ℤ (w +ℤ neg_ℤ x) *ℤ p) *ℤ b +ℤ d)
    go k s x y w p b d e h = rw e (simp ring (let h2 = simp ring at h in omega (arith, lin)))

pub line_high : (tpm : ℕ) (r : Coefficient) (k : ℕ) (v : Fraction) → 0 < tpm → 0 < r.rate → 0 < v.den
    → v <ᶠ (line_time tpm r k +ᶠ half_tick tpm r) → (line_tick tpm r v +ᶠ over (pos 1) 2) <ᶠ whole (pos k +ℤ pos 1)
line_high tpm r k v p q pv h =
    let unit : 0 < 10 ^ 18 = lit< tt in
    let two : 0 < 2 = lit< tt in
    let one : 0 < 1 = lit< tt in
    let z = at_one_scale (units r.time) (half_tick tpm r) v v v v v v unit (half_tick-den tpm r p) pv pv pv pv pv pv in
    let l = line_at tpm r k z.m z.xa z.xb z.a_at z.b_at in
    let n = at_lt z.m v (line_time tpm r k +ᶠ half_tick tpm r) z.xc _ z.some z.c_at (at_add z.m (line_time tpm r k) (half_tick tpm r) _ z.xb l z.b_at) h in
    let d = z.m * r.rate in
    let twice : pos d *ℤ pos 2 ≡ pos d +ℤ pos d = omega (arith, ints) in
    lt_at (z.m * r.rate * 2) (line_tick tpm r v +ᶠ over (pos 1) 2) (whole (pos k +ℤ pos 1)) _ _
    (half_more-den (line_tick tpm r v) (line_tick-den tpm r v q pv)) one (tick_at tpm r v z.m z.xa z.xc z.a_at z.c_at)
    (whole_at (pos k +ℤ pos 1) (z.m * r.rate * 2))
    (go (pos k) (pos r.ticks) z.xa z.xb z.xc (pos (tpm * 10 ^ 18)) (pos 2) (pos d) (both_halves tpm r z.m z.xb z.b_at) twice
    (lt-mul_z _ _ 2 two (lt-mul_z _ _ (tpm * 10 ^ 18) (mul-pos p unit) n)))
  where
    go : (k s x y w p b d : ℤ) → d ≡ b *ℤ (y *ℤ p) → d *ℤ b ≡ d +ℤ d → (w *ℤ p *ℤ b) <ℤ ((x +ℤ b *ℤ ((k +ℤ neg_ℤ s) *ℤ y) +ℤ y) *ℤ p *ℤ b)
        → ((s *ℤ d +ℤ (w +ℤ neg_ℤ x) *ℤ p) *ℤ b +ℤ d) <ℤ ((k +ℤ pos 1) *ℤ (d *ℤ b))
    go k s x y w p b d e t h =
        let t2 : b *ℤ (y *ℤ p) *ℤ b ≡ b *ℤ (y *ℤ p) +ℤ b *ℤ (y *ℤ p) = rw e at t in
        let t3 = simp ring at t2 in
        let u = one-mul_z ((b *ℤ (y *ℤ p)) *ℤ b) in
        let u2 = simp ring at u in
        rw e (simp ring (let h2 = simp ring at h in omega (arith, lin)))

-- half a tick is above zero, at any scale
half_above : (tpm : ℕ) (r : Coefficient) (m : ℕ) (y : ℤ) → 0 < tpm → 0 < r.rate → 0 < m → IsAt m (half_tick tpm r) y → pos 0 <ℤ y
half_above tpm r m y p q some h =
    let e = half_is tpm r m y h in
    let a = mul-pos q some in
    go (r.rate * m) (10 ^ 18 * tpm * 2) y a e
  where
    go : (n d : ℕ) (y : ℤ) → 0 < n → pos n ≡ y *ℤ pos d → pos 0 <ℤ y
    go n d (pos y) s e = positive n d y s (omega (arith, ints, e))
      where
        positive : (n d y : ℕ) → 0 < n → n ≡ y * d → pos 0 <ℤ pos y
        positive n d zero s e = absurd (omega (arith, e))
        positive n d (suc y) s e = omega (arith, ints)
    go n d (negsuc y) s e = absurd (omega (arith, ints, e))

-- a number of ticks that is one or more, in half ticks
one_or_more : (k s : ℕ) (y : ℤ) → s + 1 ≤ k → pos 0 <ℤ y → y ≤ℤ ((pos k -ℤ pos s) *ℤ y)
one_or_more k s y l h =
    let m = le-mul_nonneg (pos 1) (pos k -ℤ pos s) y (omega (arith, ints)) (omega (arith, lin)) in
    let e = one-mul_z y in
    omega (arith, lin, m, e)

-- the record has begun
begins : (tpm : ℕ) (r : Coefficient) (k : ℕ) (v : Fraction) → 0 < tpm → 0 < r.rate → 0 < v.den → r.ticks + 1 ≤ k
    → (line_time tpm r k -ᶠ half_tick tpm r) ≤ᶠ v → units r.time ≤ᶠ v
begins tpm r k v p q pv after h =
    let unit : 0 < 10 ^ 18 = lit< tt in
    let z = at_one_scale (units r.time) (half_tick tpm r) v v v v v v unit (half_tick-den tpm r p) pv pv pv pv pv pv in
    let l = line_at tpm r k z.m z.xa z.xb z.a_at z.b_at in
    let n = at_le z.m (line_time tpm r k -ᶠ half_tick tpm r) v _ z.xc (mul-pos (line_time-den tpm r k p) (half_tick-den tpm r p)) pv
    (at_sub z.m (line_time tpm r k) (half_tick tpm r) _ z.xb l z.b_at) z.c_at h in
    let some = half_above tpm r z.m z.xb p q z.some z.b_at in
    le_at z.m (units r.time) v z.xa z.xc z.some z.a_at z.c_at
    (go z.xa ((pos k -ℤ pos r.ticks) *ℤ z.xb) z.xb z.xc (one_or_more k r.ticks z.xb after some) some n)
  where
    go : (x d y w : ℤ) → y ≤ℤ d → pos 0 <ℤ y → (x +ℤ pos 2 *ℤ d +ℤ neg_ℤ y) ≤ℤ w → x ≤ℤ w
    go x d y w a b h = let e = two-mul_z d in omega (arith, lin)

-- less than half a tick after the tick's time is before the next tick's
below_next_tick : (tpm : ℕ) (r : Coefficient) (k : ℕ) (v : Fraction) → 0 < tpm → 0 < r.rate → 0 < v.den
    → v <ᶠ (line_time tpm r k +ᶠ half_tick tpm r) → v <ᶠ line_time tpm r (k + 1)
below_next_tick tpm r k v p q pv h =
    let unit : 0 < 10 ^ 18 = lit< tt in
    let z = at_one_scale (units r.time) (half_tick tpm r) v v v v v v unit (half_tick-den tpm r p) pv pv pv pv pv pv in
    let l = line_at tpm r k z.m z.xa z.xb z.a_at z.b_at in
    let g = line_at tpm r (k + 1) z.m z.xa z.xb z.a_at z.b_at in
    let n = at_lt z.m v (line_time tpm r k +ᶠ half_tick tpm r) z.xc _ z.some z.c_at (at_add z.m (line_time tpm r k) (half_tick tpm r) _ z.xb l z.b_at) h in
    let some = half_above tpm r z.m z.xb p q z.some z.b_at in
    lt_at z.m v (line_time tpm r (k + 1)) z.xc _ pv (line_time-den tpm r (k + 1) p) z.c_at g
    (go k r.ticks z.xa z.xb z.xc some n)
  where
    go : (k s : ℕ) (x y w : ℤ) → pos 0 <ℤ y → w <ℤ (x +ℤ pos 2 *ℤ ((pos k -ℤ pos s) *ℤ y) +ℤ y) → w <ℤ (x +ℤ pos 2 *ℤ ((pos (k + 1) -ℤ pos s) *ℤ y))
    go k s x y w some h =
        let a = two-mul_z ((pos k -ℤ pos s) *ℤ y) in
        let b = two-mul_z ((pos (k + 1) -ℤ pos s) *ℤ y) in
        let e : pos (k + 1) -ℤ pos s ≡ (pos k -ℤ pos s) +ℤ pos 1 = omega (arith, ints) in
        let f : (pos (k + 1) -ℤ pos s) *ℤ y ≡ (pos k -ℤ pos s) *ℤ y +ℤ y = rw (e, add-mul_z (pos k -ℤ pos s) (pos 1) y) (ap (λ z. (pos k -ℤ pos s) *ℤ y +ℤ z) (one-mul_z y)) in
        omega (arith, lin, a, b, f)

-- so no later record has begun
not_later : (records : List Coefficient) (tpm : ℕ) (r : Coefficient) (k i j : ℕ) (s : Coefficient) (v : Fraction) → AreRising records → 0 < v.den
    → ((t : Coefficient) → slice_get records (i + 1) ≡ Some t → line_time tpm r (k + 1) ≤ᶠ units t.time) → v <ᶠ line_time tpm r (k + 1)
    → i < j → slice_get records j ≡ Some s → v <ᶠ units s.time
not_later records tpm r k i j s v rising pv before h l there =
    let t = next_there records i j s l there in
    let unit : 0 < 10 ^ 18 = lit< tt in
    let a = lt_le_f v (line_time tpm r (k + 1)) (units t.0.time) unit h (before t.0 t.1) in
    by_place (i + 1) j
    (λ m.
    let u = times_in_order records (i + 1) j t.0 s rising m t.1 there in
    lt_le_f v (units t.0.time) (units s.time) unit a (ordered t.0.time s.time u))
    (λ e. subst (λ (x : Coefficient). v <ᶠ units x.time) (same_record records j t.0 s (subst (λ n. slice_get records n ≡ Some t.0) e t.1) there) a)
    (λ m. absurd (omega arith))
  where
    ordered : (a b : ℤ) → a <ℤ b → units a ≤ᶠ units b
    ordered a b h = record { le = le-mul_z a b (10 ^ 18) (omega (arith, lin)) }

-- the cap isn't met
capped_floor : (o : Option Coefficient) (x : Fraction) (k : ℕ) → 0 < x.den → ((s : Coefficient) → o ≡ Some s → k + 1 ≤ s.ticks)
    → IsFloor (x +ᶠ over (pos 1) 2) (pos k) → IsFloor (capped o x +ᶠ over (pos 1) 2) (pos k)
capped_floor None x k px next f = f
capped_floor (Some s) x k px next f =
    let cap = whole (pos s.ticks) in
    least_cases x cap (λ y. IsFloor (y +ᶠ over (pos 1) 2) (pos k)) (λ l. f) (λ l. record {
      at_most = le_f_trans (whole (pos k)) cap (cap +ᶠ over (pos 1) 2) (lit< tt) (wholes k s.ticks (next s refl)) (half_more cap);
      below_next = le_lt_f (cap +ᶠ over (pos 1) 2) (x +ᶠ over (pos 1) 2) (whole (pos k +ℤ pos 1)) (lit< tt) (add_half cap x l) f.below_next;
    })
  where
    wholes : (a b : ℕ) → a + 1 ≤ b → whole (pos a) ≤ᶠ whole (pos b)
    wholes a b h = record { le = omega (arith, ints) }

pub tick_within_half : (c : Clock) (k i : ℕ) (r : Coefficient) (v : Fraction) → IsClock c → IsFraction v → IsCovered c k i r
    → (line_time (tpm c) r k -ᶠ half_tick (tpm c) r) ≤ᶠ v → v <ᶠ (line_time (tpm c) r k +ᶠ half_tick (tpm c) r) → TickOf c v (At k)
tick_within_half c k i r v is pv cov low high =
    let p = tpm_some c is in
    let q = is.rates i r cov.last.here in
    let x = line_tick (tpm c) r v in
    let o = slice_get c.records (i + 1) in
    let next = below_next_tick (tpm c) r k v p q pv.positive high in
    let floor : IsFloor (x +ᶠ over (pos 1) 2) (pos k) =
    record { at_most = line_low (tpm c) r k v p q pv.positive low; below_next = line_high (tpm c) r k v p q pv.positive high } in (
      record {
        place = i;
        by = r;
        last = record {
          here = cov.last.here;
          holds = begins (tpm c) r k v p q pv.positive cov.after_start low;
          none_later = λ j s l g b.
              not_both_f (units s.time) v b
              (not_later c.records (tpm c) r k i j s v is.rising pv.positive (λ t e. (cov.before_next t e).1) next l g);
        };
        rounded = capped_floor o x k (line_tick-den (tpm c) r v q pv.positive) (λ s e. (cov.before_next s e).0) floor;
      },
      inside_total c k is cov.inside,
    )

-- the time of a covered tick is that on its record's line
pub covered_time : (c : Clock) (k i : ℕ) (r : Coefficient) (u : Fraction) → IsCovered c k i r → IsTimeOf c k u → u ≈ᶠ line_time (tpm c) r k
covered_time c k i r u cov t =
    let e = last_is_one (StartsBy k) c.records t.place i t.by r t.last cov.last in
    subst (λ (s : Coefficient). u ≈ᶠ line_time (tpm c) s k) e t.value

-- half a tick is two quarters
quarters : (tpm : ℕ) (r : Coefficient) (m : ℕ) (y : ℤ) → IsAt m (tick_length tpm r *ᶠ over (pos 1) 4) y → IsAt m (half_tick tpm r) (pos 2 *ℤ y)
quarters tpm r m y h = record { at = go (pos (r.rate * 1 * 1)) (pos m) y (pos (10 ^ 18 * tpm)) (pos 2) (pos 4) refl h.at }
  where
    go : (n m y d b f : ℤ) → f ≡ b *ℤ b → n *ℤ m ≡ y *ℤ (d *ℤ f) → n *ℤ m ≡ b *ℤ y *ℤ (d *ℤ b)
    go n m y d b f e h = let u : b *ℤ y *ℤ (d *ℤ b) ≡ y *ℤ (d *ℤ (b *ℤ b)) = simp ring in rw u (rw e at h)

pub tick_within_quarter : (c : Clock) (k i : ℕ) (r : Coefficient) (u v : Fraction) → IsClock c → IsFraction u → IsFraction v → IsCovered c k i r
    → IsTimeOf c k u → IsNear v u (tick_length (tpm c) r *ᶠ over (pos 1) 4) → TickOf c v (At k)
tick_within_quarter c k i r u v is pu pv cov t near =
    let p = tpm_some c is in
    let q = is.rates i r cov.last.here in
    let four : 0 < 4 = lit< tt in
    let l = line_time (tpm c) r k in
    let e = tick_length (tpm c) r *ᶠ over (pos 1) 4 in
    let half = half_tick (tpm c) r in
    let pe = mul-pos (tick_length-den (tpm c) r p) four in
    let pl = line_time-den (tpm c) r k p in
    let ph = half_tick-den (tpm c) r p in
    let z = at_one_scale l e u v v v v v pl pe pu.positive pv.positive pv.positive pv.positive pv.positive pv.positive in
    let same = covered_time c k i r u cov t in
    let g = quarters (tpm c) r z.m z.xb z.b_at in
    let some = half_above (tpm c) r z.m (pos 2 *ℤ z.xb) p q z.some g in
    let a = at_le z.m u l z.xc z.xa pu.positive pl z.c_at z.a_at (le_of_same u l same) in
    let b = at_le z.m l u z.xa z.xc pl pu.positive z.a_at z.c_at (le_of_same l u (same_sym u l same)) in
    let n = near_at z.m v u e z.xd z.xc z.xb pv.positive pu.positive pe z.d_at z.c_at z.b_at near in
    tick_within_half c k i r v is pv cov
    (le_at z.m (l -ᶠ half) v _ z.xd z.some (at_sub z.m l half z.xa (pos 2 *ℤ z.xb) z.a_at g) z.d_at (low z.xa z.xb z.xc z.xd some b n))
    (lt_at z.m v (l +ᶠ half) z.xd _ pv.positive (mul-pos pl ph) z.d_at (at_add z.m l half z.xa (pos 2 *ℤ z.xb) z.a_at g) (high z.xa z.xb z.xc z.xd some a n))
  where
    low : (x y u v : ℤ) → pos 0 <ℤ (pos 2 *ℤ y) → x ≤ℤ u → Within (v -ℤ u) y → (x +ℤ neg_ℤ (pos 2 *ℤ y)) ≤ℤ v
    low x y u v s h w = let e = two-mul_z y in omega (arith, lin)

    high : (x y u v : ℤ) → pos 0 <ℤ (pos 2 *ℤ y) → u ≤ℤ x → Within (v -ℤ u) y → v <ℤ (x +ℤ pos 2 *ℤ y)
    high x y u v s h w = let e = two-mul_z y in omega (arith, lin)
