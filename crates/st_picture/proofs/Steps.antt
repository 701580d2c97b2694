-- Seconds of a day cut down to a multiple of a step.
use Rattle.std.proofs.Common.{◌≡◌, ℕ, ◌*◌, ◌^◌, ◌<◌, Bool, true, false, cond, refl, arith, mul-pos, lit<, ℤ, pos, neg_ℤ, ◌+ℤ◌, ◌*ℤ◌, ◌≤ℤ◌, ◌<ℤ◌, int_le}
use Rattle.std.proofs.lemmas.Int.{ints}
use Rattle.st_fraction.specs.Fraction.{Fraction, ◌≤ᶠ◌, ◌<ᶠ◌, over, units, ◌+ᶠ◌, ◌-ᶠ◌}
use Rattle.st_fraction.proofs.Ring.{ring, lin, numerals, le-mul_z, lt_cancel_z}
use Rattle.st_fraction.proofs.Order.{le_f_trans}
use Rattle.st_fraction.proofs.Strict.{le_lt_f, at_lt, lt_at}
use Rattle.st_fraction.proofs.Floors.{floor_found}
use Rattle.st_fraction.proofs.Scale.{IsAt, at_self, at_more, at_add, at_sub, at_le, le_at}
use Rattle.st_fraction.proofs.Linear.{at_factor}
use Rattle.st_picture.specs.Cell.{IsTruncated, capped}

-- of two multiples, of which the one lies before the next of the other
multiples_rise : (y z a b : ℤ) (k : ℕ) → y ≡ a *ℤ pos k → z ≡ b *ℤ pos k → y <ℤ (z +ℤ pos k) → y ≤ℤ z
multiples_rise y z a b k e f h =
    let next : (b +ℤ pos 1) *ℤ pos k ≡ b *ℤ pos k +ℤ pos k = grow b (pos k) in
    let l = lt_cancel_z a (b +ℤ pos 1) k (omega (arith, lin, next, e, f, h)) in
    let m = le-mul_z a b k (below a b l) in
    omega (arith, lin, m, e, f)
  where
    grow : (b k : ℤ) → (b +ℤ pos 1) *ℤ k ≡ b *ℤ k +ℤ k
    grow b k = simp (numerals, ring) (omega (arith, lin))

    below : (a b : ℤ) → a <ℤ (b +ℤ pos 1) → a ≤ℤ b
    below a b h = omega (arith, ints)

pub truncated_rises : (step : ℕ) (s t : Fraction) (y z : ℤ) → 0 < s.den → 0 < t.den → s ≤ᶠ t → IsTruncated step s y → IsTruncated step t z → y ≤ℤ z
truncated_rises step s t y z ps pt le h k =
    let past = le_lt_f (units y) t (units (z +ℤ pos step)) (lit< tt) (le_f_trans (units y) s t ps h.from le) k.to in
    multiples_rise y z h.times k.times step h.multiple k.multiple (lt_cancel_z y (z +ℤ pos step) (10 ^ 18) past.lt)

pub truncated_found : (step : ℕ) (s : Fraction) → 0 < step → 0 < s.den → (z : ℤ) × IsTruncated step s z
truncated_found step s some ps =
    let f = floor_found (over (s.num *ℤ pos (10 ^ 18)) (s.den * step)) (mul-pos ps some) in
    let q = f.0 in (
      q *ℤ pos step,
      record {
        times = q;
        multiple = refl;
        from = record { le = from q (pos step) (pos s.den) s.num (pos (10 ^ 18)) f.1.at_most.le };
        to = record { lt = to q (pos step) (pos s.den) s.num (pos (10 ^ 18)) f.1.below_next.lt };
      },
    )
  where
    from : (q k d n u : ℤ) → (q *ℤ (d *ℤ k)) ≤ℤ (n *ℤ u *ℤ pos 1) → (q *ℤ k *ℤ d) ≤ℤ (n *ℤ u)
    from q k d n u h =
        let a : q *ℤ (d *ℤ k) ≡ q *ℤ k *ℤ d = simp ring in
        let b : n *ℤ u *ℤ pos 1 ≡ n *ℤ u = simp numerals in
        omega (arith, lin, a, b, h)

    to : (q k d n u : ℤ) → (n *ℤ u *ℤ pos 1) <ℤ ((q +ℤ pos 1) *ℤ (d *ℤ k)) → (n *ℤ u) <ℤ ((q *ℤ k +ℤ k) *ℤ d)
    to q k d n u h =
        let a : (q +ℤ pos 1) *ℤ (d *ℤ k) ≡ (q *ℤ k +ℤ k) *ℤ d = simp (numerals, ring) in
        let b : n *ℤ u *ℤ pos 1 ≡ n *ℤ u = simp numerals in
        omega (arith, lin, a, b, h)

-- a second of whole units, and a part of a unit beyond it
pub record HasPart (sec v : Fraction) (n s : ℤ) (u : ℕ) : Type 0 where
  pub sec_some : 0 < sec.den
  pub v_some : 0 < v.den
  pub sec_at : IsAt u sec s
  pub from : over n u ≤ᶠ v
  pub to : v <ᶠ over (n +ℤ pos 1) u

part_from : (sec v : Fraction) (n s z : ℤ) (u : ℕ) → 0 < u → HasPart sec v n s u → over z u ≤ᶠ sec → over z u ≤ᶠ (sec +ᶠ (v -ᶠ over n u))
part_from sec v n s z u some p h =
    let d = v.den in
    let m = u * d in
    let m_some : 0 < m = mul-pos some p.v_some in
    let hv : IsAt m v (v.num *ℤ pos u) = at_factor v u m (omega arith) in
    let hn = at_more u d (over n u) n (at_self (over n u)) in
    let hz = at_more u d (over z u) z (at_self (over z u)) in
    let hs = at_more u d sec s p.sec_at in
    let a = at_le m (over z u) sec (z *ℤ pos d) (s *ℤ pos d) some p.sec_some hz hs h in
    let b = at_le m (over n u) v (n *ℤ pos d) (v.num *ℤ pos u) some p.v_some hn hv p.from in
    le_at m (over z u) (sec +ᶠ (v -ᶠ over n u)) (z *ℤ pos d) (s *ℤ pos d +ℤ (v.num *ℤ pos u +ℤ neg_ℤ (n *ℤ pos d))) m_some hz
    (at_add m sec (v -ᶠ over n u) (s *ℤ pos d) (v.num *ℤ pos u +ℤ neg_ℤ (n *ℤ pos d)) hs
    (at_sub m v (over n u) (v.num *ℤ pos u) (n *ℤ pos d) hv hn)) (omega (arith, lin))

part_to : (sec v : Fraction) (n s z : ℤ) (u : ℕ) → 0 < u → HasPart sec v n s u → sec <ᶠ over z u → (sec +ᶠ (v -ᶠ over n u)) <ᶠ over z u
part_to sec v n s z u some p h =
    let d = v.den in
    let m = u * d in
    let m_some : 0 < m = mul-pos some p.v_some in
    let hv : IsAt m v (v.num *ℤ pos u) = at_factor v u m (omega arith) in
    let hn = at_more u d (over n u) n (at_self (over n u)) in
    let hm = at_more u d (over (n +ℤ pos 1) u) (n +ℤ pos 1) (at_self (over (n +ℤ pos 1) u)) in
    let hz = at_more u d (over z u) z (at_self (over z u)) in
    let hs = at_more u d sec s p.sec_at in
    let before = at_lt u sec (over z u) s z some p.sec_at (at_self (over z u)) h in
    let a = le-mul_z (s +ℤ pos 1) z d (next s z before) in
    let b = at_lt m v (over (n +ℤ pos 1) u) (v.num *ℤ pos u) ((n +ℤ pos 1) *ℤ pos d) m_some hv hm p.to in
    let den : 0 < sec.den * (d * u) = mul-pos p.sec_some (mul-pos p.v_some some) in
    let e = grow s (pos d) in
    let f = grow n (pos d) in
    lt_at m (sec +ᶠ (v -ᶠ over n u)) (over z u) (s *ℤ pos d +ℤ (v.num *ℤ pos u +ℤ neg_ℤ (n *ℤ pos d))) (z *ℤ pos d) den some
    (at_add m sec (v -ᶠ over n u) (s *ℤ pos d) (v.num *ℤ pos u +ℤ neg_ℤ (n *ℤ pos d)) hs
    (at_sub m v (over n u) (v.num *ℤ pos u) (n *ℤ pos d) hv hn)) hz (omega (arith, lin, a, b, e, f))
  where
    next : (s z : ℤ) → s <ℤ z → (s +ℤ pos 1) ≤ℤ z
    next s z h = omega (arith, ints)

    grow : (b k : ℤ) → (b +ℤ pos 1) *ℤ k ≡ b *ℤ k +ℤ k
    grow b k = simp (numerals, ring) (omega (arith, lin))

pub truncated_on : (step : ℕ) (sec v : Fraction) (n s z : ℤ) → HasPart sec v n s (10 ^ 18) → IsTruncated step sec z → IsTruncated step (sec +ᶠ (v -ᶠ units n)) z
truncated_on step sec v n s z p t = record {
  times = t.times;
  multiple = t.multiple;
  from = part_from sec v n s z (10 ^ 18) (lit< tt) p t.from;
  to = part_to sec v n s (z +ℤ pos step) (10 ^ 18) (lit< tt) p t.to;
}

pub capped_rises : (cap y z : ℤ) → y ≤ℤ z → capped cap y ≤ℤ capped cap z
capped_rises cap y z le = go (int_le y cap) (int_le z cap) refl refl
  where
    go : (b c : Bool) → int_le y cap ≡ b → int_le z cap ≡ c → cond b y cap ≤ℤ cond c z cap
    go true true e f = le
    go true false e f = omega (arith, ints)
    go false true e f = omega (arith, ints)
    go false false e f = omega (arith, ints)
