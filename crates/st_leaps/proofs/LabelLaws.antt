-- Each time has one label, and labels rise with time.
use Rattle.std.proofs.Common.{◌≡◌, ℕ, ◌*◌, ◌^◌, ◌<◌, ◌↔◌, inl, inr, ℤ, pos, neg_ℤ, ◌+ℤ◌, ◌-ℤ◌, ◌*ℤ◌, ◌≤ℤ◌, ◌<ℤ◌, sym, ap, arith, mul-pos, lit<}
use Rattle.std.proofs.lemmas.Int.{ints, by_lt_z}
use Rattle.st_dates.specs.declared.label.Label.{Label}
use Rattle.st_fraction.specs.Fraction.{Fraction, IsFraction, ◌≤ᶠ◌, ◌<ᶠ◌, ◌≈ᶠ◌, over, whole, units, ◌+ᶠ◌, ◌-ᶠ◌}
use Rattle.st_fraction.proofs.Ring.{ring, numerals, lin, le-mul_z}
use Rattle.st_fraction.proofs.Scale.{IsAt, at_self, at_more, at_add, at_sub, at_le, le_at}
use Rattle.st_fraction.proofs.Linear.{at_one_scale, whole_at, at_factor}
use Rattle.st_fraction.proofs.Strict.{at_lt}
use Rattle.st_fraction.proofs.Order.{le_f_refl, same_sym, same_refl, same_trans, same_of_le}
use Rattle.st_fraction.proofs.Floors.{floor_found}
use Rattle.st_leaps.specs.Label.{Stamp, IsLabel, IsLabelOf, AreCounts, AreSameLabel, in_units, value_of, ◌≤ˡ◌}
use Rattle.st_leaps.proofs.Days.{start, start_rises, IsPlaced, placed, unplaced, found_day}

-- a time lies in one day, so labels rise with it
pub rises : (count : ℤ → ℤ) (v w : Fraction) (a b : Stamp) → AreCounts count → IsFraction v → IsFraction w
    → IsLabelOf count v a → IsLabelOf count w b → v ≤ᶠ w → a ≤ˡ b
rises count v w a b c fv fw ha hb le =
    let s = at_one_scale v w a.second b.second v v v v fv.positive fw.positive ha.is_label.second_is.positive hb.is_label.second_is.positive fv.positive fv.positive fv.positive fv.positive in
    let p = placed count v a s.m s.xa s.xc s.some fv s.a_at s.c_at ha in
    let q = placed count w b s.m s.xb s.xd s.some fw s.b_at s.d_at hb in
    let l = at_le s.m v w s.xa s.xb fv.positive fw.positive s.a_at s.b_at le in
    by_lt_z a.day b.day (λ h. inl h) (λ (h : b.day ≤ℤ a.day). by_lt_z b.day a.day
    (λ (k : b.day <ℤ a.day). absurd (later s.m s.xa s.xb s.xc s.xd p q l k))
    (λ (k : a.day ≤ℤ b.day).
    let same : a.day ≡ b.day = omega (arith, ints) in
    inr (same, le_at s.m a.second b.second s.xc s.xd s.some s.c_at s.d_at (on_day s.m s.xa s.xb s.xc s.xd p q l same))))
  where
    later : (m : ℕ) (x y s t : ℤ) → IsPlaced count m a.day x s → IsPlaced count m b.day y t → x ≤ℤ y → b.day <ℤ a.day → ⊥
    later m x y s t p q l k =
        let step = le-mul_z (start count (b.day +ℤ pos 1)) (start count a.day) m (start_rises count b.day a.day c k) in
        let from = p.from in
        let to = q.to in
        omega (arith, lin)

    on_day : (m : ℕ) (x y s t : ℤ) → IsPlaced count m a.day x s → IsPlaced count m b.day y t → x ≤ℤ y → a.day ≡ b.day → s ≤ℤ t
    on_day m x y s t p q l same =
        let starts = ap (λ (d : ℤ). start count d *ℤ pos m) same in
        let ps = p.passed in
        let qs = q.passed in
        omega (arith, lin)

pub rises_back : (count : ℤ → ℤ) (v w : Fraction) (a b : Stamp) → AreCounts count → IsFraction v → IsFraction w
    → IsLabelOf count v a → IsLabelOf count w b → a ≤ˡ b → v ≤ᶠ w
rises_back count v w a b c fv fw ha hb order =
    let s = at_one_scale v w a.second b.second v v v v fv.positive fw.positive ha.is_label.second_is.positive hb.is_label.second_is.positive fv.positive fv.positive fv.positive fv.positive in
    let p = placed count v a s.m s.xa s.xc s.some fv s.a_at s.c_at ha in
    let q = placed count w b s.m s.xb s.xd s.some fw s.b_at s.d_at hb in
    le_at s.m v w s.xa s.xb s.some s.a_at s.b_at (elim order [
      | inl h ↦ earlier s.m s.xa s.xb s.xc s.xd p q h
      | inr h ↦ on_day s.m s.xa s.xb s.xc s.xd p q (at_le s.m a.second b.second s.xc s.xd ha.is_label.second_is.positive hb.is_label.second_is.positive s.c_at s.d_at h.1) h.0
    ])
  where
    earlier : (m : ℕ) (x y s t : ℤ) → IsPlaced count m a.day x s → IsPlaced count m b.day y t → a.day <ℤ b.day → x ≤ℤ y
    earlier m x y s t p q k =
        let step = le-mul_z (start count (a.day +ℤ pos 1)) (start count b.day) m (start_rises count a.day b.day c k) in
        let to = p.to in
        let from = q.from in
        omega (arith, lin)

    on_day : (m : ℕ) (x y s t : ℤ) → IsPlaced count m a.day x s → IsPlaced count m b.day y t → s ≤ℤ t → a.day ≡ b.day → x ≤ℤ y
    on_day m x y s t p q l same =
        let starts = ap (λ (d : ℤ). start count d *ℤ pos m) same in
        let ps = p.passed in
        let qs = q.passed in
        omega (arith, lin)

one_of_two : (a b : Stamp) → a ≤ˡ b → b ≤ˡ a → AreSameLabel a b
one_of_two a b (inl h) (inl k) = absurd (omega (arith, ints))
one_of_two a b (inl h) (inr k) = let e = k.0 in absurd (omega (arith, ints))
one_of_two a b (inr h) (inl k) = let e = h.0 in absurd (omega (arith, ints))
one_of_two a b (inr h) (inr k) = record { day = h.0; second = same_of_le a.second b.second h.1 k.1 }

pub one_label : (count : ℤ → ℤ) (v : Fraction) (a b : Stamp) → AreCounts count → IsFraction v → IsLabelOf count v a → IsLabelOf count v b → AreSameLabel a b
one_label count v a b c f ha hb =
    one_of_two a b (rises count v v a b c f f ha hb (le_f_refl v)) (rises count v v b a c f f hb ha (le_f_refl v))

pub each_has_label : (count : ℤ → ℤ) (v : Fraction) → AreCounts count → IsFraction v → (label : Stamp) × IsLabelOf count v label
each_has_label count v c f =
    let n = floor_found v f.positive in
    let d = found_day count n.0 c in
    let s = start count d.0 in
    let m = v.den in
    let label : Stamp = record { day = d.0; second = v -ᶠ whole s } in
    let least = at_le m (whole n.0) v (n.0 *ℤ pos m) v.num (lit< tt) f.positive (whole_at n.0 m) (at_self v) n.1.at_most in
    let most = at_lt m v (whole (n.0 +ℤ pos 1)) v.num ((n.0 +ℤ pos 1) *ℤ pos m) f.positive (at_self v) (whole_at (n.0 +ℤ pos 1) m) n.1.below_next in
    let from = le-mul_z s n.0 m d.1.from in
    let to = le-mul_z (n.0 +ℤ pos 1) (start count (d.0 +ℤ pos 1)) m (next n.0 (start count (d.0 +ℤ pos 1)) d.1.to) in
    let second_is : 0 < v.den * 1 = let some = f.positive in omega arith in (
      label,
      unplaced count v label m v.num (v.num +ℤ neg_ℤ (s *ℤ pos m)) f.positive f (record { positive = second_is })
          (at_self v) (at_sub m v (whole s) v.num (s *ℤ pos m) (at_self v) (whole_at s m))
          (record { from = omega (arith, lin); to = omega (arith, lin); passed = omega (arith, lin) }),
    )
  where
    next : (n e : ℤ) → n <ℤ e → (n +ℤ pos 1) ≤ℤ e
    next n e h = omega (arith, ints)

pub one_time : (count : ℤ → ℤ) (v w : Fraction) (label : Stamp) → IsLabelOf count v label → IsLabelOf count w label → v ≈ᶠ w
one_time count v w label h k =
    let den : 0 < 1 * label.second.den = let some = h.is_label.second_is.positive in omega arith in
    same_trans v (value_of count label) w den (same_sym (value_of count label) v h.value) k.value

pub labels_have_times : (count : ℤ → ℤ) (label : Stamp) → IsLabel count label ↔ ((v : Fraction) × IsFraction v × IsLabelOf count v label)
labels_have_times count label = (
  λ h.
      let den : 0 < 1 * label.second.den = let some = h.second_is.positive in omega arith in
      (value_of count label, record { positive = den }, record { is_label = h; value = same_refl (value_of count label) }),
  λ h. h.2.is_label,
)

-- the second of a time that is a whole number of units is a whole number of units
pub second_at : (count : ℤ → ℤ) (n : ℤ) (label : Stamp) → IsLabelOf count (units n) label → IsAt (10 ^ 18) label.second (n -ℤ start count label.day *ℤ pos (10 ^ 18))
second_at count n label is = record { at = go (start count label.day) label.second.num (pos label.second.den) n (pos (10 ^ 18)) is.value.same }
  where
    go : (s x d n m : ℤ) → (s *ℤ d +ℤ x *ℤ pos 1) *ℤ m ≡ n *ℤ (pos 1 *ℤ d) → x *ℤ m ≡ (n -ℤ s *ℤ m) *ℤ d
    go s x d n m h =
        let l : (s *ℤ d +ℤ x *ℤ pos 1) *ℤ m ≡ s *ℤ m *ℤ d +ℤ x *ℤ m = simp (numerals, ring) (omega (arith, lin)) in
        let r : n *ℤ (pos 1 *ℤ d) ≡ n *ℤ d = simp (numerals, ring) in
        let t : (n +ℤ neg_ℤ (s *ℤ m)) *ℤ d ≡ n *ℤ d +ℤ neg_ℤ (s *ℤ m *ℤ d) = simp ring (omega (arith, lin)) in
        let g : n -ℤ s *ℤ m ≡ n +ℤ neg_ℤ (s *ℤ m) = omega (arith, lin) in
        rw g (omega (arith, lin, l, r, t, h))

-- a whole number of units that lies before the end of a day lies a unit before it
next_unit : (n z : ℤ) (w r : ℕ) → 0 < r → (n *ℤ pos r) <ℤ (z *ℤ pos (w * r)) → ((n +ℤ pos 1) *ℤ pos r) ≤ℤ (z *ℤ pos (w * r))
next_unit n z w r some h = by_lt_z n (z *ℤ pos w)
    (λ (l : n <ℤ (z *ℤ pos w)).
    let m = le-mul_z (n +ℤ pos 1) (z *ℤ pos w) r (omega (arith, lin)) in
    rw (sym (same z (pos w) (pos r))) m)
    (λ (l : (z *ℤ pos w) ≤ℤ n).
    let m = le-mul_z (z *ℤ pos w) n r l in
    let e = same z (pos w) (pos r) in
    absurd (omega (arith, lin)))
  where
    same : (z w r : ℤ) → z *ℤ w *ℤ r ≡ z *ℤ (w *ℤ r)
    same z w r = simp ring

pub label_of_floor : (count : ℤ → ℤ) (v : Fraction) (n : ℤ) (label : Stamp) → IsFraction v → units n ≤ᶠ v → v <ᶠ units (n +ℤ pos 1)
    → IsLabelOf count (units n) label → IsLabelOf count v (record { day = label.day; second = label.second +ᶠ (v -ᶠ units n) })
label_of_floor count v n label f from to is =
    by (10 ^ 18) (lit< tt) from to is (second_at count n label is)
  where
    by : (u : ℕ) → 0 < u → over n u ≤ᶠ v → v <ᶠ over (n +ℤ pos 1) u → IsLabelOf count (over n u) label
        → IsAt u label.second (n -ℤ start count label.day *ℤ pos u)
        → IsLabelOf count v (record { day = label.day; second = label.second +ᶠ (v -ᶠ over n u) })
    by u unit from to is second =
        let r = v.den in
        let m = u * r in
        let some : 0 < m = mul-pos unit f.positive in
        let s = n -ℤ start count label.day *ℤ pos u in
        let hv : IsAt m v (v.num *ℤ pos u) = at_factor v u m (omega arith) in
        let hn = at_more u r (over n u) n (at_self (over n u)) in
        let hm = at_more u r (over (n +ℤ pos 1) u) (n +ℤ pos 1) (at_self (over (n +ℤ pos 1) u)) in
        let hs = at_more u r label.second s second in
        let p = placed count (over n u) label m (n *ℤ pos r) (s *ℤ pos r) some (record { positive = unit }) hn hs is in
        let least = at_le m (over n u) v (n *ℤ pos r) (v.num *ℤ pos u) unit f.positive hn hv from in
        let most = at_lt m v (over (n +ℤ pos 1) u) (v.num *ℤ pos u) ((n +ℤ pos 1) *ℤ pos r) some hv hm to in
        let end = next_unit n (start count (label.day +ℤ pos 1)) u r f.positive p.to in
        let day_from = p.from in
        let passed = p.passed in
        let den : 0 < label.second.den * (r * u) = mul-pos is.is_label.second_is.positive (mul-pos f.positive unit) in
        unplaced count v (record { day = label.day; second = label.second +ᶠ (v -ᶠ over n u) }) m (v.num *ℤ pos u)
        (s *ℤ pos r +ℤ (v.num *ℤ pos u +ℤ neg_ℤ (n *ℤ pos r))) some f (record { positive = den }) hv
        (at_add m label.second (v -ᶠ over n u) (s *ℤ pos r) (v.num *ℤ pos u +ℤ neg_ℤ (n *ℤ pos r)) hs
        (at_sub m v (over n u) (v.num *ℤ pos u) (n *ℤ pos r) hv hn))
        (record { from = omega (arith, lin); to = omega (arith, lin); passed = omega (arith, lin) })

-- a label that is told in units is one label
pub label_returns : (count : ℤ → ℤ) (label other : Label) (tai : ℤ) → AreCounts count
    → IsLabelOf count (units tai) (in_units label) → IsLabelOf count (units tai) (in_units other) → other ≡ label
label_returns count label other tai c h k =
    let same = one_label count (units tai) (in_units other) (in_units label) c (record { positive = lit< tt }) k h in
    let e : other.day ≡ label.day = same.day in
    let f : other.of_day ≡ label.of_day = units_same other.of_day label.of_day same.second.same in
    λ i. record { day = e i; of_day = f i }
  where
    units_same : (a b : ℤ) → a *ℤ pos (10 ^ 18) ≡ b *ℤ pos (10 ^ 18) → a ≡ b
    units_same a b h = omega (arith, ints)
