-- What lies between ends is kept by sums, products and quotients. A fraction n / d is compared with l units as l d with
-- n w, where w is the number of units in one, a variable here.
use Rattle.std.proofs.Common.{◌≡◌, ℕ, suc, ◌*◌, ◌^◌, ◌<◌, ℤ, pos, negsuc, ◌+ℤ◌, ◌-ℤ◌, ◌*ℤ◌, neg_ℤ, ◌≤ℤ◌, unsigned_abs, true, false, inl, inr, arith, lit<, mul-pos}
use Rattle.std.proofs.lemmas.Int.{ints}
use Rattle.st_fraction.specs.Fraction.{Fraction, IsFraction, over, units, ◌+ᶠ◌, neg_f, ◌-ᶠ◌, ◌*ᶠ◌, LiesWithin, IsNear}
use lib.Signed.{lt_z}
use borrow.Author.Tests.{ltb-true}
use Rattle.st_enclosure.specs.Ends.{IsOneOf}
use Rattle.st_fraction.proofs.Ring.{ring, lin, le-mul_z, le-mul_nonneg, le_cancel_z, mul-neg_z}
use Rattle.st_fraction.proofs.Order.{le_f_refl, le_f_trans, le_f_add}

pub add_low : (l k n m : ℤ) (d e w : ℕ) → (l *ℤ pos d) ≤ℤ (n *ℤ pos w) → (k *ℤ pos e) ≤ℤ (m *ℤ pos w)
    → ((l +ℤ k) *ℤ pos (d * e)) ≤ℤ ((n *ℤ pos e +ℤ m *ℤ pos d) *ℤ pos w)
add_low l k n m d e w g h = go l k n m (pos d) (pos e) (pos w) (le-mul_z _ _ e g) (le-mul_z _ _ d h)
  where
    go : (l k n m d e w : ℤ) → (l *ℤ d *ℤ e) ≤ℤ (n *ℤ w *ℤ e) → (k *ℤ e *ℤ d) ≤ℤ (m *ℤ w *ℤ d) → ((l +ℤ k) *ℤ (d *ℤ e)) ≤ℤ ((n *ℤ e +ℤ m *ℤ d) *ℤ w)
    go l k n m d e w g h = simp ring (let g2 = simp ring at g in let h2 = simp ring at h in omega (arith, lin))

pub add_high : (l k n m : ℤ) (d e w : ℕ) → (n *ℤ pos w) ≤ℤ (l *ℤ pos d) → (m *ℤ pos w) ≤ℤ (k *ℤ pos e)
    → ((n *ℤ pos e +ℤ m *ℤ pos d) *ℤ pos w) ≤ℤ ((l +ℤ k) *ℤ pos (d * e))
add_high l k n m d e w g h = go l k n m (pos d) (pos e) (pos w) (le-mul_z _ _ e g) (le-mul_z _ _ d h)
  where
    go : (l k n m d e w : ℤ) → (n *ℤ w *ℤ e) ≤ℤ (l *ℤ d *ℤ e) → (m *ℤ w *ℤ d) ≤ℤ (k *ℤ e *ℤ d) → ((n *ℤ e +ℤ m *ℤ d) *ℤ w) ≤ℤ ((l +ℤ k) *ℤ (d *ℤ e))
    go l k n m d e w g h = simp ring (let g2 = simp ring at g in let h2 = simp ring at h in omega (arith, lin))

pub neg_low : (l n : ℤ) (d w : ℕ) → (n *ℤ pos w) ≤ℤ (l *ℤ pos d) → (neg_ℤ l *ℤ pos d) ≤ℤ (neg_ℤ n *ℤ pos w)
neg_low l n d w h = go l n (pos d) (pos w) h
  where
    go : (l n d w : ℤ) → (n *ℤ w) ≤ℤ (l *ℤ d) → (neg_ℤ l *ℤ d) ≤ℤ (neg_ℤ n *ℤ w)
    go l n d w h = simp ring (omega (arith, lin))

pub neg_high : (l n : ℤ) (d w : ℕ) → (l *ℤ pos d) ≤ℤ (n *ℤ pos w) → (neg_ℤ n *ℤ pos w) ≤ℤ (neg_ℤ l *ℤ pos d)
neg_high l n d w h = go l n (pos d) (pos w) h
  where
    go : (l n d w : ℤ) → (l *ℤ d) ≤ℤ (n *ℤ w) → (neg_ℤ n *ℤ w) ≤ℤ (neg_ℤ l *ℤ d)
    go l n d w h = simp ring (omega (arith, lin))

-- l at most n / d and b units, against l - b
pub move_low : (l b n : ℤ) (d w : ℕ) → 0 < w → (l *ℤ pos (d * w)) ≤ℤ ((n *ℤ pos w +ℤ b *ℤ pos d) *ℤ pos w) → ((l -ℤ b) *ℤ pos d) ≤ℤ (n *ℤ pos w)
move_low l b n d w some h = le_cancel_z _ _ w some (go l b n (pos d) (pos w) h)
  where
    go : (l b n d w : ℤ) → (l *ℤ (d *ℤ w)) ≤ℤ ((n *ℤ w +ℤ b *ℤ d) *ℤ w) → ((l -ℤ b) *ℤ d *ℤ w) ≤ℤ (n *ℤ w *ℤ w)
    go l b n d w h = simp ring (let h2 = simp ring at h in omega (arith, lin))

-- n / d at most h and b units, against h + b
pub move_high : (l b n : ℤ) (d w : ℕ) → 0 < w → (n *ℤ pos (w * w)) ≤ℤ ((l *ℤ pos w +ℤ b *ℤ pos w) *ℤ pos d) → (n *ℤ pos w) ≤ℤ ((l +ℤ b) *ℤ pos d)
move_high l b n d w some h = le_cancel_z _ _ w some (go l b n (pos d) (pos w) h)
  where
    go : (l b n d w : ℤ) → (n *ℤ (w *ℤ w)) ≤ℤ ((l *ℤ w +ℤ b *ℤ w) *ℤ d) → (n *ℤ w *ℤ w) ≤ℤ ((l +ℤ b) *ℤ d *ℤ w)
    go l b n d w h = simp ring (let h2 = simp ring at h in omega (arith, lin))

pub sum_lies : (al ah bl bh : ℤ) (x y : Fraction) → LiesWithin al ah x → LiesWithin bl bh y → LiesWithin (al +ℤ bl) (ah +ℤ bh) (x +ᶠ y)
sum_lies al ah bl bh x y h k = record {
  from = record { le = add_low al bl x.num y.num x.den y.den (10 ^ 18) h.from.le k.from.le };
  to = record { le = add_high ah bh x.num y.num x.den y.den (10 ^ 18) h.to.le k.to.le };
}

pub difference_lies : (al ah bl bh : ℤ) (x y : Fraction) → LiesWithin al ah x → LiesWithin bl bh y → LiesWithin (al -ℤ bh) (ah -ℤ bl) (x -ᶠ y)
difference_lies al ah bl bh x y h k = sum_lies al ah (neg_ℤ bh) (neg_ℤ bl) x (neg_f y) h (record {
  from = record { le = neg_low bh y.num y.den (10 ^ 18) k.to.le };
  to = record { le = neg_high bl y.num y.den (10 ^ 18) k.from.le };
})

pub near_lies : (lo hi by : ℤ) (x y : Fraction) → IsFraction x → LiesWithin lo hi x → IsNear x y (units by) → LiesWithin (lo -ℤ by) (hi +ℤ by) y
near_lies lo hi by x y px h k = record {
  from = record { le = move_low lo by y.num y.den (10 ^ 18) (lit< tt) (le_f_trans (units lo) x (y +ᶠ units by) px.positive h.from k.above).le };
  to = record { le = move_high hi by y.num y.den (10 ^ 18) (lit< tt) (le_f_trans y (x +ᶠ units by) (units hi +ᶠ units by) (mul-pos px.positive (lit< tt)) k.below (le_f_add x (units hi) (units by) (units by) h.to (le_f_refl (units by)))).le };
}

-- A bound on a product at both ends of one factor bounds it between them: by the sign of the other factor.
pub edge_low : (l al ah y p : ℤ) (q : ℕ) → l ≤ℤ (al *ℤ y) → l ≤ℤ (ah *ℤ y) → (al *ℤ pos q) ≤ℤ p → p ≤ℤ (ah *ℤ pos q) → (l *ℤ pos q) ≤ℤ (p *ℤ y)
edge_low l al ah (pos n) p q h1 h2 k1 k2 =
    let a = le-mul_z l (al *ℤ pos n) q h1 in
    let b = le-mul_z (al *ℤ pos q) p n k1 in
    let a2 = simp ring at a in
    let b2 = simp ring at b in
    omega (arith, ints)
edge_low l al ah (negsuc n) p q h1 h2 k1 k2 =
    let a = le-mul_z l (ah *ℤ negsuc n) q h2 in
    let b = le-mul_z p (ah *ℤ pos q) (suc n) k2 in
    let a2 = simp ring at a in
    let b2 = simp ring at b in
    omega (arith, ints)

pub edge_high : (l al ah y p : ℤ) (q : ℕ) → (al *ℤ y) ≤ℤ l → (ah *ℤ y) ≤ℤ l → (al *ℤ pos q) ≤ℤ p → p ≤ℤ (ah *ℤ pos q) → (p *ℤ y) ≤ℤ (l *ℤ pos q)
edge_high l al ah (pos n) p q h1 h2 k1 k2 =
    let a = le-mul_z (ah *ℤ pos n) l q h2 in
    let b = le-mul_z p (ah *ℤ pos q) n k2 in
    let a2 = simp ring at a in
    let b2 = simp ring at b in
    omega (arith, ints)
edge_high l al ah (negsuc n) p q h1 h2 k1 k2 =
    let a = le-mul_z (al *ℤ negsuc n) l q h1 in
    let b = le-mul_z (al *ℤ pos q) p (suc n) k1 in
    let a2 = simp ring at a in
    let b2 = simp ring at b in
    omega (arith, ints)

-- r in units of units: a bound on the products of the ends bounds n / d times m / e.
pub mul_low : (r al ah bl bh n m : ℤ) (d e w : ℕ) → 0 < w
    → (r *ℤ pos w) ≤ℤ (al *ℤ bl) → (r *ℤ pos w) ≤ℤ (al *ℤ bh) → (r *ℤ pos w) ≤ℤ (ah *ℤ bl) → (r *ℤ pos w) ≤ℤ (ah *ℤ bh)
    → (al *ℤ pos d) ≤ℤ (n *ℤ pos w) → (n *ℤ pos w) ≤ℤ (ah *ℤ pos d) → (bl *ℤ pos e) ≤ℤ (m *ℤ pos w) → (m *ℤ pos w) ≤ℤ (bh *ℤ pos e)
    → (r *ℤ pos (d * e)) ≤ℤ (n *ℤ m *ℤ pos w)
mul_low r al ah bl bh n m d e w some h1 h2 h3 h4 a1 a2 b1 b2 =
    let low = edge_low (r *ℤ pos w) al ah bl (n *ℤ pos w) d h1 h3 a1 a2 in
    let high = edge_low (r *ℤ pos w) al ah bh (n *ℤ pos w) d h2 h4 a1 a2 in
    let both = edge_low (r *ℤ pos w *ℤ pos d) bl bh (n *ℤ pos w) (m *ℤ pos w) e (turn r (n *ℤ pos w) bl (pos w) (pos d) low) (turn r (n *ℤ pos w) bh (pos w) (pos d) high) b1 b2 in
    le_cancel_z _ _ w some (go r n m (pos d) (pos e) (pos w) both)
  where
    turn : (r p b w d : ℤ) → (r *ℤ w *ℤ d) ≤ℤ (p *ℤ b) → (r *ℤ w *ℤ d) ≤ℤ (b *ℤ p)
    turn r p b w d h = simp ring (simp ring at h)

    go : (r n m d e w : ℤ) → (r *ℤ w *ℤ d *ℤ e) ≤ℤ (m *ℤ w *ℤ (n *ℤ w)) → (r *ℤ (d *ℤ e) *ℤ w) ≤ℤ (n *ℤ m *ℤ w *ℤ w)
    go r n m d e w h = simp ring (simp ring at h)

pub mul_high : (r al ah bl bh n m : ℤ) (d e w : ℕ) → 0 < w
    → (al *ℤ bl) ≤ℤ (r *ℤ pos w) → (al *ℤ bh) ≤ℤ (r *ℤ pos w) → (ah *ℤ bl) ≤ℤ (r *ℤ pos w) → (ah *ℤ bh) ≤ℤ (r *ℤ pos w)
    → (al *ℤ pos d) ≤ℤ (n *ℤ pos w) → (n *ℤ pos w) ≤ℤ (ah *ℤ pos d) → (bl *ℤ pos e) ≤ℤ (m *ℤ pos w) → (m *ℤ pos w) ≤ℤ (bh *ℤ pos e)
    → (n *ℤ m *ℤ pos w) ≤ℤ (r *ℤ pos (d * e))
mul_high r al ah bl bh n m d e w some h1 h2 h3 h4 a1 a2 b1 b2 =
    let low = edge_high (r *ℤ pos w) al ah bl (n *ℤ pos w) d h1 h3 a1 a2 in
    let high = edge_high (r *ℤ pos w) al ah bh (n *ℤ pos w) d h2 h4 a1 a2 in
    let both = edge_high (r *ℤ pos w *ℤ pos d) bl bh (n *ℤ pos w) (m *ℤ pos w) e (turn r (n *ℤ pos w) bl (pos w) (pos d) low) (turn r (n *ℤ pos w) bh (pos w) (pos d) high) b1 b2 in
    le_cancel_z _ _ w some (go r n m (pos d) (pos e) (pos w) both)
  where
    turn : (r p b w d : ℤ) → (p *ℤ b) ≤ℤ (r *ℤ w *ℤ d) → (b *ℤ p) ≤ℤ (r *ℤ w *ℤ d)
    turn r p b w d h = simp ring (simp ring at h)

    go : (r n m d e w : ℤ) → (m *ℤ w *ℤ (n *ℤ w)) ≤ℤ (r *ℤ w *ℤ d *ℤ e) → (n *ℤ m *ℤ w *ℤ w) ≤ℤ (r *ℤ (d *ℤ e) *ℤ w)
    go r n m d e w h = simp ring (simp ring at h)

-- and n / d times y / k
pub times_low : (r al ah y n : ℤ) (d k w : ℕ) → (r *ℤ pos k) ≤ℤ (al *ℤ y) → (r *ℤ pos k) ≤ℤ (ah *ℤ y)
    → (al *ℤ pos d) ≤ℤ (n *ℤ pos w) → (n *ℤ pos w) ≤ℤ (ah *ℤ pos d) → (r *ℤ pos (d * k)) ≤ℤ (n *ℤ y *ℤ pos w)
times_low r al ah y n d k w h1 h2 a1 a2 = go r y n (pos d) (pos k) (pos w) (edge_low (r *ℤ pos k) al ah y (n *ℤ pos w) d h1 h2 a1 a2)
  where
    go : (r y n d k w : ℤ) → (r *ℤ k *ℤ d) ≤ℤ (n *ℤ w *ℤ y) → (r *ℤ (d *ℤ k)) ≤ℤ (n *ℤ y *ℤ w)
    go r y n d k w h = simp ring (simp ring at h)

pub times_high : (r al ah y n : ℤ) (d k w : ℕ) → (al *ℤ y) ≤ℤ (r *ℤ pos k) → (ah *ℤ y) ≤ℤ (r *ℤ pos k)
    → (al *ℤ pos d) ≤ℤ (n *ℤ pos w) → (n *ℤ pos w) ≤ℤ (ah *ℤ pos d) → (n *ℤ y *ℤ pos w) ≤ℤ (r *ℤ pos (d * k))
times_high r al ah y n d k w h1 h2 a1 a2 = go r y n (pos d) (pos k) (pos w) (edge_high (r *ℤ pos k) al ah y (n *ℤ pos w) d h1 h2 a1 a2)
  where
    go : (r y n d k w : ℤ) → (n *ℤ w *ℤ y) ≤ℤ (r *ℤ k *ℤ d) → (n *ℤ y *ℤ w) ≤ℤ (r *ℤ (d *ℤ k))
    go r y n d k w h = simp ring (simp ring at h)

pub product_lies : (lo hi al ah bl bh : ℤ) (x y : Fraction)
    → (lo *ℤ pos (10 ^ 18)) ≤ℤ (al *ℤ bl) → (lo *ℤ pos (10 ^ 18)) ≤ℤ (al *ℤ bh) → (lo *ℤ pos (10 ^ 18)) ≤ℤ (ah *ℤ bl) → (lo *ℤ pos (10 ^ 18)) ≤ℤ (ah *ℤ bh)
    → (al *ℤ bl) ≤ℤ (hi *ℤ pos (10 ^ 18)) → (al *ℤ bh) ≤ℤ (hi *ℤ pos (10 ^ 18)) → (ah *ℤ bl) ≤ℤ (hi *ℤ pos (10 ^ 18)) → (ah *ℤ bh) ≤ℤ (hi *ℤ pos (10 ^ 18))
    → LiesWithin al ah x → LiesWithin bl bh y → LiesWithin lo hi (x *ᶠ y)
product_lies lo hi al ah bl bh x y l1 l2 l3 l4 h1 h2 h3 h4 h k = record {
  from = record { le = mul_low lo al ah bl bh x.num y.num x.den y.den (10 ^ 18) (lit< tt) l1 l2 l3 l4 h.from.le h.to.le k.from.le k.to.le };
  to = record { le = mul_high hi al ah bl bh x.num y.num x.den y.den (10 ^ 18) (lit< tt) h1 h2 h3 h4 h.from.le h.to.le k.from.le k.to.le };
}

pub times_lies : (lo hi al ah y d : ℤ) (x : Fraction) → pos 1 ≤ℤ d → (lo *ℤ d) ≤ℤ (al *ℤ y) → (lo *ℤ d) ≤ℤ (ah *ℤ y) → (al *ℤ y) ≤ℤ (hi *ℤ d) → (ah *ℤ y) ≤ℤ (hi *ℤ d)
    → LiesWithin al ah x → LiesWithin lo hi (x *ᶠ over y (unsigned_abs d))
times_lies lo hi al ah y (pos d) x some l1 l2 h1 h2 h = record {
  from = record { le = times_low lo al ah y x.num x.den d (10 ^ 18) l1 l2 h.from.le h.to.le };
  to = record { le = times_high hi al ah y x.num x.den d (10 ^ 18) h1 h2 h.from.le h.to.le };
}
times_lies lo hi al ah y (negsuc d) x some l1 l2 h1 h2 h = absurd (omega (arith, ints))

-- the order of products by the order of one factor and the sign of the other
pub in_order_up : (a b y : ℤ) → a ≤ℤ b → pos 0 ≤ℤ y → (a *ℤ y) ≤ℤ (b *ℤ y)
in_order_up a b y h k = le-mul_nonneg a b y h k

pub in_order_down : (a b y : ℤ) → a ≤ℤ b → y ≤ℤ pos 0 → (b *ℤ y) ≤ℤ (a *ℤ y)
in_order_down a b y h k =
    let m = le-mul_nonneg a b (neg_ℤ y) h (omega (arith, ints)) in
    let i = mul-neg_z a y in
    let j = mul-neg_z b y in
    omega (arith, lin)

-- what has l d at most some x, and x at most h d, has l at most h
pub ends_in_order : (l h x d : ℤ) → pos 1 ≤ℤ d → (l *ℤ d) ≤ℤ x → x ≤ℤ (h *ℤ d) → l ≤ℤ h
ends_in_order l h x (pos n) some a b = le_cancel_z l h n (omega (arith, ints)) (omega (arith, lin))
ends_in_order l h x (negsuc n) some a b = absurd (omega (arith, ints))

pub one_of : {a b c d e : ℤ} (P : ℤ → Type 0) → IsOneOf a b c d e → P a → P b → P c → P d → P e
one_of P r a b c d = elim r [ inl i ↦ rw i a | inr s ↦ elim s [ inl i ↦ rw i b | inr t ↦ elim t [ inl i ↦ rw i c | inr i ↦ rw i d ] ] ]

-- the sign that a test finds
pub negative : (y : ℤ) → lt_z y (pos 0) ≡ true → y ≤ℤ pos 0
negative (pos n) e = absurd (omega (arith, ltb-true n 0 e))
negative (negsuc n) e = omega (arith, ints)

pub not_negative : (y : ℤ) → lt_z y (pos 0) ≡ false → pos 0 ≤ℤ y
not_negative (pos n) e = omega (arith, ints)
not_negative (negsuc n) e = absurd (cc)
