-- Fractions at a common scale: a is x / m where a.num m = x a.den. With each fraction of an argument written so, sums
-- and comparisons are those of whole numbers, and `omega` does the rest.
use Rattle.std.proofs.Common.{◌≡◌, ℕ, ◌*◌, ◌<◌, ℤ, pos, ◌+ℤ◌, ◌*ℤ◌, neg_ℤ, ◌≤ℤ◌, refl, sym, ap, ◌∙◌}
use Rattle.st_fraction.specs.Fraction.{Fraction, ◌≤ᶠ◌, ◌≈ᶠ◌, ◌+ᶠ◌, neg_f, ◌-ᶠ◌, ◌*ᶠ◌}
use Rattle.st_fraction.proofs.Ring.{ring, le-mul_z, le_cancel_z, cancel_z}

pub record IsAt (m : ℕ) (a : Fraction) (x : ℤ) : Type 0 where
  pub at : a.num *ℤ pos m ≡ x *ℤ pos a.den

pub at_self : (a : Fraction) → IsAt a.den a a.num
at_self a = record { at = refl }

pub at_more : (m k : ℕ) (a : Fraction) (x : ℤ) → IsAt m a x → IsAt (m * k) a (x *ℤ pos k)
at_more m k a x h = record { at = go a.num (pos m) x (pos a.den) (pos k) h.at }
  where
    go : (n m x d k : ℤ) → n *ℤ m ≡ x *ℤ d → n *ℤ (m *ℤ k) ≡ x *ℤ k *ℤ d
    go n m x d k e =
        let l : n *ℤ (m *ℤ k) ≡ n *ℤ m *ℤ k = simp ring in
        let r : x *ℤ d *ℤ k ≡ x *ℤ k *ℤ d = simp ring in
        l ∙ ap (λ z. z *ℤ k) e ∙ r

pub at_add : (m : ℕ) (a b : Fraction) (x y : ℤ) → IsAt m a x → IsAt m b y → IsAt m (a +ᶠ b) (x +ℤ y)
at_add m a b x y h k = record { at = go a.num (pos a.den) b.num (pos b.den) (pos m) x y h.at k.at }
  where
    go : (n d p e m x y : ℤ) → n *ℤ m ≡ x *ℤ d → p *ℤ m ≡ y *ℤ e → (n *ℤ e +ℤ p *ℤ d) *ℤ m ≡ (x +ℤ y) *ℤ (d *ℤ e)
    go n d p e m x y h k =
        let l : (n *ℤ e +ℤ p *ℤ d) *ℤ m ≡ n *ℤ m *ℤ e +ℤ p *ℤ m *ℤ d = simp ring in
        let r : x *ℤ d *ℤ e +ℤ y *ℤ e *ℤ d ≡ (x +ℤ y) *ℤ (d *ℤ e) = simp ring in
        l ∙ (λ i. h i *ℤ e +ℤ k i *ℤ d) ∙ r

pub at_neg : (m : ℕ) (a : Fraction) (x : ℤ) → IsAt m a x → IsAt m (neg_f a) (neg_ℤ x)
at_neg m a x h = record { at = go a.num (pos m) x (pos a.den) h.at }
  where
    go : (n m x d : ℤ) → n *ℤ m ≡ x *ℤ d → neg_ℤ n *ℤ m ≡ neg_ℤ x *ℤ d
    go n m x d e =
        let l : neg_ℤ n *ℤ m ≡ neg_ℤ (n *ℤ m) = simp ring in
        let r : neg_ℤ (x *ℤ d) ≡ neg_ℤ x *ℤ d = simp ring in
        l ∙ ap neg_ℤ e ∙ r

pub at_sub : (m : ℕ) (a b : Fraction) (x y : ℤ) → IsAt m a x → IsAt m b y → IsAt m (a -ᶠ b) (x +ℤ neg_ℤ y)
at_sub m a b x y h k = at_add m a (neg_f b) x (neg_ℤ y) h (at_neg m b y k)

pub at_mul : (m n : ℕ) (a b : Fraction) (x y : ℤ) → IsAt m a x → IsAt n b y → IsAt (m * n) (a *ᶠ b) (x *ℤ y)
at_mul m n a b x y h k = record { at = go a.num (pos a.den) b.num (pos b.den) (pos m) (pos n) x y h.at k.at }
  where
    go : (n d p e m o x y : ℤ) → n *ℤ m ≡ x *ℤ d → p *ℤ o ≡ y *ℤ e → n *ℤ p *ℤ (m *ℤ o) ≡ x *ℤ y *ℤ (d *ℤ e)
    go n d p e m o x y h k =
        let l : n *ℤ p *ℤ (m *ℤ o) ≡ n *ℤ m *ℤ (p *ℤ o) = simp ring in
        let r : x *ℤ d *ℤ (y *ℤ e) ≡ x *ℤ y *ℤ (d *ℤ e) = simp ring in
        l ∙ (λ i. h i *ℤ k i) ∙ r

pub le_at : (m : ℕ) (a b : Fraction) (x y : ℤ) → 0 < m → IsAt m a x → IsAt m b y → x ≤ℤ y → a ≤ᶠ b
le_at m a b x y some h k l = record {
  le = le_cancel_z _ _ m some (go a.num (pos a.den) b.num (pos b.den) (pos m) x y h.at k.at
      (le-mul_z _ _ b.den (le-mul_z x y a.den l)));
}
  where
    go : (n d p e m x y : ℤ) → n *ℤ m ≡ x *ℤ d → p *ℤ m ≡ y *ℤ e → (x *ℤ d *ℤ e) ≤ℤ (y *ℤ d *ℤ e) → (n *ℤ e *ℤ m) ≤ℤ (p *ℤ d *ℤ m)
    go n d p e m x y h k l =
        let u : n *ℤ e *ℤ m ≡ x *ℤ d *ℤ e = let l : n *ℤ e *ℤ m ≡ n *ℤ m *ℤ e = simp ring in l ∙ ap (λ z. z *ℤ e) h in
        let v : p *ℤ d *ℤ m ≡ y *ℤ d *ℤ e =
        let l : p *ℤ d *ℤ m ≡ p *ℤ m *ℤ d = simp ring in
        let r : y *ℤ e *ℤ d ≡ y *ℤ d *ℤ e = simp ring in
        l ∙ ap (λ z. z *ℤ d) k ∙ r in
        rw (u, v) l

pub at_le : (m : ℕ) (a b : Fraction) (x y : ℤ) → 0 < a.den → 0 < b.den → IsAt m a x → IsAt m b y → a ≤ᶠ b → x ≤ℤ y
at_le m a b x y pa pb h k l = le_cancel_z x y a.den pa (le_cancel_z _ _ b.den pb
    (go a.num (pos a.den) b.num (pos b.den) (pos m) x y h.at k.at (le-mul_z _ _ m l.le)))
  where
    go : (n d p e m x y : ℤ) → n *ℤ m ≡ x *ℤ d → p *ℤ m ≡ y *ℤ e → (n *ℤ e *ℤ m) ≤ℤ (p *ℤ d *ℤ m) → (x *ℤ d *ℤ e) ≤ℤ (y *ℤ d *ℤ e)
    go n d p e m x y h k l =
        let u : x *ℤ d *ℤ e ≡ n *ℤ e *ℤ m = let l : n *ℤ m *ℤ e ≡ n *ℤ e *ℤ m = simp ring in ap (λ z. z *ℤ e) (sym h) ∙ l in
        let v : y *ℤ d *ℤ e ≡ p *ℤ d *ℤ m =
        let l : y *ℤ d *ℤ e ≡ y *ℤ e *ℤ d = simp ring in
        let r : p *ℤ m *ℤ d ≡ p *ℤ d *ℤ m = simp ring in
        l ∙ ap (λ z. z *ℤ d) (sym k) ∙ r in
        rw (u, v) l

pub same_at : (m : ℕ) (a b : Fraction) (x : ℤ) → 0 < m → IsAt m a x → IsAt m b x → a ≈ᶠ b
same_at m a b x some h k = record { same = cancel_z _ _ m some (go a.num (pos a.den) b.num (pos b.den) (pos m) x h.at k.at) }
  where
    go : (n d p e m x : ℤ) → n *ℤ m ≡ x *ℤ d → p *ℤ m ≡ x *ℤ e → n *ℤ e *ℤ m ≡ p *ℤ d *ℤ m
    go n d p e m x h k =
        let l : n *ℤ e *ℤ m ≡ n *ℤ m *ℤ e = simp ring in
        let c : x *ℤ d *ℤ e ≡ x *ℤ e *ℤ d = simp ring in
        let r : p *ℤ m *ℤ d ≡ p *ℤ d *ℤ m = simp ring in
        l ∙ ap (λ z. z *ℤ e) h ∙ c ∙ ap (λ z. z *ℤ d) (sym k) ∙ r

-- against a fraction of another denominator
pub at_above : (m : ℕ) (a b : Fraction) (y : ℤ) → 0 < b.den → IsAt m b y → b ≤ᶠ a → (y *ℤ pos a.den) ≤ℤ (a.num *ℤ pos m)
at_above m a b y pb h l = le_cancel_z _ _ b.den pb (go a.num (pos a.den) b.num (pos b.den) (pos m) y h.at (le-mul_z _ _ m l.le))
  where
    go : (n d p e m y : ℤ) → p *ℤ m ≡ y *ℤ e → (p *ℤ d *ℤ m) ≤ℤ (n *ℤ e *ℤ m) → (y *ℤ d *ℤ e) ≤ℤ (n *ℤ m *ℤ e)
    go n d p e m y h l =
        let u : y *ℤ d *ℤ e ≡ p *ℤ d *ℤ m =
        let l : y *ℤ d *ℤ e ≡ y *ℤ e *ℤ d = simp ring in
        let r : p *ℤ m *ℤ d ≡ p *ℤ d *ℤ m = simp ring in
        l ∙ ap (λ z. z *ℤ d) (sym h) ∙ r in
        let v : n *ℤ m *ℤ e ≡ n *ℤ e *ℤ m = simp ring in
        rw (u, v) l

pub at_below : (m : ℕ) (a b : Fraction) (y : ℤ) → 0 < b.den → IsAt m b y → a ≤ᶠ b → (a.num *ℤ pos m) ≤ℤ (y *ℤ pos a.den)
at_below m a b y pb h l = le_cancel_z _ _ b.den pb (go a.num (pos a.den) b.num (pos b.den) (pos m) y h.at (le-mul_z _ _ m l.le))
  where
    go : (n d p e m y : ℤ) → p *ℤ m ≡ y *ℤ e → (n *ℤ e *ℤ m) ≤ℤ (p *ℤ d *ℤ m) → (n *ℤ m *ℤ e) ≤ℤ (y *ℤ d *ℤ e)
    go n d p e m y h l =
        let u : y *ℤ d *ℤ e ≡ p *ℤ d *ℤ m =
        let l : y *ℤ d *ℤ e ≡ y *ℤ e *ℤ d = simp ring in
        let r : p *ℤ m *ℤ d ≡ p *ℤ d *ℤ m = simp ring in
        l ∙ ap (λ z. z *ℤ d) (sym h) ∙ r in
        let v : n *ℤ m *ℤ e ≡ n *ℤ e *ℤ m = simp ring in
        rw (u, v) l
