-- The binomial theorem without binomials. A series is a sequence f with q (d + 1) f (d + 1) = p f d, which is
-- f 0 (p/q)^d / d!; the sum of f a * g b over a + b = d is then such a sequence for the sum of the arguments, by the
-- rule of Leibniz.
use Rattle.std.proofs.Common.{◌≡◌, ℕ, zero, suc, ◌*◌, ◌≤◌, ◌<◌, ℤ, pos, ◌+ℤ◌, ◌*ℤ◌, refl, sym, ap, ◌∙◌, arith, mul-pos}
use Rattle.std.proofs.lemmas.Int.{ints}
use Rattle.st_fraction.proofs.Ring.{ring, lin, mul-add_z, suc-mul_z, mul_left_comm_z, one-mul_z, cancel_z}

-- the sum of f a * g b over all a and b with a + b = d
abbrev pub conv : (ℕ → ℤ) → (ℕ → ℤ) → ℕ → ℤ
conv f g zero = f 0 *ℤ g 0
conv f g (suc d) = f 0 *ℤ g (suc d) +ℤ conv (λ a. f (suc a)) g d

abbrev pub der : (ℕ → ℤ) → ℕ → ℤ
der f a = pos (suc a) *ℤ f (suc a)

-- f d = m (p/q)^d / d! up to degree k
pub record IsSeries (m p : ℤ) (q k : ℕ) (f : ℕ → ℤ) : Type 0 where
  pub first : f 0 ≡ m
  pub next : (d : ℕ) → d < k → pos q *ℤ der f d ≡ p *ℤ f d

pub conv-ext : (f g h k : ℕ → ℤ) (d : ℕ) → ((a : ℕ) → a ≤ d → f a ≡ h a) → ((b : ℕ) → b ≤ d → g b ≡ k b) → conv f g d ≡ conv h k d
conv-ext f g h k zero e i = λ t. e 0 (omega arith) t *ℤ i 0 (omega arith) t
conv-ext f g h k (suc d) e i =
    let ih : conv (λ a. f (suc a)) g d ≡ conv (λ a. h (suc a)) k d =
    conv-ext (λ a. f (suc a)) g (λ a. h (suc a)) k d (λ a l. e (suc a) (omega arith)) (λ b l. i b (omega arith)) in
    λ t. e 0 (omega arith) t *ℤ i (suc d) (omega arith) t +ℤ ih t

pub conv-add_l : (f h g : ℕ → ℤ) (d : ℕ) → conv (λ a. f a +ℤ h a) g d ≡ conv f g d +ℤ conv h g d
conv-add_l f h g zero = simp ring
conv-add_l f h g (suc d) = rw (conv-add_l (λ a. f (suc a)) (λ a. h (suc a)) g d) (simp ring)

pub conv-scale_l : (c : ℤ) (f g : ℕ → ℤ) (d : ℕ) → conv (λ a. c *ℤ f a) g d ≡ c *ℤ conv f g d
conv-scale_l c f g zero = simp ring
conv-scale_l c f g (suc d) = rw (conv-scale_l c (λ a. f (suc a)) g d) (simp ring)

pub conv-scale_r : (c : ℤ) (f g : ℕ → ℤ) (d : ℕ) → conv f (λ a. c *ℤ g a) d ≡ c *ℤ conv f g d
conv-scale_r c f g zero = simp ring
conv-scale_r c f g (suc d) = rw (conv-scale_r c (λ a. f (suc a)) g d) (simp ring)

pub leibniz : (f g : ℕ → ℤ) (d : ℕ) → pos (suc d) *ℤ conv f g (suc d) ≡ conv (der f) g d +ℤ conv f (der g) d
leibniz f g zero = simp ring (omega (arith, ints))
leibniz f g (suc d) =
    let sh : ℕ → ℤ = λ a. f (suc a) in
    let ih = leibniz sh g d in
    let split : conv (λ a. der f (suc a)) g d ≡ conv (der sh) g d +ℤ conv (λ a. sh (suc a)) g d =
    conv-ext (λ a. der f (suc a)) g (λ a. der sh a +ℤ sh (suc a)) g d (λ a l. suc-mul_z (suc a) (f (suc (suc a)))) (λ b l. refl) ∙ conv-add_l (der sh) (λ a. sh (suc a)) g d in
    let e1 = mul-add_z (pos (suc (suc d))) (f 0 *ℤ g (suc (suc d))) (conv sh g (suc d)) in
    let e2 = suc-mul_z (suc d) (conv sh g (suc d)) in
    let e3 = mul_left_comm_z (f 0) (pos (suc (suc d))) (g (suc (suc d))) in
    let e4 = ap (λ z. z *ℤ g (suc d)) (one-mul_z (f 1)) in
    omega (arith, lin)

-- (p + r)^d / d! is the sum of p^a / a! times r^b / b! over a + b = d.
pub binomial : (m p r : ℤ) (q k : ℕ) (f g h : ℕ → ℤ) → 0 < q → IsSeries m p q k f → IsSeries m r q k g → IsSeries m (p +ℤ r) q k h
    → (d : ℕ) → d ≤ k → conv f g d ≡ m *ℤ h d
binomial m p r q k f g h some sf sg sh zero l = λ t. sf.first t *ℤ (sg.first ∙ sym sh.first) t
binomial m p r q k f g h some sf sg sh (suc d) l =
    let ih = binomial m p r q k f g h some sf sg sh d (omega arith) in
    let left : conv (λ a. pos q *ℤ der f a) g d ≡ conv (λ a. p *ℤ f a) g d =
    conv-ext (λ a. pos q *ℤ der f a) g (λ a. p *ℤ f a) g d (λ a i. sf.next a (omega arith)) (λ b i. refl) in
    let right : conv f (λ b. pos q *ℤ der g b) d ≡ conv f (λ b. r *ℤ g b) d =
    conv-ext f (λ b. pos q *ℤ der g b) f (λ b. r *ℤ g b) d (λ a i. refl) (λ b i. sg.next b (omega arith)) in
    let el : pos q *ℤ conv (der f) g d ≡ p *ℤ conv f g d = sym (conv-scale_l (pos q) (der f) g d) ∙ left ∙ conv-scale_l p f g d in
    let er : pos q *ℤ conv f (der g) d ≡ r *ℤ conv f g d = sym (conv-scale_r (pos q) f (der g) d) ∙ right ∙ conv-scale_r r f g d in
    cancel_z (conv f g (suc d)) (m *ℤ h (suc d)) (q * suc d) (mul-pos some (omega arith))
    (go (pos q) (pos (suc d)) (conv f g (suc d)) (conv (der f) g d) (conv f (der g) d) (conv f g d) p r m (h d) (h (suc d))
    (leibniz f g d) el er ih (sh.next d (omega arith)))
  where
    go : (q s c x y v p r m h h' : ℤ) → s *ℤ c ≡ x +ℤ y → q *ℤ x ≡ p *ℤ v → q *ℤ y ≡ r *ℤ v → v ≡ m *ℤ h → q *ℤ (s *ℤ h') ≡ (p +ℤ r) *ℤ h
        → c *ℤ (q *ℤ s) ≡ m *ℤ h' *ℤ (q *ℤ s)
    go q s c x y v p r m h h' e1 e2 e3 e4 e5 =
        let a : c *ℤ (q *ℤ s) ≡ q *ℤ (s *ℤ c) = simp ring in
        let b : q *ℤ (x +ℤ y) ≡ q *ℤ x +ℤ q *ℤ y = simp ring in
        let d : p *ℤ (m *ℤ h) +ℤ r *ℤ (m *ℤ h) ≡ m *ℤ ((p +ℤ r) *ℤ h) = simp ring in
        let f : m *ℤ (q *ℤ (s *ℤ h')) ≡ m *ℤ h' *ℤ (q *ℤ s) = simp ring in
        a ∙ ap (λ z. q *ℤ z) e1 ∙ b ∙ (λ i. e2 i +ℤ e3 i) ∙ (λ i. p *ℤ e4 i +ℤ r *ℤ e4 i) ∙ d ∙ ap (λ z. m *ℤ z) (sym e5) ∙ f
