-- The ends of a product to the last unit.
use Rattle.std.proofs.Common.{◌≡◌, ℕ, ◌*◌, ◌^◌, ◌<◌, ℤ, pos, negsuc, neg_ℤ, ◌+ℤ◌, ◌-ℤ◌, ◌*ℤ◌, ◌≤ℤ◌, ◌<ℤ◌, ◌⊎◌, inl, inr, refl, sym, ap, ◌∙◌, arith, lit<}
use Rattle.std.specs.Int.{int_min, int_max}
use Rattle.std.proofs.Math.IntN.{*ℤ_comm}
use Rattle.std.proofs.lemmas.Int.{ints, clamps}
use Rattle.st_fraction.specs.Fraction.{Fraction, ◌≤ᶠ◌, over, units, ◌*ᶠ◌, LiesWithin}
use Rattle.st_fraction.proofs.Ring.{ring, lin, le-mul_z, le_cancel_z, lt_cancel_z, neg-mul_z, add-mul_z}
use Rattle.st_enclosure.specs.Ends.{IsOneOf, IsEither}
use Rattle.st_enclosure.specs.declared.interval.Interval.{Interval}
use Rattle.st_enclosure.specs.Interval.{point, floor_unit, ceil_unit, least_of, greatest_of, ◌*ᵢ◌}
use Rattle.st_enclosure.specs.Laws.{ProductContains, ProductIsExact, ScaledIsExact}
use Rattle.st_enclosure.proofs.Contained.{product_lies, one_of}
use Rattle.st_enclosure.proofs.Quotient.{IsFloor, floor_of_split, splits}

pub floor_unit_is : (z : ℤ) → IsFloor z (floor_unit z) (10 ^ 18)
floor_unit_is z = floor_of_split z _ _ (10 ^ 18) (splits z (10 ^ 18) (lit< tt))

one_floor : (x f g : ℤ) (n : ℕ) → IsFloor x f n → IsFloor x g n → f ≡ g
one_floor x f g n a b =
    let u : f <ℤ (g +ℤ pos 1) = lt_cancel_z f (g +ℤ pos 1) n (let l = a.below in let h = b.above in omega (arith, lin)) in
    let v : g <ℤ (f +ℤ pos 1) = lt_cancel_z g (f +ℤ pos 1) n (let l = b.below in let h = a.above in omega (arith, lin)) in
    omega (arith, ints, u, v)

-- the least and the greatest of two, and of four
min_first : (a b : ℤ) → int_min a b ≤ℤ a
min_first a b = omega (arith, ints, clamps)

min_second : (a b : ℤ) → int_min a b ≤ℤ b
min_second a b = omega (arith, ints, clamps)

below_min : (x a b : ℤ) → x ≤ℤ a → x ≤ℤ b → x ≤ℤ int_min a b
below_min x a b h k = omega (arith, ints, clamps, h, k)

max_first : (a b : ℤ) → a ≤ℤ int_max a b
max_first a b = omega (arith, ints, clamps)

max_second : (a b : ℤ) → b ≤ℤ int_max a b
max_second a b = omega (arith, ints, clamps)

above_max : (x a b : ℤ) → a ≤ℤ x → b ≤ℤ x → int_max a b ≤ℤ x
above_max x a b h k = omega (arith, ints, clamps, h, k)

le_trans : (a b c : ℤ) → a ≤ℤ b → b ≤ℤ c → a ≤ℤ c
le_trans a b c h k = omega (arith, lin, h, k)

pub below_least : (x a b c d : ℤ) → x ≤ℤ a → x ≤ℤ b → x ≤ℤ c → x ≤ℤ d → x ≤ℤ least_of a b c d
below_least x a b c d h i j k = below_min x (int_min a b) (int_min c d) (below_min x a b h i) (below_min x c d j k)

pub above_greatest : (x a b c d : ℤ) → a ≤ℤ x → b ≤ℤ x → c ≤ℤ x → d ≤ℤ x → greatest_of a b c d ≤ℤ x
above_greatest x a b c d h i j k = above_max x (int_max a b) (int_max c d) (above_max x a b h i) (above_max x c d j k)

least_below : (a b c d m : ℤ) → IsOneOf a b c d m → least_of a b c d ≤ℤ m
least_below a b c d m r =
    let x = int_min a b in
    let y = int_min c d in
    let P : ℤ → Type 0 = λ z. int_min x y ≤ℤ z in
    one_of P r (le_trans _ x a (min_first x y) (min_first a b)) (le_trans _ x b (min_first x y) (min_second a b))
    (le_trans _ y c (min_second x y) (min_first c d)) (le_trans _ y d (min_second x y) (min_second c d))

greatest_above : (a b c d m : ℤ) → IsOneOf a b c d m → m ≤ℤ greatest_of a b c d
greatest_above a b c d m r =
    let x = int_max a b in
    let y = int_max c d in
    let P : ℤ → Type 0 = λ z. z ≤ℤ int_max x y in
    one_of P r (le_trans a x _ (max_first a b) (max_first x y)) (le_trans b x _ (max_second a b) (max_first x y))
    (le_trans c y _ (max_first c d) (max_second x y)) (le_trans d y _ (max_second c d) (max_second x y))

-- a lower end that bounds all four and is less than a unit below one of them, and an upper end
low_is : (lo a b c d m : ℤ) → (lo *ℤ pos (10 ^ 18)) ≤ℤ a → (lo *ℤ pos (10 ^ 18)) ≤ℤ b → (lo *ℤ pos (10 ^ 18)) ≤ℤ c → (lo *ℤ pos (10 ^ 18)) ≤ℤ d
    → IsOneOf a b c d m → m <ℤ ((lo +ℤ pos 1) *ℤ pos (10 ^ 18)) → lo ≡ floor_unit (least_of a b c d)
low_is lo a b c d m h i j k r l =
    let z = least_of a b c d in
    let g = least_below a b c d m r in
    one_floor z lo (floor_unit z) (10 ^ 18) (record { below = below_least _ a b c d h i j k; above = omega (arith, lin, g, l) }) (floor_unit_is z)

high_is : (hi a b c d m : ℤ) → a ≤ℤ (hi *ℤ pos (10 ^ 18)) → b ≤ℤ (hi *ℤ pos (10 ^ 18)) → c ≤ℤ (hi *ℤ pos (10 ^ 18)) → d ≤ℤ (hi *ℤ pos (10 ^ 18))
    → IsOneOf a b c d m → ((hi -ℤ pos 1) *ℤ pos (10 ^ 18)) <ℤ m → hi ≡ ceil_unit (greatest_of a b c d)
high_is hi a b c d m h i j k r l =
    let z = greatest_of a b c d in
    let u = above_greatest _ a b c d h i j k in
    let g = greatest_above a b c d m r in
    let e = one_floor (neg_ℤ z) (neg_ℤ hi) (floor_unit (neg_ℤ z)) (10 ^ 18) (turned hi z (pos (10 ^ 18)) (10 ^ 18) refl u (omega (arith, lin, g, l))) (floor_unit_is (neg_ℤ z)) in
    twice hi ∙ ap neg_ℤ e
  where
    twice : (x : ℤ) → x ≡ neg_ℤ (neg_ℤ x)
    twice x = omega (arith, ints)

    turned : (hi z w : ℤ) (n : ℕ) → w ≡ pos n → z ≤ℤ (hi *ℤ w) → ((hi -ℤ pos 1) *ℤ w) <ℤ z → IsFloor (neg_ℤ z) (neg_ℤ hi) n
    turned hi z w n e u l =
        let u2 = rw e at u in
        let l2 = rw e at l in
        let a = neg-mul_z hi (pos n) in
        let b = add-mul_z (neg_ℤ hi) (pos 1) (pos n) in
        let c = add-mul_z hi (negsuc 0) (pos n) in
        record { below = omega (arith, lin, a, u2); above = omega (arith, lin, a, b, c, l2) }

ends_same : (p q : Interval) → p.lo ≡ q.lo → p.hi ≡ q.hi → p ≡ q
ends_same p q l h = λ i. record { lo = l i; hi = h i }

-- from corners
corner_low : (lo a c : ℤ) → units lo ≤ᶠ (units a *ᶠ units c) → (lo *ℤ pos (10 ^ 18)) ≤ℤ (a *ℤ c)
corner_low lo a c h = le_cancel_z (lo *ℤ pos (10 ^ 18)) (a *ℤ c) (10 ^ 18) (lit< tt) (go lo (a *ℤ c) (pos (10 ^ 18)) h.le)
  where
    go : (l p w : ℤ) → (l *ℤ (w *ℤ w)) ≤ℤ (p *ℤ w) → (l *ℤ w *ℤ w) ≤ℤ (p *ℤ w)
    go l p w h = simp ring h

corner_high : (hi a c : ℤ) → (units a *ᶠ units c) ≤ᶠ units hi → (a *ℤ c) ≤ℤ (hi *ℤ pos (10 ^ 18))
corner_high hi a c h = le_cancel_z (a *ℤ c) (hi *ℤ pos (10 ^ 18)) (10 ^ 18) (lit< tt) (go hi (a *ℤ c) (pos (10 ^ 18)) h.le)
  where
    go : (l p w : ℤ) → (p *ℤ w) ≤ℤ (l *ℤ (w *ℤ w)) → (p *ℤ w) ≤ℤ (l *ℤ w *ℤ w)
    go l p w h = simp ring h

inside : (lo hi e : ℤ) → lo ≤ℤ e → e ≤ℤ hi → LiesWithin lo hi (units e)
inside lo hi e h k = record { from = record { le = le-mul_z lo e (10 ^ 18) h }; to = record { le = le-mul_z e hi (10 ^ 18) k } }

stays : (a : ℤ) → a ≤ℤ a
stays a = omega (arith, ints)

pub product_is_exact : ProductIsExact
unfolding ◌*ᵢ◌
product_is_exact a b p ao bo contains low high =
    let al = inside a.lo a.hi a.lo (stays a.lo) ao in
    let ah = inside a.lo a.hi a.hi ao (stays a.hi) in
    let bl = inside b.lo b.hi b.lo (stays b.lo) bo in
    let bh = inside b.lo b.hi b.hi bo (stays b.hi) in
    let ll = contains (units a.lo) (units b.lo) al bl in
    let lh = contains (units a.lo) (units b.hi) al bh in
    let hl = contains (units a.hi) (units b.lo) ah bl in
    let hh = contains (units a.hi) (units b.hi) ah bh in
    ends_same p (a *ᵢ b)
    (low_is p.lo _ _ _ _ low.0 (corner_low p.lo a.lo b.lo ll.from) (corner_low p.lo a.lo b.hi lh.from) (corner_low p.lo a.hi b.lo hl.from) (corner_low p.lo a.hi b.hi hh.from) low.1.0 low.1.1)
    (high_is p.hi _ _ _ _ high.0 (corner_high p.hi a.lo b.lo ll.to) (corner_high p.hi a.lo b.hi lh.to) (corner_high p.hi a.hi b.lo hl.to) (corner_high p.hi a.hi b.hi hh.to) high.1.0 high.1.1)

either_end : (a b k e : ℤ) → IsEither a b e → IsOneOf (k *ℤ a) (k *ℤ b) (k *ℤ a) (k *ℤ b) (e *ℤ k)
either_end a b k e (inl i) = inl (*ℤ_comm e k ∙ ap (λ z. k *ℤ z) i)
either_end a b k e (inr i) = inr (inl (*ℤ_comm e k ∙ ap (λ z. k *ℤ z) i))

pub scaled_is_exact : ScaledIsExact
unfolding ◌*ᵢ◌
scaled_is_exact a p k ao contains low high =
    let l = contains (units a.lo) (inside a.lo a.hi a.lo (stays a.lo) ao) in
    let h = contains (units a.hi) (inside a.lo a.hi a.hi ao (stays a.hi)) in
    let ll = rw (*ℤ_comm a.lo k) at (corner_low p.lo a.lo k l.from) in
    let lh = rw (*ℤ_comm a.hi k) at (corner_low p.lo a.hi k h.from) in
    let hl = rw (*ℤ_comm a.lo k) at (corner_high p.hi a.lo k l.to) in
    let hh = rw (*ℤ_comm a.hi k) at (corner_high p.hi a.hi k h.to) in
    ends_same p (point k *ᵢ a)
    (low_is p.lo _ _ _ _ (low.0 *ℤ k) ll lh ll lh (either_end a.lo a.hi k low.0 low.1.0) low.1.1)
    (high_is p.hi _ _ _ _ (high.0 *ℤ k) hl hh hl hh (either_end a.lo a.hi k high.0 high.1.0) high.1.1)

below_any : (a b c d : ℤ) (x : ℤ) → IsOneOf a b c d x → (floor_unit (least_of a b c d) *ℤ pos (10 ^ 18)) ≤ℤ x
below_any a b c d x r = le_trans _ (least_of a b c d) x (floor_unit_is (least_of a b c d)).below (least_below a b c d x r)

above_any : (a b c d : ℤ) (x : ℤ) → IsOneOf a b c d x → x ≤ℤ (ceil_unit (greatest_of a b c d) *ℤ pos (10 ^ 18))
above_any a b c d x r =
    let z = greatest_of a b c d in
    le_trans x z _ (greatest_above a b c d x r) (turned (floor_unit (neg_ℤ z)) z (pos (10 ^ 18)) (floor_unit_is (neg_ℤ z)).below)
  where
    turned : (f z w : ℤ) → (f *ℤ w) ≤ℤ neg_ℤ z → z ≤ℤ (neg_ℤ f *ℤ w)
    turned f z w h = let e = neg-mul_z f w in omega (arith, lin, e, h)

pub product_contains : ProductContains
unfolding ◌*ᵢ◌
product_contains a b x y h k =
    let p = a.lo *ℤ b.lo in
    let q = a.lo *ℤ b.hi in
    let r = a.hi *ℤ b.lo in
    let s = a.hi *ℤ b.hi in
    product_lies _ _ a.lo a.hi b.lo b.hi x y
    (below_any p q r s p (inl refl)) (below_any p q r s q (inr (inl refl))) (below_any p q r s r (inr (inr (inl refl)))) (below_any p q r s s (inr (inr (inr refl))))
    (above_any p q r s p (inl refl)) (above_any p q r s q (inr (inl refl))) (above_any p q r s r (inr (inr (inl refl)))) (above_any p q r s s (inr (inr (inr refl)))) h k
