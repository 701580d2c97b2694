-- How wide products of enclosures are, and how wide a sine is after so many doublings.
use Rattle.std.proofs.Common.{◌≡◌, ℕ, zero, suc, ◌+◌, ◌-◌, ◌*◌, ◌^◌, ◌≤◌, ◌<◌, ℤ, pos, negsuc, ◌+ℤ◌, ◌-ℤ◌, ◌*ℤ◌, neg_ℤ, ◌≤ℤ◌, ◌<ℤ◌, inl, inr, refl, arith, mul-le-mul}
use Rattle.std.proofs.lemmas.Int.{ints}
use Rattle.st_fraction.proofs.Ring.{ring, lin, lt_cancel_z, add-mul_z, neg-mul_z}
use Rattle.st_fraction.proofs.Within.{Within, within_mul}
use Rattle.st_enclosure.specs.Ends.{EndsAtMost, IsEither, IsProductOfEnds}

-- a product of two ends, as a product of two numbers between them
record EndPair (a b c d m : ℤ) : Type 0 where
  e : ℤ
  f : ℤ
  e_low : a ≤ℤ e
  e_high : e ≤ℤ b
  f_low : c ≤ℤ f
  f_high : f ≤ℤ d
  same : m ≡ e *ℤ f

end_pair : (a b c d m : ℤ) → a ≤ℤ b → c ≤ℤ d → IsProductOfEnds a b c d m → EndPair a b c d m
end_pair a b c d m h k p =
    let aa : a ≤ℤ a = omega (arith, lin) in
    let bb : b ≤ℤ b = omega (arith, lin) in
    let cc : c ≤ℤ c = omega (arith, lin) in
    let dd : d ≤ℤ d = omega (arith, lin) in
    elim p [
      | inl i ↦ record { e = a; f = c; e_low = aa; e_high = h; f_low = cc; f_high = k; same = i }
      | inr q ↦ elim q [
        | inl i ↦ record { e = a; f = d; e_low = aa; e_high = h; f_low = k; f_high = dd; same = i }
        | inr r ↦ elim r [
          | inl i ↦ record { e = b; f = c; e_low = h; e_high = bb; f_low = cc; f_high = k; same = i }
          | inr i ↦ record { e = b; f = d; e_low = h; e_high = bb; f_low = k; f_high = dd; same = i }
        ]
      ]
    ]

within_ends : (a b e : ℤ) (n : ℕ) → EndsAtMost a b n → a ≤ℤ e → e ≤ℤ b → Within e (pos n)
within_ends a b e n h k l = let s = h.low in let t = h.high in record { above = omega (arith, lin); below = omega (arith, ints) }

-- the ends of a product of what is at most 2
pub product_ends_low : (a b c d m lo : ℤ) → a ≤ℤ b → c ≤ℤ d → EndsAtMost a b (2 * 10 ^ 18) → EndsAtMost c d (2 * 10 ^ 18) → IsProductOfEnds a b c d m
    → m <ℤ ((lo +ℤ pos 1) *ℤ pos (10 ^ 18)) → negsuc (4 * 10 ^ 18) ≤ℤ lo
product_ends_low a b c d m lo h k s t p l =
    let q = end_pair a b c d m h k p in
    let w = within_mul q.e q.f (pos (2 * 10 ^ 18)) (pos (2 * 10 ^ 18)) (within_ends a b q.e (2 * 10 ^ 18) s q.e_low q.e_high) (within_ends c d q.f (2 * 10 ^ 18) t q.f_low q.f_high) in
    let n = neg-mul_z (pos (4 * 10 ^ 18)) (pos (10 ^ 18)) in
    let g = lt_cancel_z (neg_ℤ (pos (4 * 10 ^ 18))) (lo +ℤ pos 1) (10 ^ 18) (omega (arith, ints, w.below, q.same, l, n)) in
    omega (arith, ints)

pub product_ends_high : (a b c d m hi : ℤ) → a ≤ℤ b → c ≤ℤ d → EndsAtMost a b (2 * 10 ^ 18) → EndsAtMost c d (2 * 10 ^ 18) → IsProductOfEnds a b c d m
    → ((hi -ℤ pos 1) *ℤ pos (10 ^ 18)) <ℤ m → hi ≤ℤ pos (4 * 10 ^ 18 + 1)
product_ends_high a b c d m hi h k s t p l =
    let q = end_pair a b c d m h k p in
    let w = within_mul q.e q.f (pos (2 * 10 ^ 18)) (pos (2 * 10 ^ 18)) (within_ends a b q.e (2 * 10 ^ 18) s q.e_low q.e_high) (within_ends c d q.f (2 * 10 ^ 18) t q.f_low q.f_high) in
    let g = lt_cancel_z (hi -ℤ pos 1) (pos (4 * 10 ^ 18)) (10 ^ 18) (omega (arith, ints, w.above, q.same, l)) in
    omega (arith, ints)

-- and its width: 2 w + 2, where both factors are at most w wide and no farther than w beyond 1
pub product_width : (a b c d m n lo hi : ℤ) (w : ℕ) → a ≤ℤ b → c ≤ℤ d → (b -ℤ a) ≤ℤ pos w → (d -ℤ c) ≤ℤ pos w → EndsAtMost a b (10 ^ 18 + w) → EndsAtMost c d (10 ^ 18 + w) → w ≤ 10 ^ 8
    → IsProductOfEnds a b c d m → m <ℤ ((lo +ℤ pos 1) *ℤ pos (10 ^ 18)) → IsProductOfEnds a b c d n → ((hi -ℤ pos 1) *ℤ pos (10 ^ 18)) <ℤ n
    → (hi -ℤ lo) ≤ℤ pos (2 * w + 2)
product_width a b c d m n lo hi w h k wide1 wide2 s t small pm lm pn ln =
    let p = end_pair a b c d m h k pm in
    let q = end_pair a b c d n h k pn in
    let one = within_mul q.e (q.f -ℤ p.f) (pos (10 ^ 18 + w)) (pos w) (within_ends a b q.e (10 ^ 18 + w) s q.e_low q.e_high) (apart c d q.f p.f w wide2 q.f_low q.f_high p.f_low p.f_high) in
    let two = within_mul (q.e -ℤ p.e) p.f (pos w) (pos (10 ^ 18 + w)) (apart a b q.e p.e w wide1 q.e_low q.e_high p.e_low p.e_high) (within_ends c d p.f (10 ^ 18 + w) t p.f_low p.f_high) in
    let i = split q.e q.f p.e p.f in
    let square = mul-le-mul small small in
    let j = add-mul_z lo (pos (2 * w + 2)) (pos (10 ^ 18)) in
    let j1 = add-mul_z lo (pos 1) (pos (10 ^ 18)) in
    let g = lt_cancel_z (hi -ℤ pos 1) (lo +ℤ pos (2 * w + 2)) (10 ^ 18) (omega (arith, ints, one.above, two.above, i, p.same, q.same, lm, ln, j, j1)) in
    omega (arith, ints)
  where
    split : (e f g h : ℤ) → e *ℤ f ≡ g *ℤ h +ℤ (e *ℤ (f -ℤ h) +ℤ (e -ℤ g) *ℤ h)
    split e f g h = simp ring (omega (arith, lin))

    apart : (c d f g : ℤ) (w : ℕ) → (d -ℤ c) ≤ℤ pos w → c ≤ℤ f → f ≤ℤ d → c ≤ℤ g → g ≤ℤ d → Within (f -ℤ g) (pos w)
    apart c d f g w h a1 a2 b1 b2 = record { above = omega (arith, ints); below = omega (arith, ints) }

-- the width after so many doublings
unfoldable pub width_after : ℕ → ℕ
width_after zero = 51
width_after (suc i) = 4 * width_after i + 4

pub width_after-suc : (i : ℕ) → width_after (suc i) ≡ 4 * width_after i + 4
unfolding width_after
width_after-suc i = refl

pub width_after-rises : (i j : ℕ) → width_after i ≤ width_after (j + i)
unfolding width_after
width_after-rises i zero = let e : 0 + i ≡ i = omega arith in rw e (omega arith)
width_after-rises i (suc j) = let e : suc j + i ≡ suc (j + i) = omega arith in rw e (let ih = width_after-rises i j in omega arith)

pub width_after_eleven : (i : ℕ) → i ≤ 11 → width_after i ≤ 219501908
unfolding width_after
width_after_eleven i h =
    let e : (11 - i) + i ≡ 11 = omega arith in
    rw e at (width_after-rises i (11 - i))

-- nothing is widest before the last doubling
pub width_before_last : (i : ℕ) → i < 11 → width_after i ≤ 10 ^ 8
width_before_last i h =
    let e = width_after-suc i in
    let w = width_after_eleven (suc i) (omega arith) in
    omega arith

-- an enclosure times y units, y at most k
pub record IsScaled (lo hi : ℤ) (c j : ℕ) : Type 0 where
  pub width : (hi -ℤ lo) ≤ℤ pos (c + 1)
  pub ends : EndsAtMost lo hi j

pub is_scaled : (a b y lo hi e f : ℤ) (w n k c j : ℕ) → a ≤ℤ b → (b -ℤ a) ≤ℤ pos w → EndsAtMost a b n → pos 0 ≤ℤ y → y ≤ℤ pos k → w * k ≤ c * 10 ^ 18 → n * k ≤ j * 10 ^ 18
    → IsEither a b e → (e *ℤ y) <ℤ ((lo +ℤ pos 1) *ℤ pos (10 ^ 18)) → IsEither a b f → ((hi -ℤ pos 1) *ℤ pos (10 ^ 18)) <ℤ (f *ℤ y) → IsScaled lo hi c j
is_scaled a b y lo hi e f w n k c j order wide ends some small room size pe le pf lf =
    let ey : Within y (pos k) = record { above = small; below = omega (arith, ints) } in
    let we = either_within a b e order pe in
    let wf = either_within a b f order pf in
    let diff : Within (f -ℤ e) (pos w) = record { above = omega (arith, ints, we.0, we.1, wf.0, wf.1); below = omega (arith, ints, we.0, we.1, wf.0, wf.1) } in
    let product = within_mul (f -ℤ e) y (pos w) (pos k) diff ey in
    let i = split e f y in
    let ee = within_mul e y (pos n) (pos k) (within_ends a b e n ends we.0 we.1) ey in
    let ff = within_mul f y (pos n) (pos k) (within_ends a b f n ends wf.0 wf.1) ey in
    let j1 = add-mul_z lo (pos 1) (pos (10 ^ 18)) in
    let j2 = add-mul_z lo (pos (1 + c)) (pos (10 ^ 18)) in
    let j3 = neg-mul_z (pos j) (pos (10 ^ 18)) in
    let g = lt_cancel_z (hi -ℤ pos 1) (lo +ℤ pos (1 + c)) (10 ^ 18) (omega (arith, ints, product.above, i, le, lf, j1, j2)) in
    let l = lt_cancel_z (neg_ℤ (pos j)) (lo +ℤ pos 1) (10 ^ 18) (omega (arith, ints, ee.below, le, j3)) in
    let h = lt_cancel_z (hi -ℤ pos 1) (pos j) (10 ^ 18) (omega (arith, ints, ff.above, lf)) in
    record { width = omega (arith, ints); ends = record { low = omega (arith, ints); high = omega (arith, ints) } }
  where
    split : (e f y : ℤ) → f *ℤ y ≡ e *ℤ y +ℤ (f -ℤ e) *ℤ y
    split e f y = simp ring (omega (arith, lin))

    either_within : (a b e : ℤ) → a ≤ℤ b → IsEither a b e → (a ≤ℤ e) × (e ≤ℤ b)
    either_within a b e h p = elim p [ inl i ↦ (omega (arith, lin, i), omega (arith, lin, i)) | inr i ↦ (omega (arith, lin, i), omega (arith, lin, i)) ]
