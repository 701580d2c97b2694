-- An alternating sum whose terms shrink: each sum lies between the two before it, so the lesser of two neighbouring
-- sums rises and the greater falls.
use Rattle.std.proofs.Common.{◌≡◌, ℕ, zero, suc, ◌*◌, ◌≤◌, ◌<◌, ℤ, pos, negsuc, ◌+ℤ◌, ◌*ℤ◌, neg_ℤ, ◌≤ℤ◌, ◌⊎◌, inl, inr, arith, mul-le-mul_right, le_of_mul-le-mul_right}
use Rattle.std.proofs.lemmas.Int.{ints}
use Rattle.st_fraction.proofs.Ring.{lin}
use Rattle.st_fraction.proofs.Ends.{lesser, greater, AreEnds, ends}
use Rattle.st_series.specs.Series.{turned}

-- g lies between 0 and f
abbrev pub Shrinks : ℤ → ℤ → Type 0
Shrinks f g = ((pos 0 ≤ℤ g) × (g ≤ℤ f)) ⊎ ((f ≤ℤ g) × (g ≤ℤ pos 0))

-- k g = s f with s ≤ k
pub shrinks : (k s : ℕ) (f g : ℤ) → 0 < k → s ≤ k → pos k *ℤ g ≡ pos s *ℤ f → Shrinks f g
shrinks k s (pos f) (pos g) some h e =
    let m = mul-le-mul_right f h in
    let l : g * k ≤ f * k = omega (arith, ints) in
    let r = le_of_mul-le-mul_right l some in
    inl (omega (arith, ints), omega (arith, ints))
shrinks k s (pos f) (negsuc g) some h e = absurd (omega (arith, ints, mul-le-mul_right (suc g) some))
shrinks k s (negsuc f) (pos zero) some h e = inr (omega (arith, ints), omega (arith, ints))
shrinks k s (negsuc f) (pos (suc g)) some h e = absurd (omega (arith, ints, mul-le-mul_right (suc g) some))
shrinks k s (negsuc f) (negsuc g) some h e =
    let m = mul-le-mul_right (suc f) h in
    let l : suc g * k ≤ suc f * k = omega (arith, ints) in
    let r = le_of_mul-le-mul_right l some in
    inr (omega (arith, ints), omega (arith, ints))

pub turned_shrinks : (i : ℕ) (f g : ℤ) → Shrinks f g → Shrinks (turned i f) (turned i g)
turned_shrinks zero f g h = h
turned_shrinks (suc i) f g h =
    elim (turned_shrinks i f g h) [ inl a ↦ inr (omega (arith, lin, a.0, a.1), omega (arith, ints, a.0, a.1)) | inr b ↦ inl (omega (arith, ints, b.0, b.1), omega (arith, lin, b.0, b.1)) ]

pub record Closes (x y z : ℤ) : Type 0 where
  pub rises : lesser x y ≤ℤ lesser y z
  pub falls : greater y z ≤ℤ greater x y

-- x, then x + f, then x + f - g
pub closes : (x y z f g : ℤ) → y ≡ x +ℤ f → z ≡ y +ℤ neg_ℤ g → Shrinks f g → Closes x y z
closes x y z f g e1 e2 h =
    let a = ends x y in
    let b = ends y z in
    elim h [ inl s ↦ go a b s | inr s ↦ back a b s ]
  where
    go : AreEnds x y (lesser x y) (greater x y) → AreEnds y z (lesser y z) (greater y z) → (pos 0 ≤ℤ g) × (g ≤ℤ f) → Closes x y z
    go a b s = elim b.either [
      | inl k ↦ record { rises = omega (arith, lin, k.0, a.l_second); falls = omega (arith, lin, k.1, s.0, e2, a.g_second) }
      | inr k ↦ record { rises = omega (arith, lin, k.0, s.1, e1, e2, a.l_first); falls = omega (arith, lin, k.1, a.g_second) }
    ]

    back : AreEnds x y (lesser x y) (greater x y) → AreEnds y z (lesser y z) (greater y z) → (f ≤ℤ g) × (g ≤ℤ pos 0) → Closes x y z
    back a b s = elim b.either [
      | inl k ↦ record { rises = omega (arith, lin, k.0, a.l_second); falls = omega (arith, lin, k.1, s.0, e1, e2, a.g_first) }
      | inr k ↦ record { rises = omega (arith, ints, k.0, s.1, e1, e2, a.l_second); falls = omega (arith, lin, k.1, a.g_second) }
    ]
