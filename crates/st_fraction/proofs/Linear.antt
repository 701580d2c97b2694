-- Up to eight fractions at one scale, so that a linear step between them is one of whole numbers: `at_one_scale` gives
-- the scale and the numbers, the lemmas of `Scale` carry sums and comparisons there and back, and `omega` does the rest.
-- Where fewer are wanted, repeat one.
use Rattle.std.proofs.Common.{◌≡◌, ℕ, ◌*◌, ◌<◌, ℤ, pos, ◌+ℤ◌, ◌-ℤ◌, ◌*ℤ◌, refl, sym, arith, mul-pos}
use Rattle.st_fraction.specs.Fraction.{Fraction, whole, ◌+ᶠ◌, ◌*ᶠ◌, IsNear}
use Rattle.st_fraction.proofs.Ring.{lin, mul-one_z}
use Rattle.st_fraction.proofs.Within.{Within}
use Rattle.st_fraction.proofs.Scale.{IsAt, at_self, at_more, at_add, at_mul, le_at, at_le}

-- a fraction at a scale of which its denominator is a factor
pub at_factor : (x : Fraction) (r m : ℕ) → x.den * r ≡ m → IsAt m x (x.num *ℤ pos r)
at_factor x r m e = rw e at (at_more x.den r x x.num (at_self x))

pub whole_at : (k : ℤ) (m : ℕ) → IsAt m (whole k) (k *ℤ pos m)
whole_at k m = record { at = sym (mul-one_z (k *ℤ pos m)) }

-- k times a fraction
pub times_at : (k : ℤ) (m : ℕ) (a : Fraction) (x : ℤ) → IsAt m a x → IsAt m (whole k *ᶠ a) (k *ℤ x)
times_at k m a x h = let i : 1 * m ≡ m = omega arith in rw i at (at_mul 1 m (whole k) a k x (at_self (whole k)) h)

-- two that lie within e of each other
pub near_at : (m : ℕ) (a b e : Fraction) (x y z : ℤ) → 0 < a.den → 0 < b.den → 0 < e.den → IsAt m a x → IsAt m b y → IsAt m e z → IsNear a b e → Within (x -ℤ y) z
near_at m a b e x y z pa pb pe ha hb he n =
    let u = at_le m a (b +ᶠ e) x (y +ℤ z) pa (mul-pos pb pe) ha (at_add m b e y z hb he) n.above in
    let v = at_le m b (a +ᶠ e) y (x +ℤ z) pb (mul-pos pa pe) hb (at_add m a e x z ha he) n.below in
    record { above = omega (arith, lin); below = omega (arith, lin) }

pub at_near : (m : ℕ) (a b e : Fraction) (x y z : ℤ) → 0 < m → IsAt m a x → IsAt m b y → IsAt m e z → Within (x -ℤ y) z → IsNear a b e
at_near m a b e x y z some ha hb he w = record {
  above = le_at m a (b +ᶠ e) x (y +ℤ z) some ha (at_add m b e y z hb he) (omega (arith, lin));
  below = le_at m b (a +ᶠ e) y (x +ℤ z) some hb (at_add m a e x z ha he) (omega (arith, lin));
}

pub record AtOneScale (a b c d e f g h : Fraction) : Type 0 where
  pub m : ℕ
  pub some : 0 < m
  pub xa : ℤ
  pub xb : ℤ
  pub xc : ℤ
  pub xd : ℤ
  pub xe : ℤ
  pub xf : ℤ
  pub xg : ℤ
  pub xh : ℤ
  pub a_at : IsAt m a xa
  pub b_at : IsAt m b xb
  pub c_at : IsAt m c xc
  pub d_at : IsAt m d xd
  pub e_at : IsAt m e xe
  pub f_at : IsAt m f xf
  pub g_at : IsAt m g xg
  pub h_at : IsAt m h xh

pub at_one_scale : (a b c d e f g h : Fraction) → 0 < a.den → 0 < b.den → 0 < c.den → 0 < d.den
    → 0 < e.den → 0 < f.den → 0 < g.den → 0 < h.den → AtOneScale a b c d e f g h
at_one_scale a b c d e f g h pa pb pc pd pe pf pg ph =
    let m = a.den * (b.den * (c.den * (d.den * (e.den * (f.den * (g.den * h.den)))))) in
    let ra = b.den * (c.den * (d.den * (e.den * (f.den * (g.den * h.den))))) in
    let rb = a.den * (c.den * (d.den * (e.den * (f.den * (g.den * h.den))))) in
    let rc = a.den * (b.den * (d.den * (e.den * (f.den * (g.den * h.den))))) in
    let rd = a.den * (b.den * (c.den * (e.den * (f.den * (g.den * h.den))))) in
    let re = a.den * (b.den * (c.den * (d.den * (f.den * (g.den * h.den))))) in
    let rf = a.den * (b.den * (c.den * (d.den * (e.den * (g.den * h.den))))) in
    let rg = a.den * (b.den * (c.den * (d.den * (e.den * (f.den * h.den))))) in
    let rh = a.den * (b.den * (c.den * (d.den * (e.den * (f.den * g.den))))) in
    record {
      m = m;
      some = mul-pos pa (mul-pos pb (mul-pos pc (mul-pos pd (mul-pos pe (mul-pos pf (mul-pos pg ph))))));
      xa = a.num *ℤ pos ra;
      xb = b.num *ℤ pos rb;
      xc = c.num *ℤ pos rc;
      xd = d.num *ℤ pos rd;
      xe = e.num *ℤ pos re;
      xf = f.num *ℤ pos rf;
      xg = g.num *ℤ pos rg;
      xh = h.num *ℤ pos rh;
      a_at = at_factor a ra m refl;
      b_at = at_factor b rb m (omega arith);
      c_at = at_factor c rc m (omega arith);
      d_at = at_factor d rd m (omega arith);
      e_at = at_factor e re m (omega arith);
      f_at = at_factor f rf m (omega arith);
      g_at = at_factor g rg m (omega arith);
      h_at = at_factor h rh m (omega arith);
    }
