-- Linear arithmetic over fractions: each is placed at one scale, as a whole number over it; sums, differences and products
-- are placed by the calls below; `lowered` reads an inequality of fractions as one of whole numbers, which `omega` takes,
-- and `raised` gives it back.
use Rattle.std.proofs.Common.{ℕ, ◌*◌, ◌<◌, ℤ, pos, neg_ℤ, ◌+ℤ◌, ◌*ℤ◌, ◌≤ℤ◌, arith, lit<, mul-pos}
use Rattle.st_fraction.specs.Fraction.{Fraction, ◌≤ᶠ◌, whole, ◌+ᶠ◌, ◌-ᶠ◌, ◌*ᶠ◌}
use Rattle.st_fraction.proofs.Scale.{IsAt, at_add, at_sub, at_mul, at_more, le_at, at_le}
use Rattle.st_fraction.proofs.Linear.{at_one_scale, whole_at, times_at}

-- a is x / m
pub record Placed (m : ℕ) (a : Fraction) (x : ℤ) : Type 0 where
  pub den : 0 < a.den
  pub at : IsAt m a x

pub plus : {m : ℕ} {a b : Fraction} {x y : ℤ} → Placed m a x → Placed m b y → Placed m (a +ᶠ b) (x +ℤ y)
plus {m} {a} {b} {x} {y} h k = record { den = mul-pos h.den k.den; at = at_add m a b x y h.at k.at }

pub minus : {m : ℕ} {a b : Fraction} {x y : ℤ} → Placed m a x → Placed m b y → Placed m (a -ᶠ b) (x +ℤ neg_ℤ y)
minus {m} {a} {b} {x} {y} h k = record { den = mul-pos h.den k.den; at = at_sub m a b x y h.at k.at }

-- a product is placed at the product of the scales, and so is what is to be compared with it
pub product : {m n : ℕ} {a b : Fraction} {x y : ℤ} → Placed m a x → Placed n b y → Placed (m * n) (a *ᶠ b) (x *ℤ y)
product {m} {n} {a} {b} {x} {y} h k = record { den = mul-pos h.den k.den; at = at_mul m n a b x y h.at k.at }

pub finer : {m : ℕ} {a : Fraction} {x : ℤ} (k : ℕ) → Placed m a x → Placed (m * k) a (x *ℤ pos k)
finer {m} {a} {x} k h = record { den = h.den; at = at_more m k a x h.at }

pub number : (k : ℤ) (m : ℕ) → Placed m (whole k) (k *ℤ pos m)
number k m = record { den = lit< tt; at = whole_at k m }

pub times : {m : ℕ} {a : Fraction} {x : ℤ} (k : ℤ) → Placed m a x → Placed m (whole k *ᶠ a) (k *ℤ x)
times {m} {a} {x} k h = record { den = mul-pos (number k m).den h.den; at = times_at k m a x h.at }

pub lowered : {m : ℕ} {a b : Fraction} {x y : ℤ} → Placed m a x → Placed m b y → a ≤ᶠ b → x ≤ℤ y
lowered {m} {a} {b} {x} {y} h k l = at_le m a b x y h.den k.den h.at k.at l

pub raised : {m : ℕ} {a b : Fraction} {x y : ℤ} → 0 < m → Placed m a x → Placed m b y → x ≤ℤ y → a ≤ᶠ b
raised {m} {a} {b} {x} {y} some h k l = le_at m a b x y some h.at k.at l

pub record ArePlaced (a b c d e f g h : Fraction) : Type 0 where
  pub m : ℕ
  pub some : 0 < m
  pub xa : ℤ
  pub xb : ℤ
  pub xc : ℤ
  pub xd : ℤ
  pub xe : ℤ
  pub xf : ℤ
  pub xg : ℤ
  pub xh : ℤ
  pub of_a : Placed m a xa
  pub of_b : Placed m b xb
  pub of_c : Placed m c xc
  pub of_d : Placed m d xd
  pub of_e : Placed m e xe
  pub of_f : Placed m f xf
  pub of_g : Placed m g xg
  pub of_h : Placed m h xh

pub placed : (a b c d e f g h : Fraction) → 0 < a.den → 0 < b.den → 0 < c.den → 0 < d.den → 0 < e.den → 0 < f.den → 0 < g.den → 0 < h.den
    → ArePlaced a b c d e f g h
placed a b c d e f g h pa pb pc pd pe pf pg ph =
    let z = at_one_scale a b c d e f g h pa pb pc pd pe pf pg ph in
    record {
      m = z.m;
      some = z.some;
      xa = z.xa;
      xb = z.xb;
      xc = z.xc;
      xd = z.xd;
      xe = z.xe;
      xf = z.xf;
      xg = z.xg;
      xh = z.xh;
      of_a = record { den = pa; at = z.a_at };
      of_b = record { den = pb; at = z.b_at };
      of_c = record { den = pc; at = z.c_at };
      of_d = record { den = pd; at = z.d_at };
      of_e = record { den = pe; at = z.e_at };
      of_f = record { den = pf; at = z.f_at };
      of_g = record { den = pg; at = z.g_at };
      of_h = record { den = ph; at = z.h_at };
    }
