-- TT of a TDB value exists: between two fractions that are as close to each other as one likes, by halving.
use Rattle.std.proofs.Common.{◌≡◌, ℕ, zero, suc, ◌+◌, ◌*◌, ◌^◌, ◌≤◌, ◌<◌, ℤ, pos, neg_ℤ, ◌+ℤ◌, ◌*ℤ◌, ◌≤ℤ◌, ◌<ℤ◌, refl, ◌∙◌, arith, lit<, mul-pos}
use Rattle.std.proofs.lemmas.Int.{ints}
use Rattle.st_fraction.specs.Fraction.{Fraction, IsFraction, ◌≤ᶠ◌, ◌<ᶠ◌, whole, ◌+ᶠ◌, ◌-ᶠ◌, ◌*ᶠ◌, IsNear}
use Rattle.st_fraction.proofs.Ring.{lin, le-mul_z, mul-one_z}
use Rattle.st_fraction.proofs.Order.{le_of_lt_f}
use Rattle.st_fraction.proofs.Strict.{lt_at, at_lt}
use Rattle.st_fraction.proofs.Placed.{placed, plus, minus, finer, number, times, lowered, raised}
use Rattle.st_scales.specs.declared.deltet.Deltet.{Deltet}
use Rattle.st_scales.specs.Tdb.{tdb_low, tdb_high, TdbIsAtLeast, TdbIsAtMost}
use Rattle.st_scales.proofs.Step.{IsSlack}
use Rattle.st_scales.proofs.Moves.{tdb_moves_low, tdb_moves_high}
use Rattle.st_scales.proofs.Values.{half, half-den, of_half, half_twice, three, five, tdb_low-den, tdb_high-den, low_end, high_end, tdb_narrows, tdb_agrees, tdb_near}

-- 1 / 2^n
abbrev halved : ℕ → Fraction
halved zero = whole (pos 1)
halved (suc n) = half (halved n)

halved-num : (n : ℕ) → (halved n).num ≡ pos 1
unfolding half
halved-num zero = refl
halved-num (suc n) = mul-one_z (halved n).num ∙ halved-num n

halved-den : (n : ℕ) → n + 1 ≤ (halved n).den
unfolding half
halved-den zero = omega arith
halved-den (suc n) = let i = halved-den n in omega arith

halved_is : (n : ℕ) → IsFraction (halved n)
halved_is n = record { positive = let i = halved-den n in omega arith }

halved_some : (n : ℕ) → whole (pos 0) <ᶠ halved n
halved_some n = record { lt = rw (halved-num n) (let i = (halved_is n).positive in omega (arith, ints)) }

half_some : (p : Fraction) → IsFraction p → whole (pos 0) <ᶠ p → whole (pos 0) <ᶠ half p
half_some p pp h =
    let z = three p p p pp.positive pp.positive pp.positive in
    let n = number (pos 0) z.m in
    let i = at_lt z.m (whole (pos 0)) p _ _ z.some n.at z.of_a.at h in
    let k = finer 2 n in
    let o = of_half z.of_a in
    lt_at (z.m * 2) (whole (pos 0)) (half p) _ _ k.den o.den k.at o.at (omega (arith, ints, i))

-- a TT value whose TDB lies within p of d
record IsFound (c : Deltet) (d p : Fraction) : Type 0 where
  t : Fraction
  t_is : IsFraction t
  at_least : TdbIsAtLeast c t (d -ᶠ p)
  at_most : TdbIsAtMost c t (d +ᶠ p)

closer : (c : Deltet) (d p : Fraction) → IsFraction d → IsFraction p → whole (pos 0) <ᶠ p → IsFound c d p → IsFound c d (half p)
closer c d p pd pp some f =
    let t = f.t in
    let pt = f.t_is in
    let h = half p in
    let ph = half-den p pp in
    let q = half h in
    let pq = half-den h ph in
    let s = tdb_narrows c t q pt pq (half_some h ph (half_some p pp some)) in
    let a = tdb_low c t s.0 in
    let b = tdb_high c t s.0 in
    let pa : IsFraction a = record { positive = tdb_low-den c t s.0 pt } in
    let pb : IsFraction b = record { positive = tdb_high-den c t s.0 pt } in
    let u = t +ᶠ (d -ᶠ a) in
    let pu : IsFraction u = record { positive = mul-pos pt.positive (mul-pos pd.positive pa.positive) } in
    let e = p +ᶠ p in
    let pe : IsFraction e = record { positive = mul-pos pp.positive pp.positive } in
    let z = placed d t a b p h q q pd.positive pt.positive pa.positive pb.positive pp.positive ph.positive pq.positive pq.positive in
    let ou = plus z.of_b (minus z.of_a z.of_c) in
    let two_h = lowered (plus z.of_f z.of_f) z.of_e (half_twice p pp).0 in
    let one_p = lowered z.of_e (plus z.of_f z.of_f) (half_twice p pp).1 in
    let two_q = lowered (plus z.of_g z.of_g) z.of_f (half_twice h ph).0 in
    let one_h = lowered z.of_f (plus z.of_g z.of_g) (half_twice h ph).1 in
    let zero_p = lowered (number (pos 0) z.m) z.of_e (le_of_lt_f (whole (pos 0)) p some) in
    let down = lowered (minus z.of_a z.of_e) z.of_d (tdb_agrees c t (d -ᶠ p) b pt (record { positive = mul-pos pd.positive pp.positive }) pb f.at_least (high_end c t s.0 pt s.1.0)) in
    let up = lowered z.of_c (plus z.of_a z.of_e) (tdb_agrees c t a (d +ᶠ p) pt pa (record { positive = mul-pos pd.positive pp.positive }) (low_end c t s.0 pt s.1.0) f.at_most) in
    let wide = lowered z.of_d (plus z.of_c z.of_g) s.1.1 in
    let near : IsNear t u e = record {
      above = raised z.some z.of_b (plus ou (plus z.of_e z.of_e)) (omega (arith, ints, zero_p, up));
      below = raised z.some ou (plus z.of_b (plus z.of_e z.of_e)) (omega (arith, ints, zero_p, down, wide, one_p, two_h, one_h, two_q));
    } in
    let slack : IsSlack e q = record { enough = raised z.some (plus z.of_e z.of_e) (times (pos (10 ^ 9)) z.of_g) (omega (arith, ints, zero_p, one_p, one_h)) } in
    let few : z.xg ≤ℤ z.xf = omega (arith, ints, zero_p, one_p, one_h, two_q) in
    record {
      t = u;
      t_is = pu;
      at_least = tdb_moves_low c t u e q a (d -ᶠ h) pt pu pe pq pa (record { positive = mul-pos pd.positive ph.positive }) near slack
          (raised z.some (plus (minus z.of_a z.of_f) (plus z.of_b z.of_g)) (plus z.of_c ou) (low_room z.xa z.xb z.xc z.xf z.xg few)) (low_end c t s.0 pt s.1.0);
      at_most = tdb_moves_high c t u e q b (d +ᶠ h) pt pu pe pq pb (record { positive = mul-pos pd.positive ph.positive }) near slack
          (raised z.some (plus z.of_d (plus ou z.of_g)) (plus (plus z.of_a z.of_f) z.of_b) (high_room z.xa z.xb z.xc z.xd z.xf z.xg wide two_q)) (high_end c t s.0 pt s.1.0);
    }
  where
    low_room : (d t a h q : ℤ) → q ≤ℤ h → (d +ℤ neg_ℤ h +ℤ (t +ℤ q)) ≤ℤ (a +ℤ (t +ℤ (d +ℤ neg_ℤ a)))
    low_room d t a h q few = omega (arith, lin)

    high_room : (d t a b h q : ℤ) → b ≤ℤ (a +ℤ q) → (q +ℤ q) ≤ℤ h → (b +ℤ (t +ℤ (d +ℤ neg_ℤ a) +ℤ q)) ≤ℤ (d +ℤ h +ℤ t)
    high_room d t a b h q wide two = omega (arith, lin)

found : (c : Deltet) (d : Fraction) (n : ℕ) → IsFraction d → IsFound c d (halved n)
found c d zero pd = record { t = d; t_is = pd; at_least = (tdb_near c d pd).0; at_most = (tdb_near c d pd).1 }
found c d (suc n) pd = closer c d (halved n) pd (halved_is n) (halved_some n) (found c d n pd)

-- two TT values, e apart, between which TT of d lies
pub record TtIsKnownTo (c : Deltet) (d e : Fraction) : Type 0 where
  pub low : Fraction
  pub high : Fraction
  pub low_is : IsFraction low
  pub high_is : IsFraction high
  pub at_least : TdbIsAtMost c low d
  pub at_most : TdbIsAtLeast c high d
  pub close : high ≤ᶠ (low +ᶠ e)
  pub low_near : d ≤ᶠ (low +ᶠ (whole (pos 1) +ᶠ e))
  pub high_near : high ≤ᶠ (d +ᶠ (whole (pos 1) +ᶠ e))

four_times : (e : Fraction) → whole (pos 0) <ᶠ e → (whole (pos 4) *ᶠ halved (4 * e.den)) ≤ᶠ e
four_times e some = record { le = rw (halved-num (4 * e.den)) (go e.num e.den (halved (4 * e.den)).den (omega (arith, ints, some.lt)) (halved-den (4 * e.den))) }
  where
    go : (n : ℤ) (d k : ℕ) → pos 1 ≤ℤ n → 4 * d + 1 ≤ k → (pos 4 *ℤ pos 1 *ℤ pos d) ≤ℤ (n *ℤ pos (1 * k))
    go n d k h l = omega (arith, ints, le-mul_z (pos 1) n k h)

pub tt_known : (c : Deltet) (d e : Fraction) → IsFraction d → IsFraction e → whole (pos 0) <ᶠ e → TtIsKnownTo c d e
tt_known c d e pd pe some =
    let n = 4 * e.den in
    let r = halved n in
    let pr = halved_is n in
    let f = found c d n pd in
    let t = f.t in
    let pt = f.t_is in
    let p = r +ᶠ r in
    let pp : IsFraction p = record { positive = mul-pos pr.positive pr.positive } in
    let a = t -ᶠ p in
    let b = t +ᶠ p in
    let pa : IsFraction a = record { positive = mul-pos pt.positive pp.positive } in
    let pb : IsFraction b = record { positive = mul-pos pt.positive pp.positive } in
    let z = five d t r e e pd.positive pt.positive pr.positive pe.positive pe.positive in
    let oa = minus z.of_b (plus z.of_c z.of_c) in
    let ob = plus z.of_b (plus z.of_c z.of_c) in
    let zero_r = lowered (number (pos 0) z.m) z.of_c (le_of_lt_f (whole (pos 0)) r (halved_some n)) in
    let small = lowered (times (pos 4) z.of_c) z.of_d (four_times e some) in
    let one = number (pos 1) z.m in
    let close = tdb_near c t pt in
    let under = lowered (minus z.of_a z.of_c) (plus z.of_b one) (tdb_agrees c t (d -ᶠ r) (t +ᶠ whole (pos 1)) pt (record { positive = mul-pos pd.positive pr.positive }) (record { positive = mul-pos pt.positive (lit< tt) }) f.at_least close.1) in
    let over = lowered (minus z.of_b one) (plus z.of_a z.of_c) (tdb_agrees c t (t -ᶠ whole (pos 1)) (d +ᶠ r) pt (record { positive = mul-pos pt.positive (lit< tt) }) (record { positive = mul-pos pd.positive pr.positive }) close.0 f.at_most) in
    let slack : IsSlack p r = record { enough = raised z.some (plus z.of_c z.of_c) (times (pos (10 ^ 9)) z.of_c) (omega (arith, ints, zero_r)) } in
    record {
      low = a;
      high = b;
      low_is = pa;
      high_is = pb;
      at_least = tdb_moves_high c t a p r (d +ᶠ r) d pt pa pp pr (record { positive = mul-pos pd.positive pr.positive }) pd
          (record { above = raised z.some z.of_b (plus oa (plus z.of_c z.of_c)) (omega (arith, lin)); below = raised z.some oa (plus z.of_b (plus z.of_c z.of_c)) (omega (arith, ints, zero_r)) }) slack
          (raised z.some (plus (plus z.of_a z.of_c) (plus oa z.of_c)) (plus z.of_a z.of_b) (omega (arith, lin))) f.at_most;
      at_most = tdb_moves_low c t b p r (d -ᶠ r) d pt pb pp pr (record { positive = mul-pos pd.positive pr.positive }) pd
          (record { above = raised z.some z.of_b (plus ob (plus z.of_c z.of_c)) (omega (arith, ints, zero_r)); below = raised z.some ob (plus z.of_b (plus z.of_c z.of_c)) (omega (arith, lin)) }) slack
          (raised z.some (plus z.of_a (plus z.of_b z.of_c)) (plus (minus z.of_a z.of_c) ob) (omega (arith, lin))) f.at_least;
      close = raised z.some ob (plus oa z.of_d) (omega (arith, ints, small));
      low_near = raised z.some z.of_a (plus oa (plus one z.of_d)) (omega (arith, ints, small, under, zero_r));
      high_near = raised z.some ob (plus z.of_a (plus one z.of_d)) (omega (arith, ints, small, over, zero_r));
    }
