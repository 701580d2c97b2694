-- What a chain shows: by doubling, each row has the sine and the cosine of the angle that is reached there, and the last one
-- has the sine of what is near.
use Rattle.std.proofs.Common.{◌≡◌, ℕ, zero, suc, ◌+◌, ◌-◌, ◌*◌, ◌^◌, ◌<◌, ◌≤◌, max, List, [], ◌∷◌, length, Some, None, ℤ, pos, neg_ℤ, ◌+ℤ◌, ◌-ℤ◌, ◌*ℤ◌, ◌≤ℤ◌, unsigned_abs, refl, sym, ap, ◌∙◌, subst, arith, lit<}
use Rattle.std.specs.Prelude.{slice_get}
use Rattle.std.specs.List.{All}
use Rattle.std.proofs.Math.Nat.{pow-suc}
use Rattle.std.proofs.lemmas.Int.{ints}
use Rattle.std.proofs.lemmas.Option.{slice_get_within}
use Rattle.st_fraction.specs.Fraction.{Fraction, IsFraction, ◌≤ᶠ◌, units, ◌+ᶠ◌, ◌-ᶠ◌, ◌*ᶠ◌, LiesWithin, IsNear}
use Rattle.st_fraction.proofs.Order.{le_f_refl, le_f_trans, le_f_add}
use Rattle.st_fraction.proofs.Placed.{plus, raised}
use Rattle.st_fraction.proofs.Ring.{mul-one_z}
use Rattle.st_enclosure.specs.Ends.{EndsAtMost}
use Rattle.st_enclosure.specs.Interval.{◌*ᵢ◌, Contains}
use Rattle.st_enclosure.specs.declared.interval.Interval.{Interval}
use Rattle.st_enclosure.proofs.Contained.{sum_lies, difference_lies}
use Rattle.st_enclosure.proofs.Exact.{product_contains}
use Rattle.st_series.specs.Series.{sine_lower, sine_upper, cosine_lower, cosine_upper}
use Rattle.st_series.specs.Enclosed.{HasSine, HasCosine}
use Rattle.st_sine.proofs.Added.{has_sine_added, has_cosine_added, product_turned}
use Rattle.st_sine.proofs.Carried.{has_sine_near}
use Rattle.st_series.proofs.SmallBounds.{has_small_sine, has_small_cosine}
use Rattle.st_scales.proofs.Units.{units_rise, units_are}
use Rattle.st_scales.proofs.Step.{of_units}
use Rattle.st_certs.specs.Sound.{doubled, small_row, HasRow, IsSpan, IsRow, IsChain, HasBase, HasStep, reached, distance, sine_in, shown}
use Rattle.st_certs.specs.declared.certificate.Row.{Row}
use Rattle.st_certs.specs.declared.certificate.SineChain.{SineChain}

-- the row has sine and cosine of z units
pub record IsRowOf (r : Row) (z : ℤ) : Type 0 where
  pub sine : HasSine r.sine.lo r.sine.hi (units z)
  pub cosine : HasCosine r.cosine.lo r.cosine.hi (units z)

wider_sine : (a b : Interval) (x : Fraction) → Contains a b → HasSine b.lo b.hi x → HasSine a.lo a.hi x
wider_sine a b x k h = record {
  at_least = record { at_each = λ n l. le_f_trans (units a.lo) (units b.lo) (sine_upper x n) (lit< tt) (units_rise a.lo b.lo k.from) (h.at_least.at_each n l) };
  at_most = record { at_each = λ n l. le_f_trans (sine_lower x n) (units b.hi) (units a.hi) (lit< tt) (h.at_most.at_each n l) (units_rise b.hi a.hi k.to) };
}

wider_cosine : (a b : Interval) (x : Fraction) → Contains a b → HasCosine b.lo b.hi x → HasCosine a.lo a.hi x
wider_cosine a b x k h = record {
  at_least = record { at_each = λ n l. le_f_trans (units a.lo) (units b.lo) (cosine_upper x n) (lit< tt) (units_rise a.lo b.lo k.from) (h.at_least.at_each n l) };
  at_most = record { at_each = λ n l. le_f_trans (cosine_lower x n) (units b.hi) (units a.hi) (lit< tt) (h.at_most.at_each n l) (units_rise b.hi a.hi k.to) };
}

pub wider_row : (a b : Row) (z : ℤ) → HasRow a b → IsRowOf b z → IsRowOf a z
wider_row a b z k h = record { sine = wider_sine a.sine b.sine (units z) k.sine h.sine; cosine = wider_cosine a.cosine b.cosine (units z) k.cosine h.cosine }

pub span_ends : (a : Interval) → IsSpan a → EndsAtMost a.lo a.hi (2 * 10 ^ 18)
span_ends a h = let l = h.low in let u = h.high in record { low = omega (arith, ints); high = omega (arith, ints) }

doubled_has : (r : Row) (z : ℤ) → IsRow r → IsRowOf r z → IsRowOf (doubled r) (z +ℤ z)
doubled_has r z range h =
    let s = r.sine in
    let c = r.cosine in
    let so = range.sine.order in
    let co = range.cosine.order in
    let se = span_ends s range.sine in
    let ce = span_ends c range.cosine in
    let p = s *ᵢ c in
    let q = c *ᵢ c in
    let t = s *ᵢ s in
    record {
      sine = has_sine_added z z s.lo s.hi c.lo c.hi s.lo s.hi c.lo c.hi (p.lo +ℤ p.lo) (p.hi +ℤ p.hi) so co so co se ce se ce h.sine h.cosine h.sine h.cosine
          (λ a b d e ha hb hd he. sum_lies p.lo p.hi p.lo p.hi (a *ᶠ e) (b *ᶠ d) (product_contains s c a e ha he) (product_turned p.lo p.hi d b (product_contains s c d b hd hb)));
      cosine = has_cosine_added z z s.lo s.hi c.lo c.hi s.lo s.hi c.lo c.hi (q.lo -ℤ t.hi) (q.hi -ℤ t.lo) so co so co se ce se ce h.sine h.cosine h.sine h.cosine
          (λ a b d e ha hb hd he. difference_lies q.lo q.hi t.lo t.hi (b *ᶠ e) (a *ᶠ d) (product_contains c c b e hb he) (product_contains s s a d ha hd));
    }

-- base and steps of a chain, without their places among the rules
pub record Holds (d : SineChain) : Type 0 where
  pub some : 1 ≤ length d.rows
  pub base : HasBase d
  pub step : (j : ℕ) → HasStep (suc j) d

pub got_before : {X : Type 0} (xs : List X) (j : ℕ) (x : X) → slice_get xs (suc j) ≡ Some x → (y : X) × (slice_get xs j ≡ Some y)
got_before [] j x e = absurd (cc)
got_before (a ∷ xs) zero x e = (a, refl)
got_before (a ∷ xs) (suc j) x e = got_before xs j x e

pub got_in : {X : Type 0} (P : X → Type 0) (xs : List X) (j : ℕ) (x : X) → All P xs → slice_get xs j ≡ Some x → P x
got_in P [] j x h e = absurd (cc)
got_in P (a ∷ xs) zero x h e = let same : a ≡ x = cc in subst P same (h 0 a (omega arith))
got_in P (a ∷ xs) (suc j) x h e = got_in P xs j x (λ k d l. h (suc k) d (omega (arith, l))) e

twice_power : (start : ℤ) (i : ℕ) → start *ℤ pos (2 ^ suc i) ≡ start *ℤ pos (2 ^ i) +ℤ start *ℤ pos (2 ^ i)
twice_power start i = rw (pow-suc 2 i) (go start (2 ^ i))
  where
    go : (s : ℤ) (p : ℕ) → s *ℤ pos (p * 2) ≡ s *ℤ pos p +ℤ s *ℤ pos p
    go s p = omega (arith, ints)

small_has : (x : ℤ) → unsigned_abs x ≤ 2 * 10 ^ 18 → IsRowOf (small_row x) x
small_has x h = record { sine = has_small_sine x h; cosine = has_small_cosine x h }

row_of : (d : SineChain) → IsChain d → Holds d → (j : ℕ) (r : Row) → slice_get d.rows j ≡ Some r → IsRowOf r (d.x *ℤ pos (2 ^ j))
row_of d range h zero r e =
    let one : d.x *ℤ pos (2 ^ 0) ≡ d.x = mul-one_z d.x in
    rw one (wider_row r (small_row d.x) d.x (h.base r e) (small_has d.x range.x))
row_of d range h (suc j) r e =
    let b = got_before d.rows j r e in
    let z = d.x *ℤ pos (2 ^ j) in
    let ih = row_of d range h j b.0 b.1 in
    let twice = doubled_has b.0 z (got_in IsRow d.rows j b.0 range.rows b.1) ih in
    rw (twice_power d.x j) (wider_row r (doubled b.0) (z +ℤ z) (h.step j j b.0 r refl b.1 e) twice)

pub last_row : (rows : List Row) → 1 ≤ length rows → (r : Row) × (slice_get rows (length rows - 1) ≡ Some r)
last_row [] h = absurd (omega (arith, h))
last_row (a ∷ []) h = (a, refl)
last_row (a ∷ b ∷ rows) h =
    let more = last_row (b ∷ rows) (omega arith) in
    let same : length (a ∷ b ∷ rows) - 1 ≡ suc (length (b ∷ rows) - 1) = omega arith in
    (more.0, rw same more.1)

near_ends : (lo hi z e : ℤ) (y : Fraction) → z ≤ℤ (lo +ℤ e) → hi ≤ℤ (z +ℤ e) → LiesWithin lo hi y → IsNear (units z) y (units e)
near_ends lo hi z e y h k w = record {
  above = le_f_trans (units z) (units lo +ᶠ units e) (y +ᶠ units e) (lit< tt) (raised (lit< tt) (of_units z) (plus (of_units lo) (of_units e)) h)
      (le_f_add (units lo) y (units e) (units e) w.from (le_f_refl (units e)));
  below = le_f_trans y (units hi) (units z +ᶠ units e) (lit< tt) w.to (raised (lit< tt) (of_units hi) (plus (of_units z) (of_units e)) k);
}

near_by : (lo hi z : ℤ) (y : Fraction) → LiesWithin lo hi y → IsNear (units z) y (units (pos (max (unsigned_abs (lo -ℤ z)) (unsigned_abs (hi -ℤ z)))))
near_by lo hi z y w =
    let e = max (unsigned_abs (lo -ℤ z)) (unsigned_abs (hi -ℤ z)) in
    near_ends lo hi z (pos e) y (first lo hi z) (second lo hi z) w
  where
    first : (lo hi z : ℤ) → z ≤ℤ (lo +ℤ pos (max (unsigned_abs (lo -ℤ z)) (unsigned_abs (hi -ℤ z))))
    first lo hi z = omega (arith, ints)

    second : (lo hi z : ℤ) → hi ≤ℤ (z +ℤ pos (max (unsigned_abs (lo -ℤ z)) (unsigned_abs (hi -ℤ z))))
    second lo hi z = omega (arith, ints)

pub chain_shows : (d : SineChain) (a : Interval) (y : Fraction) → IsChain d → Holds d → IsFraction y → LiesWithin a.lo a.hi y → HasSine (shown d a).lo (shown d a).hi y
chain_shows d a y range h py within =
    let last = last_row d.rows h.some in
    let r = last.0 in
    let row = row_of d range h (length d.rows - 1) r last.1 in
    let by = pos (distance d a) in
    let near = has_sine_near r.sine.lo r.sine.hi by (units (reached d)) y (units_are (reached d)) py (near_by a.lo a.hi (reached d) y within) row.sine in
    rw last.1 near

pub shown_order : (d : SineChain) (a : Interval) → IsChain d → 1 ≤ length d.rows → (shown d a).lo ≤ℤ (shown d a).hi
shown_order d a range some =
    let last = last_row d.rows some in
    let r = got_in IsRow d.rows (length d.rows - 1) last.0 range.rows last.1 in
    rw last.1 (go last.0.sine.lo last.0.sine.hi (distance d a) r.sine.order)
  where
    go : (lo hi : ℤ) (n : ℕ) → lo ≤ℤ hi → (lo -ℤ pos n) ≤ℤ (hi +ℤ pos n)
    go lo hi n h = omega (arith, ints, h)
