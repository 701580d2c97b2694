-- Division that rounds down, and a product divided in two steps.
use Rattle.std.proofs.Common.{◌≡◌, ℕ, ◌+◌, ◌*◌, ◌≤◌, ◌<◌, ℤ, pos, negsuc, ◌+ℤ◌, ◌-ℤ◌, ◌*ℤ◌, neg_ℤ, ◌≤ℤ◌, ◌<ℤ◌, unsigned_abs, ap, ◌∙◌, arith, mul-le-mul, mul-le-mul_right, le_of_mul-le-mul_right}
use Rattle.std.specs.Int.{int_div_euclid, int_rem_euclid}
use Rattle.std.proofs.lemmas.Int.{ints, unsigned_abs-mul}
use Rattle.st_fraction.proofs.Ring.{ring, lin, add-mul_z, mul-neg_z, neg-mul_z}

-- x = q n + r with 0 ≤ r < n
pub record Splits (x q r : ℤ) (n : ℕ) : Type 0 where
  pub split : x ≡ q *ℤ pos n +ℤ r
  pub low : pos 0 ≤ℤ r
  pub high : r <ℤ pos n

pub splits : (x : ℤ) (n : ℕ) → 0 < n → Splits x (int_div_euclid x (pos n)) (int_rem_euclid x (pos n)) n
splits (pos a) n h = record { split = omega (arith, ints); low = omega (arith, ints); high = omega (arith, ints) }
splits (negsuc a) n h = record { split = omega (arith, ints); low = omega (arith, ints); high = omega (arith, ints) }

-- f is the greatest whole number at most x / n
pub record IsFloor (x f : ℤ) (n : ℕ) : Type 0 where
  pub below : (f *ℤ pos n) ≤ℤ x
  pub above : x <ℤ ((f +ℤ pos 1) *ℤ pos n)

pub floor_of_split : (x q r : ℤ) (n : ℕ) → Splits x q r n → IsFloor x q n
floor_of_split x q r n s =
    let e = add-mul_z q (pos 1) (pos n) in
    record { below = omega (arith, ints, s.split); above = omega (arith, ints, s.split) }

-- e y / n in two steps: q y, and the floor of r y / n
pub two_steps : (e q r y f : ℤ) (n : ℕ) → Splits e q r n → IsFloor (r *ℤ y) f n → IsFloor (e *ℤ y) (q *ℤ y +ℤ f) n
two_steps e q r y f n s k =
    let i : e *ℤ y ≡ q *ℤ y *ℤ pos n +ℤ r *ℤ y = ap (λ z. z *ℤ y) s.split ∙ spread q r y (pos n) in
    record { below = low (e *ℤ y) (q *ℤ y) (r *ℤ y) f (pos n) i k.below; above = high (e *ℤ y) (q *ℤ y) (r *ℤ y) f (pos n) i k.above }
  where
    spread : (q r y n : ℤ) → (q *ℤ n +ℤ r) *ℤ y ≡ q *ℤ y *ℤ n +ℤ r *ℤ y
    spread q r y n = simp ring

    low : (x a b f n : ℤ) → x ≡ a *ℤ n +ℤ b → (f *ℤ n) ≤ℤ b → ((a +ℤ f) *ℤ n) ≤ℤ x
    low x a b f n e h = let s = add-mul_z a f n in omega (arith, lin)

    high : (x a b f n : ℤ) → x ≡ a *ℤ n +ℤ b → b <ℤ ((f +ℤ pos 1) *ℤ n) → x <ℤ ((a +ℤ f +ℤ pos 1) *ℤ n)
    high x a b f n e h =
        let s = add-mul_z (a +ℤ f) (pos 1) n in
        let t = add-mul_z a f n in
        let u = add-mul_z f (pos 1) n in
        omega (arith, lin)

-- sizes
pub whole_small : (e q r y : ℤ) (n k j : ℕ) → 0 < n → Splits e q r n → unsigned_abs y ≤ j → unsigned_abs e * unsigned_abs y ≤ k * n → unsigned_abs (q *ℤ y) ≤ k + j
whole_small e q r y n k j some s hy h =
    let a : unsigned_abs q * n ≤ unsigned_abs e + n = part e q r n s in
    let b = mul-le-mul_right (unsigned_abs y) a in
    let d = mul-le-mul_right n hy in
    let m : unsigned_abs (q *ℤ y) * n ≤ (k + j) * n = omega (arith, ap (λ (i : ℕ). i * n) (unsigned_abs-mul q y)) in
    le_of_mul-le-mul_right m some
  where
    part : (e q r : ℤ) (n : ℕ) → Splits e q r n → unsigned_abs q * n ≤ unsigned_abs e + n
    part e (pos q) r n s = omega (arith, ints, s.split)
    part e (negsuc q) r n s = omega (arith, ints, s.split)

pub rest_small : (e q r : ℤ) (n j : ℕ) → Splits e q r n → n ≤ j → unsigned_abs r ≤ j
rest_small e q r n j s h = omega (arith, ints, s.low, s.high)

-- |x| at most j n bounds the floor of x / n
pub floor_small : (x f : ℤ) (n j : ℕ) → 0 < n → IsFloor x f n → unsigned_abs x ≤ j * n → unsigned_abs f ≤ j + 1
floor_small x (pos f) n j some k h =
    let m : f * n ≤ (j + 1) * n = omega (arith, ints, k.below) in
    le_of_mul-le-mul_right m some
floor_small x (negsuc f) n j some k h =
    let e = add-mul_z (negsuc f) (pos 1) (pos n) in
    let m : f * n ≤ j * n = omega (arith, ints, k.above) in
    let l = le_of_mul-le-mul_right m some in
    omega (arith, ints)

-- e y / d as the code finds it
pub record IsTwoSteps (e q r y f d : ℤ) (j k : ℕ) : Type 0 where
  pub first : unsigned_abs (q *ℤ y) ≤ k + j
  pub second : unsigned_abs r ≤ j
  pub third : unsigned_abs f ≤ j + 1
  pub below : ((q *ℤ y +ℤ f) *ℤ d) ≤ℤ (e *ℤ y)
  pub above : (e *ℤ y) <ℤ ((q *ℤ y +ℤ f +ℤ pos 1) *ℤ d)

pub is_two_steps : (e y d : ℤ) (j k : ℕ) → pos 1 ≤ℤ d → d ≤ℤ pos j → unsigned_abs y ≤ j → unsigned_abs e * unsigned_abs y ≤ k * unsigned_abs d
    → IsTwoSteps e (int_div_euclid e d) (int_rem_euclid e d) y (int_div_euclid (int_rem_euclid e d *ℤ y) d) d j k
is_two_steps e y (pos n) j k h1 h2 h3 h4 =
    let some : 0 < n = omega (arith, ints) in
    let q = int_div_euclid e (pos n) in
    let r = int_rem_euclid e (pos n) in
    let s = splits e n some in
    let t = splits (r *ℤ y) n some in
    let f = int_div_euclid (r *ℤ y) (pos n) in
    let fl = floor_of_split (r *ℤ y) f (int_rem_euclid (r *ℤ y) (pos n)) n t in
    let both = two_steps e q r y f n s fl in
    let rn : unsigned_abs r ≤ n = rest_small e q r n n s (omega arith) in
    let ry : unsigned_abs (r *ℤ y) ≤ j * n = omega (arith, unsigned_abs-mul r y, mul-le-mul rn h3) in
    record {
      first = whole_small e q r y n k j some s h3 h4;
      second = rest_small e q r n j s (omega (arith, ints));
      third = floor_small (r *ℤ y) f n j some fl ry;
      below = both.below;
      above = both.above;
    }
is_two_steps e y (negsuc n) j k h1 h2 h3 h4 = absurd (omega (arith, ints))

-- the least whole number at least e y / d, by the greatest at most e (-y) / d
pub ceil_above : (e y f d : ℤ) → (f *ℤ d) ≤ℤ (e *ℤ (pos 0 -ℤ y)) → (e *ℤ y) ≤ℤ ((pos 0 -ℤ f) *ℤ d)
ceil_above e y f d h =
    let y0 : pos 0 -ℤ y ≡ neg_ℤ y = omega (arith, ints) in
    let f0 : pos 0 -ℤ f ≡ neg_ℤ f = omega (arith, ints) in
    let i : e *ℤ (pos 0 -ℤ y) ≡ neg_ℤ (e *ℤ y) = ap (λ z. e *ℤ z) y0 ∙ mul-neg_z e y in
    let j : (pos 0 -ℤ f) *ℤ d ≡ neg_ℤ (f *ℤ d) = ap (λ z. z *ℤ d) f0 ∙ neg-mul_z f d in
    omega (arith, lin)

pub ceil_below : (e y f d : ℤ) → (e *ℤ (pos 0 -ℤ y)) <ℤ ((f +ℤ pos 1) *ℤ d) → ((pos 0 -ℤ f -ℤ pos 1) *ℤ d) <ℤ (e *ℤ y)
ceil_below e y f d h =
    let y0 : pos 0 -ℤ y ≡ neg_ℤ y = omega (arith, ints) in
    let f0 : pos 0 -ℤ f -ℤ pos 1 ≡ neg_ℤ (f +ℤ pos 1) = omega (arith, ints) in
    let i : e *ℤ (pos 0 -ℤ y) ≡ neg_ℤ (e *ℤ y) = ap (λ z. e *ℤ z) y0 ∙ mul-neg_z e y in
    let j : (pos 0 -ℤ f -ℤ pos 1) *ℤ d ≡ neg_ℤ ((f +ℤ pos 1) *ℤ d) = ap (λ z. z *ℤ d) f0 ∙ neg-mul_z (f +ℤ pos 1) d in
    omega (arith, lin)
