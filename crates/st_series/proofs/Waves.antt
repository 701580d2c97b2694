-- The signs of the series of cosine and of sine, degree by degree: 1, 0, -1, 0, .. and 0, 1, 0, -1, .., the two parts of
-- the powers of the imaginary unit. With them both partial sums run over the same degrees.
use Rattle.std.proofs.Common.{◌≡◌, ℕ, zero, suc, ◌+◌, ◌*◌, ℤ, pos, ◌+ℤ◌, ◌*ℤ◌, neg_ℤ, refl, ap, ◌∙◌, arith}
use Rattle.std.proofs.lemmas.Int.{ints}
use Rattle.st_fraction.proofs.Ring.{ring, lin, neg-mul_z, one-mul_z}
use Rattle.st_fraction.proofs.Within.{Within, within_neg}
use Rattle.st_fraction.proofs.Sums.{upto}
use Rattle.st_series.specs.Series.{turned}
use Rattle.st_series.proofs.Terms.{sine_of, cosine_of}

abbrev pub wave_c : ℕ → ℤ
wave_c zero = pos 1
wave_c (suc zero) = pos 0
wave_c (suc (suc d)) = neg_ℤ (wave_c d)

abbrev pub wave_s : ℕ → ℤ
wave_s zero = pos 0
wave_s (suc zero) = pos 1
wave_s (suc (suc d)) = neg_ℤ (wave_s d)

pub wave_s-suc : (d : ℕ) → wave_s (suc d) ≡ wave_c d
wave_s-suc zero = refl
wave_s-suc (suc zero) = refl
wave_s-suc (suc (suc d)) = ap neg_ℤ (wave_s-suc d)

pub wave_c-suc : (d : ℕ) → wave_c (suc d) ≡ neg_ℤ (wave_s d)
wave_c-suc zero = refl
wave_c-suc (suc zero) = refl
wave_c-suc (suc (suc d)) = ap neg_ℤ (wave_c-suc d)

pub record AddWaves (a b : ℕ) : Type 0 where
  pub sine : wave_s (a + b) ≡ wave_s a *ℤ wave_c b +ℤ wave_c a *ℤ wave_s b
  pub cosine : wave_c (a + b) ≡ wave_c a *ℤ wave_c b +ℤ neg_ℤ (wave_s a *ℤ wave_s b)

pub add_waves : (a b : ℕ) → AddWaves a b
add_waves zero b =
    let e : 0 + b ≡ b = omega arith in
    record {
      sine = rw e (omega (arith, ints));
      cosine = rw e (omega (arith, ints));
    }
add_waves (suc a) b =
    let ih = add_waves a b in
    let e : suc a + b ≡ suc (a + b) = omega arith in
    record {
      sine = rw (e, wave_s-suc (a + b), wave_s-suc a, wave_c-suc a, ih.cosine) (turn_s (wave_s a) (wave_c a) (wave_s b) (wave_c b));
      cosine = rw (e, wave_c-suc (a + b), wave_s-suc a, wave_c-suc a, ih.sine) (turn_c (wave_s a) (wave_c a) (wave_s b) (wave_c b));
    }
  where
    turn_s : (s c t d : ℤ) → c *ℤ d +ℤ neg_ℤ (s *ℤ t) ≡ c *ℤ d +ℤ neg_ℤ s *ℤ t
    turn_s s c t d = simp ring

    turn_c : (s c t d : ℤ) → neg_ℤ (s *ℤ d +ℤ c *ℤ t) ≡ neg_ℤ s *ℤ d +ℤ neg_ℤ (c *ℤ t)
    turn_c s c t d = simp ring

pub wave_s-within : (d : ℕ) → Within (wave_s d) (pos 1)
wave_s-within zero = record { above = omega (arith, ints); below = omega (arith, ints) }
wave_s-within (suc zero) = record { above = omega (arith, ints); below = omega (arith, ints) }
wave_s-within (suc (suc d)) = within_neg (wave_s d) (pos 1) (wave_s-within d)

pub wave_c-within : (d : ℕ) → Within (wave_c d) (pos 1)
wave_c-within zero = record { above = omega (arith, ints); below = omega (arith, ints) }
wave_c-within (suc zero) = record { above = omega (arith, ints); below = omega (arith, ints) }
wave_c-within (suc (suc d)) = within_neg (wave_c d) (pos 1) (wave_c-within d)

record Turned (n : ℕ) : Type 0 where
  s_even : wave_s (2 * n) ≡ pos 0
  c_odd : wave_c (2 * n + 1) ≡ pos 0
  c_even : (z : ℤ) → wave_c (2 * n) *ℤ z ≡ turned n z
  s_odd : (z : ℤ) → wave_s (2 * n + 1) *ℤ z ≡ turned n z

turned_waves : (n : ℕ) → Turned n
turned_waves zero = record { s_even = refl; c_odd = refl; c_even = λ z. one-mul_z z; s_odd = λ z. one-mul_z z }
turned_waves (suc n) =
    let ih = turned_waves n in
    let e : 2 * suc n ≡ suc (suc (2 * n)) = omega arith in
    let o : 2 * suc n + 1 ≡ suc (suc (2 * n + 1)) = omega arith in
    record {
      s_even = rw e (ap neg_ℤ ih.s_even);
      c_odd = rw o (ap neg_ℤ ih.c_odd);
      c_even = λ z. rw e (neg-mul_z (wave_c (2 * n)) z ∙ ap neg_ℤ (ih.c_even z));
      s_odd = λ z. rw o (neg-mul_z (wave_s (2 * n + 1)) z ∙ ap neg_ℤ (ih.s_odd z));
    }

pub sine_waves : (f : ℕ → ℤ) (n : ℕ) → upto (λ d. wave_s d *ℤ f d) (2 * n + 1) ≡ sine_of f n
sine_waves f zero = omega (arith, ints)
sine_waves f (suc n) =
    let ih = sine_waves f n in
    let t = turned_waves (suc n) in
    let o : 2 * suc n + 1 ≡ suc (suc (2 * n + 1)) = omega arith in
    let e : 2 * suc n ≡ suc (2 * n + 1) = omega arith in
    let a : wave_s (suc (2 * n + 1)) ≡ pos 0 = rw e at t.s_even in
    let b : wave_s (suc (suc (2 * n + 1))) *ℤ f (suc (suc (2 * n + 1))) ≡ turned (suc n) (f (suc (suc (2 * n + 1)))) =
    rw o at (t.s_odd (f (suc (suc (2 * n + 1))))) in
    let c : wave_s (suc (2 * n + 1)) *ℤ f (suc (2 * n + 1)) ≡ pos 0 = rw a (omega (arith, ints)) in
    rw o (omega (arith, lin))

pub cosine_waves : (f : ℕ → ℤ) (n : ℕ) → upto (λ d. wave_c d *ℤ f d) (2 * n + 1) ≡ cosine_of f n
cosine_waves f zero = omega (arith, ints)
cosine_waves f (suc n) =
    let ih = cosine_waves f n in
    let t = turned_waves (suc n) in
    let o : 2 * suc n + 1 ≡ suc (suc (2 * n + 1)) = omega arith in
    let e : 2 * suc n ≡ suc (2 * n + 1) = omega arith in
    let a : wave_c (suc (suc (2 * n + 1))) ≡ pos 0 = rw o at t.c_odd in
    let b : wave_c (suc (2 * n + 1)) *ℤ f (suc (2 * n + 1)) ≡ turned (suc n) (f (suc (2 * n + 1))) =
    rw e at (t.c_even (f (suc (2 * n + 1)))) in
    let c : wave_c (suc (suc (2 * n + 1))) *ℤ f (suc (suc (2 * n + 1))) ≡ pos 0 = rw a (omega (arith, ints)) in
    rw (o, e) (omega (arith, lin))
