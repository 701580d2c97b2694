-- Ways to the words 'at least' and 'at most', and from them: by one long enough n, and by all later partial sums.
use Rattle.std.proofs.Common.{ℕ, ◌+◌, ◌*◌, ◌≤◌, ◌<◌, pos, arith, mul-pos}
use Rattle.st_fraction.specs.Fraction.{Fraction, IsFraction, ◌≤ᶠ◌, ◌<ᶠ◌, whole, ◌+ᶠ◌, abs_f}
use Rattle.st_fraction.proofs.Order.{le_f_refl, le_f_trans, le_f_add, le_f_move, le_of_near}
use Rattle.st_series.specs.Series.{term, sine_sum, cosine_sum, IsLongEnough, sine_lower, sine_upper, cosine_lower, cosine_upper, SineIsAtLeast, SineIsAtMost, CosineIsAtLeast, CosineIsAtMost}
use Rattle.st_series.proofs.Terms.{term-den, sine_sum-den, cosine_sum-den}
use Rattle.st_series.proofs.Sandwich.{sine_within, cosine_within, sine_own, cosine_own, sine_in_order, cosine_in_order, sine_lower-den, sine_upper-den, cosine_lower-den, cosine_upper-den}
use Rattle.st_series.proofs.Narrow.{sine_narrow, cosine_narrow}

-- One long enough n decides.
pub sine_is_at_least : (x a : Fraction) (n : ℕ) → IsFraction x → IsLongEnough x n → a ≤ᶠ sine_lower x n → SineIsAtLeast x a
sine_is_at_least x a n px long h = record {
  at_each = λ m l. le_f_trans a (sine_lower x n) (sine_upper x m) (sine_lower-den x n px.positive) h (sine_in_order x n m px long l);
}

pub sine_is_at_most : (x b : Fraction) (n : ℕ) → IsFraction x → IsLongEnough x n → sine_upper x n ≤ᶠ b → SineIsAtMost x b
sine_is_at_most x b n px long h = record {
  at_each = λ m l. le_f_trans (sine_lower x m) (sine_upper x n) b (sine_upper-den x n px.positive) (sine_in_order x m n px l long) h;
}

pub cosine_is_at_least : (x a : Fraction) (n : ℕ) → IsFraction x → IsLongEnough x n → a ≤ᶠ cosine_lower x n → CosineIsAtLeast x a
cosine_is_at_least x a n px long h = record {
  at_each = λ m l. le_f_trans a (cosine_lower x n) (cosine_upper x m) (cosine_lower-den x n px.positive) h (cosine_in_order x n m px long l);
}

pub cosine_is_at_most : (x b : Fraction) (n : ℕ) → IsFraction x → IsLongEnough x n → cosine_upper x n ≤ᶠ b → CosineIsAtMost x b
cosine_is_at_most x b n px long h = record {
  at_each = λ m l. le_f_trans (cosine_lower x m) (cosine_upper x n) b (cosine_upper-den x n px.positive) (cosine_in_order x m n px l long) h;
}

-- A long enough partial sum exceeds no upper bound by more than the next term, and falls below no lower bound by more.
pub sine_sum_at_most : (x b : Fraction) (n : ℕ) → IsFraction x → 0 < b.den → IsLongEnough x n → SineIsAtMost x b → sine_sum x n ≤ᶠ (b +ᶠ term (abs_f x) (2 * n + 3))
sine_sum_at_most x b n px pb long h =
    let some = px.positive in
    let t = term (abs_f x) (2 * n + 3) in
    let low = sine_lower x n in
    let up = le_f_move (sine_upper x n) low t (sine_lower-den x n some) (sine_narrow x n px) in
    le_f_trans (sine_sum x n) (sine_upper x n) (b +ᶠ t) (sine_upper-den x n some) ((sine_own x n some).1)
    (le_f_trans (sine_upper x n) (low +ᶠ t) (b +ᶠ t) (mul-pos (sine_lower-den x n some) (term-den (abs_f x) (2 * n + 3) some)) up
    (le_f_add low b t t (h.at_each n long) (le_f_refl t)))

pub sine_sum_at_least : (x a : Fraction) (n : ℕ) → IsFraction x → 0 < a.den → IsLongEnough x n → SineIsAtLeast x a → a ≤ᶠ (sine_sum x n +ᶠ term (abs_f x) (2 * n + 3))
sine_sum_at_least x a n px pa long h =
    let some = px.positive in
    let t = term (abs_f x) (2 * n + 3) in
    let low = sine_lower x n in
    let up = le_f_move (sine_upper x n) low t (sine_lower-den x n some) (sine_narrow x n px) in
    le_f_trans a (sine_upper x n) (sine_sum x n +ᶠ t) (sine_upper-den x n some) (h.at_each n long)
    (le_f_trans (sine_upper x n) (low +ᶠ t) (sine_sum x n +ᶠ t) (mul-pos (sine_lower-den x n some) (term-den (abs_f x) (2 * n + 3) some)) up
    (le_f_add low (sine_sum x n) t t ((sine_own x n some).0) (le_f_refl t)))

pub cosine_sum_at_most : (x b : Fraction) (n : ℕ) → IsFraction x → 0 < b.den → IsLongEnough x n → CosineIsAtMost x b → cosine_sum x n ≤ᶠ (b +ᶠ term (abs_f x) (2 * n + 2))
cosine_sum_at_most x b n px pb long h =
    let some = px.positive in
    let t = term (abs_f x) (2 * n + 2) in
    let low = cosine_lower x n in
    let up = le_f_move (cosine_upper x n) low t (cosine_lower-den x n some) (cosine_narrow x n px) in
    le_f_trans (cosine_sum x n) (cosine_upper x n) (b +ᶠ t) (cosine_upper-den x n some) ((cosine_own x n some).1)
    (le_f_trans (cosine_upper x n) (low +ᶠ t) (b +ᶠ t) (mul-pos (cosine_lower-den x n some) (term-den (abs_f x) (2 * n + 2) some)) up
    (le_f_add low b t t (h.at_each n long) (le_f_refl t)))

pub cosine_sum_at_least : (x a : Fraction) (n : ℕ) → IsFraction x → 0 < a.den → IsLongEnough x n → CosineIsAtLeast x a → a ≤ᶠ (cosine_sum x n +ᶠ term (abs_f x) (2 * n + 2))
cosine_sum_at_least x a n px pa long h =
    let some = px.positive in
    let t = term (abs_f x) (2 * n + 2) in
    let low = cosine_lower x n in
    let up = le_f_move (cosine_upper x n) low t (cosine_lower-den x n some) (cosine_narrow x n px) in
    le_f_trans a (cosine_upper x n) (cosine_sum x n +ᶠ t) (cosine_upper-den x n some) (h.at_each n long)
    (le_f_trans (cosine_upper x n) (low +ᶠ t) (cosine_sum x n +ᶠ t) (mul-pos (cosine_lower-den x n some) (term-den (abs_f x) (2 * n + 2) some)) up
    (le_f_add low (cosine_sum x n) t t ((cosine_own x n some).0) (le_f_refl t)))

-- f is in the end at most b, up to every e above 0
pub record IsInTheEndAtMost (f : ℕ → Fraction) (b : Fraction) : Type 0 where
  pub from : (e : Fraction) → IsFraction e → whole (pos 0) <ᶠ e → (n : ℕ) × ((m : ℕ) → n ≤ m → f m ≤ᶠ (b +ᶠ e))

pub record IsInTheEndAtLeast (f : ℕ → Fraction) (a : Fraction) : Type 0 where
  pub from : (e : Fraction) → IsFraction e → whole (pos 0) <ᶠ e → (n : ℕ) × ((m : ℕ) → n ≤ m → a ≤ᶠ (f m +ᶠ e))

-- So it is enough to bound the partial sums in the end.
pub sine_at_most_in_the_end : (x b : Fraction) → IsFraction x → 0 < b.den → IsInTheEndAtMost (sine_sum x) b → SineIsAtMost x b
sine_at_most_in_the_end x b px pb h = record {
  at_each = λ n l. le_of_near (sine_lower x n) b (sine_lower-den x n px.positive) pb (λ e pe some.
      let far = h.from e pe some in
      let m = far.0 + n in
      le_f_trans (sine_lower x n) (sine_sum x m) (b +ᶠ e) (sine_sum-den x m px.positive) ((sine_within x n m px l (omega arith)).0) (far.1 m (omega arith)));
}

pub sine_at_least_in_the_end : (x a : Fraction) → IsFraction x → 0 < a.den → IsInTheEndAtLeast (sine_sum x) a → SineIsAtLeast x a
sine_at_least_in_the_end x a px pa h = record {
  at_each = λ n l. le_of_near a (sine_upper x n) pa (sine_upper-den x n px.positive) (λ e pe some.
      let far = h.from e pe some in
      let m = far.0 + n in
      le_f_trans a (sine_sum x m +ᶠ e) (sine_upper x n +ᶠ e) (mul-pos (sine_sum-den x m px.positive) pe.positive) (far.1 m (omega arith))
      (le_f_add (sine_sum x m) (sine_upper x n) e e ((sine_within x n m px l (omega arith)).1) (le_f_refl e)));
}

pub cosine_at_most_in_the_end : (x b : Fraction) → IsFraction x → 0 < b.den → IsInTheEndAtMost (cosine_sum x) b → CosineIsAtMost x b
cosine_at_most_in_the_end x b px pb h = record {
  at_each = λ n l. le_of_near (cosine_lower x n) b (cosine_lower-den x n px.positive) pb (λ e pe some.
      let far = h.from e pe some in
      let m = far.0 + n in
      le_f_trans (cosine_lower x n) (cosine_sum x m) (b +ᶠ e) (cosine_sum-den x m px.positive) ((cosine_within x n m px l (omega arith)).0) (far.1 m (omega arith)));
}

pub cosine_at_least_in_the_end : (x a : Fraction) → IsFraction x → 0 < a.den → IsInTheEndAtLeast (cosine_sum x) a → CosineIsAtLeast x a
cosine_at_least_in_the_end x a px pa h = record {
  at_each = λ n l. le_of_near a (cosine_upper x n) pa (cosine_upper-den x n px.positive) (λ e pe some.
      let far = h.from e pe some in
      let m = far.0 + n in
      le_f_trans a (cosine_sum x m +ᶠ e) (cosine_upper x n +ᶠ e) (mul-pos (cosine_sum-den x m px.positive) pe.positive) (far.1 m (omega arith))
      (le_f_add (cosine_sum x m) (cosine_upper x n) e e ((cosine_within x n m px l (omega arith)).1) (le_f_refl e)));
}
