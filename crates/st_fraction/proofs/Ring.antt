-- Whole numbers are a commutative ring, and its order goes along with sums and with products by what is not negative.
--
--     ring     `simp ring` brings a term of sums, products and negatives into one form: it proves each identity of
--              a commutative ring, over variables of ℤ. `pos a *ℤ pos b` computes to `pos (a * b)`, so state an
--              identity over plain variables first, and give it `pos ..` afterwards
--     numerals the numerals 0 to 3; put before `ring`, as in `simp (numerals, ring)`
--     lin      for `omega (arith, lin)`: linear facts, to which a product is an unknown
use Rattle.std.proofs.Common.{◌≡◌, ℕ, suc, ◌+◌, ◌*◌, ◌≤◌, ◌<◌, ℤ, pos, negsuc, ◌+ℤ◌, ◌*ℤ◌, neg_ℤ, unsigned_abs, ◌≤ℤ◌, ◌<ℤ◌, refl, sym, ap, ◌∙◌, arith, mul-le-mul_right, le_of_mul-le-mul_right}
use Rattle.std.proofs.lemmas.Int.{ints, by_lt_z}
use Rattle.std.proofs.Math.IntN.{*ℤ_comm, +ℤ_comm, +ℤ_assoc, +ℤ_idl, +ℤ_idr, *ℤ-zero, zero-*ℤ, neg_ℤ-+ℤ, neg_ℤ-neg_ℤ, suc_ℤ-*ℤ}
use borrow.Author.Differences.{up, down, same_out, Apart-out, lt_out, le_out, below_in, at_most_in, abs_is, same_in, sum_is_lem, neg_is, product_is}

pub mul_assoc_z : (a b c : ℤ) → (a *ℤ b) *ℤ c ≡ a *ℤ (b *ℤ c)
mul_assoc_z a b c =
    let p = product_is a b in
    let q = product_is b c in
    same_in _ _ (omega (
      arith,
      product_is (a *ℤ b) c,
      product_is a (b *ℤ c),
      ap (λ (n : ℕ). n * up c) p.0,
      ap (λ (n : ℕ). n * down c) p.1,
      ap (λ (n : ℕ). n * down c) p.0,
      ap (λ (n : ℕ). n * up c) p.1,
      ap (λ (n : ℕ). up a * n) q.0,
      ap (λ (n : ℕ). down a * n) q.1,
      ap (λ (n : ℕ). down a * n) q.0,
      ap (λ (n : ℕ). up a * n) q.1,
    ))

pub add-mul_z : (a b c : ℤ) → (a +ℤ b) *ℤ c ≡ a *ℤ c +ℤ b *ℤ c
add-mul_z a b c = let s = sum_is_lem a b in omega (arith, ints, ap (λ (n : ℕ). n * up c) s, ap (λ (n : ℕ). n * down c) s)

pub neg-mul_z : (a b : ℤ) → neg_ℤ a *ℤ b ≡ neg_ℤ (a *ℤ b)
neg-mul_z a b =
    let s = neg_is a in
    omega (arith, ints, ap (λ (n : ℕ). n * up b) s.0, ap (λ (n : ℕ). n * down b) s.1, ap (λ (n : ℕ). n * down b) s.0, ap (λ (n : ℕ). n * up b) s.1)

pub mul-add_z : (a b c : ℤ) → a *ℤ (b +ℤ c) ≡ a *ℤ b +ℤ a *ℤ c
mul-add_z a b c = *ℤ_comm a (b +ℤ c) ∙ add-mul_z b c a ∙ ap (λ z. z +ℤ c *ℤ a) (*ℤ_comm b a) ∙ ap (λ z. a *ℤ b +ℤ z) (*ℤ_comm c a)

pub mul-neg_z : (a b : ℤ) → a *ℤ neg_ℤ b ≡ neg_ℤ (a *ℤ b)
mul-neg_z a b = *ℤ_comm a (neg_ℤ b) ∙ neg-mul_z b a ∙ ap neg_ℤ (*ℤ_comm b a)

pub mul_left_comm_z : (a b c : ℤ) → a *ℤ (b *ℤ c) ≡ b *ℤ (a *ℤ c)
mul_left_comm_z a b c = sym (mul_assoc_z a b c) ∙ ap (λ z. z *ℤ c) (*ℤ_comm a b) ∙ mul_assoc_z b a c

pub add_left_comm_z : (a b c : ℤ) → a +ℤ (b +ℤ c) ≡ b +ℤ (a +ℤ c)
add_left_comm_z a b c = omega (arith, ints)

pub one-mul_z : (a : ℤ) → pos 1 *ℤ a ≡ a
one-mul_z a = omega (arith, ints)

pub mul-one_z : (a : ℤ) → a *ℤ pos 1 ≡ a
mul-one_z a = omega (arith, ints)

pub two-mul_z : (a : ℤ) → pos 2 *ℤ a ≡ a +ℤ a
two-mul_z a = omega (arith, ints)

pub three-mul_z : (a : ℤ) → pos 3 *ℤ a ≡ a +ℤ a +ℤ a
three-mul_z a = omega (arith, ints)

pub ruleset ring = (mul_assoc_z, *ℤ_comm, mul_left_comm_z, add-mul_z, mul-add_z, neg-mul_z, mul-neg_z, neg_ℤ-+ℤ, neg_ℤ-neg_ℤ, +ℤ_assoc, +ℤ_comm, add_left_comm_z)

pub ruleset numerals = (zero-*ℤ, *ℤ-zero, one-mul_z, mul-one_z, +ℤ_idl, +ℤ_idr, two-mul_z, three-mul_z)

pub ruleset lin = (same_out, Apart-out, lt_out, le_out, same_in, below_in, at_most_in, sum_is_lem, neg_is, abs_is)

pub le-mul_z : (a b : ℤ) (n : ℕ) → a ≤ℤ b → (a *ℤ pos n) ≤ℤ (b *ℤ pos n)
le-mul_z a b n h = omega (arith, ints, mul-le-mul_right n (le_out a b h))

pub le-mul_nonneg : (a b c : ℤ) → a ≤ℤ b → pos 0 ≤ℤ c → (a *ℤ c) ≤ℤ (b *ℤ c)
le-mul_nonneg a b (pos n) h k = le-mul_z a b n h
le-mul_nonneg a b (negsuc n) h k = absurd (omega (arith, ints))

pub le_cancel_z : (a b : ℤ) (n : ℕ) → 0 < n → (a *ℤ pos n) ≤ℤ (b *ℤ pos n) → a ≤ℤ b
le_cancel_z a b n p h =
    let m : (up a + down b) * n ≤ (up b + down a) * n = omega (arith, ints) in
    omega (arith, ints, le_of_mul-le-mul_right m p)

pub cancel_z : (a b : ℤ) (n : ℕ) → 0 < n → a *ℤ pos n ≡ b *ℤ pos n → a ≡ b
cancel_z a b n p e =
    let l = le_cancel_z a b n p (omega (arith, lin)) in
    let r = le_cancel_z b a n p (omega (arith, lin)) in
    omega (arith, lin)

pub lt-mul_z : (a b : ℤ) (n : ℕ) → 0 < n → a <ℤ b → (a *ℤ pos n) <ℤ (b *ℤ pos n)
lt-mul_z a b n p h =
    let m = le-mul_z (a +ℤ pos 1) b n (omega (arith, ints)) in
    let d = add-mul_z a (pos 1) (pos n) in
    omega (arith, ints)

pub lt_cancel_z : (a b : ℤ) (n : ℕ) → (a *ℤ pos n) <ℤ (b *ℤ pos n) → a <ℤ b
lt_cancel_z a b n h = by_lt_z a b (λ (l : a <ℤ b). l) (λ (k : b ≤ℤ a). let m = le-mul_z b a n k in absurd (omega (arith, lin)))

pub suc-mul_z : (n : ℕ) (z : ℤ) → pos (suc n) *ℤ z ≡ pos n *ℤ z +ℤ z
suc-mul_z n z = suc_ℤ-*ℤ (pos n) z

pub mul-pos_z : (x : ℤ) (a b : ℕ) → x *ℤ pos (a * b) ≡ pos a *ℤ (pos b *ℤ x)
mul-pos_z x a b = *ℤ_comm x (pos (a * b)) ∙ mul_assoc_z (pos a) (pos b) x

pub square_abs : (z : ℤ) → z *ℤ z ≡ pos (unsigned_abs z * unsigned_abs z)
square_abs (pos n) = refl
square_abs (negsuc n) = refl
