use Rattle.std.proofs.Common.{◌≡◌, ℕ, ℤ, pos, ◌%◌, ◌^◌, ◌<◌, true, false, inl, inr, nat_eq, IsTrue, to_z, of_z, w32, to_z-of_z, refl, sym, ap, ◌∙◌, arith}
use Rattle.std.specs.Prelude.{unsigned_abs}
use Rattle.std.specs.Int.{w128}
use Rattle.std.specs.Int.Signed.{le_z}
use Rattle.std.proofs.lemmas.Bool.Decides.{nat_tests}
use Rattle.std.proofs.lemmas.Bool.{cases_Bool}
use Rattle.st_decimal.proofs.ScalingLaws.{power_some}
use Rattle.st_ticks.proofs.WholeLaws.{IsWholeAt, zero_whole, tens_whole, far_not, part_not, part_whole, power_fits}
use Rattle.st_ticks.proofs.whole.is_scaled_whole.Goals as goal

pub returns-then-size-eq0 : goal.returns-then-size-eq0
returns-then-size-eq0 c =
    let d : to_z w128 (of_z w128 c.args.digits) ≡ c.args.digits = to_z-of_z c.ranges.digits in
    let size : unsigned_abs c.args.digits ≡ 0 = ap (λ (z : ℤ). unsigned_abs z) (sym d) ∙ sym c.unsigned_abs-size.ensures.value ∙ c.if-size-eq0.true in
    let whole = zero_whole c.args.digits c.args.tens size in
    (λ h. whole, λ h. refl)

pub returns-then-tens-ge0 : goal.returns-then-tens-ge0
returns-then-tens-ge0 c =
    let t : to_z w32 (of_z w32 c.args.tens) ≡ c.args.tens = to_z-of_z c.ranges.tens in
    let whole = tens_whole c.args.digits c.args.tens (ap (λ (z : ℤ). le_z (pos 0) z) (sym t) ∙ c.if-tens-ge0.true) in
    (λ h. whole, λ h. refl)

some : (n m : ℕ) → (n ≡ 0 → ⊥) → n ≡ m → 0 < m
some n m h e = omega (arith, h, e)

pub returns-then-places-gt-MOST_PLACES : goal.returns-then-places-gt-MOST_PLACES
returns-then-places-gt-MOST_PLACES c =
    let d : to_z w128 (of_z w128 c.args.digits) ≡ c.args.digits = to_z-of_z c.ranges.digits in
    let t : to_z w32 (of_z w32 c.args.tens) ≡ c.args.tens = to_z-of_z c.ranges.tens in
    let size : c.unsigned_abs-size.result ≡ unsigned_abs c.args.digits = c.unsigned_abs-size.ensures.value ∙ ap (λ (z : ℤ). unsigned_abs z) d in
    let places : c.unsigned_abs-places.result ≡ unsigned_abs c.args.tens = c.unsigned_abs-places.ensures.value ∙ ap (λ (z : ℤ). unsigned_abs z) t in
    let below : le_z (pos 0) c.args.tens ≡ false = ap (λ (z : ℤ). le_z (pos 0) z) (sym t) ∙ c.if-tens-ge0.false in (
      λ h. absurd (let e : false ≡ true = h in cc),
      λ w. absurd (far_not c.args.digits c.args.tens (some c.unsigned_abs-size.result (unsigned_abs c.args.digits) c.if-size-eq0.false size) (omega (arith, size)) below (omega (arith, places)) w),
    )

pub pow-requires : goal.pow-requires
pow-requires c = power_fits c.unsigned_abs-places.result (omega arith)

pub nonzero_rem-result : goal.nonzero_rem-result
nonzero_rem-result c = power_above c.pow.result c.unsigned_abs-places.result c.pow.ensures
  where
    power_above : (p k : ℕ) → p ≡ 10 ^ k → 0 < p
    power_above p k e = omega (arith, e, power_some k)

is_zero : (n : ℕ) → nat_eq n 0 ≡ true → n ≡ 0
is_zero n h = grind (arith, nat_tests)

zero_is : (n : ℕ) → n ≡ 0 → nat_eq n 0 ≡ true
zero_is n h = grind (arith, nat_tests)

not_zero : (n : ℕ) → nat_eq n 0 ≡ false → n ≡ 0 → ⊥
not_zero n h e = absurd (let t = zero_is n e in cc)

decided : (P : Type 0) (n : ℕ) → (n ≡ 0 → P) → ((n ≡ 0 → ⊥) → P → ⊥) → (IsTrue (nat_eq n 0) → P) × (P → IsTrue (nat_eq n 0))
decided P n passed none = (
  λ h. passed (is_zero n h),
  λ p. elim (cases_Bool (nat_eq n 0)) [ inl t ↦ t | inr f ↦ absurd (none (not_zero n f) p) ],
)

pub returns : goal.returns
returns c =
    let d : to_z w128 (of_z w128 c.args.digits) ≡ c.args.digits = to_z-of_z c.ranges.digits in
    let t : to_z w32 (of_z w32 c.args.tens) ≡ c.args.tens = to_z-of_z c.ranges.tens in
    let size : c.unsigned_abs-size.result ≡ unsigned_abs c.args.digits = c.unsigned_abs-size.ensures.value ∙ ap (λ (z : ℤ). unsigned_abs z) d in
    let places : c.unsigned_abs-places.result ≡ unsigned_abs c.args.tens = c.unsigned_abs-places.ensures.value ∙ ap (λ (z : ℤ). unsigned_abs z) t in
    let below : le_z (pos 0) c.args.tens ≡ false = ap (λ (z : ℤ). le_z (pos 0) z) (sym t) ∙ c.if-tens-ge0.false in
    let power : c.pow.result ≡ 10 ^ unsigned_abs c.args.tens = c.pow.ensures ∙ ap (λ (k : ℕ). 10 ^ k) places in
    let rest : c.unsigned_abs-size.result % c.pow.result ≡ unsigned_abs c.args.digits % c.pow.result = ap (λ (n : ℕ). n % c.pow.result) size in
    decided (IsWholeAt c.args.digits c.args.tens) (c.unsigned_abs-size.result % c.pow.result)
    (λ z. part_whole c.args.digits c.args.tens c.pow.result below power (sym rest ∙ z))
    (λ n w. part_not c.args.digits c.args.tens c.pow.result below power (λ z. n (rest ∙ z)) w)
