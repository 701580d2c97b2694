-- Decimals are read exactly where a text spells them.
use Rattle.std.proofs.Common.{◌≡◌, ℕ, ◌+◌, ◌-◌, ◌*◌, ◌^◌, ◌<◌, ◌≤◌, ◌==◌, ◌&&◌, inl, inr, refl, sym, arith, List, [], ◌∷◌, Option, Some, None, IfSome, eq-eqb}
use Rattle.std.proofs.Math.Nat.{mul-le-mul_right, one-le-pow}
use Rattle.std.proofs.lemmas.Bool.{cases_Bool, eqb-true}
use Rattle.std.proofs.lemmas.Nat.{pow-add}
use Rattle.std.proofs.lemmas.Option.{same_Some}
use Rattle.st_text.specs.Scan.{is_digit_run}
use Rattle.st_text.proofs.Logic.{and-left, and-right}
use Rattle.st_text.proofs.Runs.{digits_test, digits_tested}
use Rattle.st_dates.specs.Decimals.{SpellsDecimals, units_of_decimals}
use Rattle.st_dates.specs.TimeTextMachine.{decimal_units}

pub decimals_spell : (text : List ℕ) (units : ℕ) → decimal_units text ≡ Some units → SpellsDecimals text units
unfolding decimal_units
decimals_spell [] units e = sym (same_Some 0 units e)
decimals_spell (b ∷ t) units e =
    elim (cases_Bool ((b == 46) && is_digit_run 1 12 t)) [
      | inl h ↦ (
        eqb-true b 46 (and-left (b == 46) (is_digit_run 1 12 t) h),
        digits_tested 1 12 t (and-right (b == 46) (is_digit_run 1 12 t) h),
        sym (same_Some (units_of_decimals t) units (rw h at e)),
      )
      | inr h ↦ absurd (let no = rw h at e in cc)
    ]

pub decimals_only : (text : List ℕ) (units : ℕ) → SpellsDecimals text units → decimal_units text ≡ Some units
unfolding decimal_units
decimals_only [] units h = rw h refl
decimals_only (b ∷ t) units h = rw (h.2, eq-eqb b 46 h.0, digits_test 1 12 t h.1) refl

-- a number of k digits times the power of ten for its place is less than one
pub scaled : (n r p k : ℕ) → n ≡ r → r < 10 ^ k → p ≡ 10 ^ (18 - k) → k ≤ 12 → n * p < 10 ^ 18
scaled n r p k e h f few =
    let all : k + (18 - k) ≡ 18 = omega arith in
    let power : 10 ^ 18 ≡ 10 ^ k * 10 ^ (18 - k) = rw all at (pow-add 10 k (18 - k)) in
    let total : 10 ^ k * p ≡ 10 ^ 18 = rw f (sym power) in
    let less : (n + 1) * p ≤ 10 ^ k * p = mul-le-mul_right p (omega arith) in
    let some : 1 ≤ p = rw f (one-le-pow (18 - k) 10 (omega arith)) in
    omega (arith, total, less, some)

pub spelled_by : (text : List ℕ) (found : Option ℕ) → found ≡ decimal_units text → IfSome found (SpellsDecimals text)
spelled_by text None e = tt
spelled_by text (Some units) e = decimals_spell text units (sym e)
