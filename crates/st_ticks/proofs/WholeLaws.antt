-- Whole numbers as decimals write them.
use Rattle.std.proofs.Common.{◌≡◌, ℕ, ℤ, pos, negsuc, ◌/◌, ◌%◌, ◌^◌, ◌<◌, ◌≤◌, ◌*ℤ◌, suc, true, false, refl, sym, ap, ◌∙◌, subst, arith}
use Rattle.std.specs.Prelude.{unsigned_abs}
use Rattle.std.specs.Int.Signed.{le_z}
use Rattle.std.proofs.Math.Nat.{pow-le-pow_right, eq_of_mul-eq-mul_right}
use Rattle.std.proofs.lemmas.Bool.Decides.{nat_tests}
use Rattle.st_decimal.specs.Scaling.{IsTimesTen}
use Rattle.st_decimal.specs.ScalingMachine.{IsSizeTimesTen, with_sign_of}
use Rattle.st_decimal.specs.declared.number.Dec.{Dec}
use Rattle.st_decimal.proofs.ScalingLaws.{power_some, lowered_part, lowered_whole, lowered_over, with_sign, size_of_times}
use Rattle.st_ticks.specs.Variables.{IsNumber}

abbrev pub IsWholeAt : ℤ → ℤ → Type 0
IsWholeAt d t = (z : ℤ) × IsTimesTen d t z

zero_size : (t : ℤ) → IsSizeTimesTen 0 t 0
zero_size (pos k) = omega arith
zero_size (negsuc k) = omega arith

pub zero_whole : (d t : ℤ) → unsigned_abs d ≡ 0 → IsWholeAt d t
zero_whole d t size = (with_sign_of d 0, with_sign d t 0 (subst (λ (n : ℕ). IsSizeTimesTen n t 0) (sym size) (zero_size t)))

pub tens_whole : (d t : ℤ) → le_z (pos 0) t ≡ true → IsWholeAt d t
tens_whole d (pos k) h = (d *ℤ pos (10 ^ k), refl)
tens_whole d (negsuc k) h = absurd (cc)

zero_least : (k : ℕ) → le_z (pos 0) (pos k) ≡ true
zero_least k = grind (arith, nat_tests)

pub far_not : (d t : ℤ) → 0 < unsigned_abs d → unsigned_abs d < 2 ^ 128 → le_z (pos 0) t ≡ false → 38 < unsigned_abs t → IsWholeAt d t → ⊥
far_not d (pos k) s f l h w = absurd (let t = zero_least k in cc)
far_not d (negsuc k) s f l h w = lowered_over (unsigned_abs d) (suc k) (unsigned_abs w.0) s f h (size_of_times d (negsuc k) w.0 w.1)

pub part_not : (d t : ℤ) (p : ℕ) → le_z (pos 0) t ≡ false → p ≡ 10 ^ unsigned_abs t → (unsigned_abs d % p ≡ 0 → ⊥) → IsWholeAt d t → ⊥
part_not d (pos k) p l e h w = absurd (let t = zero_least k in cc)
part_not d (negsuc k) p l e h w =
    lowered_part (unsigned_abs d) (10 ^ suc k) (unsigned_abs w.0) (power_some (suc k)) (λ m. h (subst (λ (q : ℕ). unsigned_abs d % q ≡ 0) (sym e) m))
    (size_of_times d (negsuc k) w.0 w.1)

pub part_whole : (d t : ℤ) (p : ℕ) → le_z (pos 0) t ≡ false → p ≡ 10 ^ unsigned_abs t → unsigned_abs d % p ≡ 0 → IsWholeAt d t
part_whole d (pos k) p l e h = absurd (let t = zero_least k in cc)
part_whole d (negsuc k) p l e h =
    let q : ℕ = 10 ^ suc k in
    let none : unsigned_abs d % q ≡ 0 = subst (λ (x : ℕ). unsigned_abs d % x ≡ 0) e h in
    (with_sign_of d (unsigned_abs d / q), with_sign d (negsuc k) (unsigned_abs d / q) (lowered_whole (unsigned_abs d) q (power_some (suc k)) none))

pub power_fits : (k : ℕ) → k ≤ 38 → 10 ^ k < 2 ^ 128
power_fits k h =
    let most : 10 ^ k ≤ 10 ^ 38 = pow-le-pow_right {n = 10} (omega arith) {i = k} {j = 38} h in
    omega arith

-- a number is one
same_at : (d t : ℤ) (m n : ℕ) → IsTimesTen d t (pos m) → IsTimesTen d t (pos n) → m ≡ n
same_at d (pos k) m n h e = ap (λ (z : ℤ). unsigned_abs z) (h ∙ sym e)
same_at d (negsuc k) m n h e = eq_of_mul-eq-mul_right (10 ^ suc k) (power_some (suc k)) m n (size_of_times d (negsuc k) (pos m) h ∙ sym (size_of_times d (negsuc k) (pos n) e))

pub same_number : (d : Dec) (m n : ℕ) → IsNumber m d → IsNumber n d → m ≡ n
same_number d m n h e = same_at d.digits d.tens m n h e
