-- Whether a decimal is a whole number, and one within bounds.
use Rattle.std.proofs.Common.{◌≡◌, ℕ, ℤ, pos, negsuc, ◌/◌, ◌%◌, ◌*ℤ◌, ◌^◌, ◌≤◌, suc, inl, inr, refl, sym, ap, ◌∙◌, subst}
use Rattle.std.specs.Prelude.{unsigned_abs}
use Rattle.std.proofs.Math.Nat.{eq_of_mul-eq-mul_right}
use Rattle.st_decimal.specs.Scaling.{IsTimesTen}
use Rattle.st_decimal.specs.ScalingMachine.{IsSizeTimesTen, with_sign_of}
use Rattle.st_decimal.specs.declared.number.Dec.{Dec}
use Rattle.st_decimal.proofs.ScalingLaws.{power_some, lowered_part, lowered_whole, with_sign, size_of_times, sign_of_times}
use Rattle.st_ticks.specs.Variables.{IsFrom, IsNumber, IsWholeNumber}
use Rattle.st_rules.proofs.Told.{IsTold, told_le, told_same}

pub told_times : (n power : ℤ) → IsTold ((u : ℤ) × IsTimesTen n power u)
told_times n (pos k) = inl (n *ℤ pos (10 ^ k), refl)
told_times n (negsuc k) =
    elim (told_same (unsigned_abs n % 10 ^ suc k) 0) [
      | inl none ↦ inl (
        with_sign_of n (unsigned_abs n / 10 ^ suc k),
        with_sign n (negsuc k) (unsigned_abs n / 10 ^ suc k) (lowered_whole (unsigned_abs n) (10 ^ suc k) (power_some (suc k)) none),
      )
      | inr part ↦ inr (λ h. lowered_part (unsigned_abs n) (10 ^ suc k) (unsigned_abs h.0) (power_some (suc k)) part (size_of_times n (negsuc k) h.0 h.1))
    ]

pub told_whole : (d : Dec) → IsTold (IsWholeNumber d)
told_whole d = told_times d.digits d.tens

-- a decimal is one number, of whatever sign
one_size : (size : ℕ) (power : ℤ) (a b : ℕ) → IsSizeTimesTen size power a → IsSizeTimesTen size power b → a ≡ b
one_size size (pos k) a b h i = h ∙ sym i
one_size size (negsuc k) a b h i = eq_of_mul-eq-mul_right (10 ^ suc k) (power_some (suc k)) a b (h ∙ sym i)

one_times : (n power u v : ℤ) → IsTimesTen n power u → IsTimesTen n power v → u ≡ v
one_times n power u v h i =
    let sizes = one_size (unsigned_abs n) power (unsigned_abs u) (unsigned_abs v) (size_of_times n power u h) (size_of_times n power v i) in
    sym (sign_of_times n power u h) ∙ ap (λ (m : ℕ). with_sign_of n m) sizes ∙ sign_of_times n power v i

pub told_from : (low high : ℕ) (d : Dec) → IsTold (IsFrom low high d)
told_from low high d = by (told_whole d)
  where
    same : (m n : ℕ) → pos m ≡ pos n → m ≡ n
    same m n e = cc

    within : (n : ℕ) → IsNumber n d → IsTold (low ≤ n) → IsTold (n ≤ high) → IsTold (IsFrom low high d)
    within n is (inl l) (inl h) = inl (n, is, l, h)
    within n is (inr l) h = inr (λ f. l (subst (λ (k : ℕ). low ≤ k) (same f.0 n (one_times d.digits d.tens (pos f.0) (pos n) f.1 is)) f.2))
    within n is (inl l) (inr h) = inr (λ f. h (subst (λ (k : ℕ). k ≤ high) (same f.0 n (one_times d.digits d.tens (pos f.0) (pos n) f.1 is)) f.3))

    signed : (z : ℤ) → IsTimesTen d.digits d.tens z → IsTold (IsFrom low high d)
    signed (pos n) is = within n is (told_le low n) (told_le n high)
    signed (negsuc k) is = inr (λ f. let e = one_times d.digits d.tens (negsuc k) (pos f.0) is f.1 in absurd cc)

    by : IsTold (IsWholeNumber d) → IsTold (IsFrom low high d)
    by (inr none) = inr (λ f. none (pos f.0, f.1))
    by (inl (z, is)) = signed z is
