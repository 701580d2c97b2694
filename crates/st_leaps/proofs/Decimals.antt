-- A decimal has one count of units and one whole number, and whether it has one can be told.
use Rattle.std.proofs.Common.{◌≡◌, ℕ, suc, ◌*◌, ◌^◌, ◌/◌, ◌%◌, ◌<◌, ◌≤◌, ◌⊎◌, inl, inr, false, eqb, ℤ, pos, negsuc, ◌+ℤ◌, unsigned_abs, FitsSigned, refl, sym, ap, ◌∙◌, arith, le_of_eq}
use Rattle.std.proofs.Math.Nat.{le_of_mul-le-mul_right}
use Rattle.std.proofs.lemmas.Bool.{cases_Bool, cases_lt}
use Rattle.std.proofs.lemmas.Bool.Decides.{nat_tests}
use Rattle.std.proofs.lemmas.Int.{ints}
use Rattle.std.specs.Int.{w64}
use Rattle.st_decimal.specs.declared.number.Dec.{Dec}
use Rattle.st_decimal.specs.Scaling.{IsTimesTen, IsUnits18, IsWhole}
use Rattle.st_decimal.specs.ScalingMachine.{IsSizeTimesTen, with_sign_of}
use Rattle.st_decimal.proofs.ScalingLaws.{power_some, lowered_part, lowered_whole, with_sign, size_of_times, sign_of_times, size_with_sign}

one-factor : (m n p : ℕ) → 0 < p → m * p ≡ n * p → m ≡ n
one-factor m n p some same =
    let low : m ≤ n = le_of_mul-le-mul_right (le_of_eq same) some in
    let high : n ≤ m = le_of_mul-le-mul_right (le_of_eq (sym same)) some in
    omega arith

one-size : (size : ℕ) (power : ℤ) (a b : ℕ) → IsSizeTimesTen size power a → IsSizeTimesTen size power b → a ≡ b
one-size size (pos k) a b h i = h ∙ sym i
one-size size (negsuc k) a b h i = one-factor a b (10 ^ suc k) (power_some (suc k)) (h ∙ sym i)

one-times : (n power u v : ℤ) → IsTimesTen n power u → IsTimesTen n power v → u ≡ v
one-times n power u v h i =
    let sizes = one-size (unsigned_abs n) power (unsigned_abs u) (unsigned_abs v) (size_of_times n power u h) (size_of_times n power v i) in
    sym (sign_of_times n power u h) ∙ ap (λ (m : ℕ). with_sign_of n m) sizes ∙ sign_of_times n power v i

pub one-units : (d : Dec) (u v : ℤ) → IsUnits18 d u → IsUnits18 d v → u ≡ v
one-units d u v h i = one-times d.digits (d.tens +ℤ pos 18) u v h.value i.value

same-pos : (m n : ℕ) → pos m ≡ pos n → m ≡ n
same-pos m n e = cc

pub one-count : (d : Dec) (m n : ℕ) → IsWhole d (pos m) → IsWhole d (pos n) → m ≡ n
one-count d m n h i = same-pos m n (one-times d.digits d.tens (pos m) (pos n) h.value i.value)

-- a small number fits 64 bits
small_fits : (k : ℕ) → k ≤ 1000 → FitsSigned w64 (pos k)
small_fits k few = omega (arith, ints)

-- whether a number times a power of ten is whole
told-size : (size : ℕ) (power : ℤ) → ((m : ℕ) × IsSizeTimesTen size power m) ⊎ ((m : ℕ) → IsSizeTimesTen size power m → ⊥)
told-size size (pos k) = inl (size * 10 ^ k, refl)
told-size size (negsuc k) =
    elim (cases_Bool (eqb (size % 10 ^ suc k) 0)) [
      | inl y ↦
          let whole : size % 10 ^ suc k ≡ 0 = grind (arith, nat_tests) in
          inl (size / 10 ^ suc k, lowered_whole size (10 ^ suc k) (power_some (suc k)) whole)
      | inr n ↦ inr (λ m is. lowered_part size (10 ^ suc k) m (power_some (suc k)) (λ e. part size (10 ^ suc k) n e) is)
    ]
  where
    part : (size d : ℕ) → eqb (size % d) 0 ≡ false → size % d ≡ 0 → ⊥
    part size d n e = grind (arith, nat_tests)

pub told-units : (d : Dec) → ((u : ℤ) × IsUnits18 d u) ⊎ ((u : ℤ) → IsUnits18 d u → ⊥)
told-units d = by (told-size (unsigned_abs d.digits) (d.tens +ℤ pos 18))
  where
    by : ((m : ℕ) × IsSizeTimesTen (unsigned_abs d.digits) (d.tens +ℤ pos 18) m) ⊎ ((m : ℕ) → IsSizeTimesTen (unsigned_abs d.digits) (d.tens +ℤ pos 18) m → ⊥)
        → ((u : ℤ) × IsUnits18 d u) ⊎ ((u : ℤ) → IsUnits18 d u → ⊥)
    by (inr none) = inr (λ u is. none (unsigned_abs u) (size_of_times d.digits (d.tens +ℤ pos 18) u is.value))
    by (inl (m, is)) = below (cases_lt m (10 ^ 38))
      where
        below : (m < 10 ^ 38) ⊎ (10 ^ 38 ≤ m) → ((u : ℤ) × IsUnits18 d u) ⊎ ((u : ℤ) → IsUnits18 d u → ⊥)
        below (inl l) =
            let size = size_with_sign d.digits m in
            inl (with_sign_of d.digits m, record { value = with_sign d.digits (d.tens +ℤ pos 18) m is; below = rw size l })
        below (inr g) = inr (λ u is_u.
            let same = one-size (unsigned_abs d.digits) (d.tens +ℤ pos 18) m (unsigned_abs u) is (size_of_times d.digits (d.tens +ℤ pos 18) u is_u.value) in
            absurd (omega (arith, g, same, is_u.below)))

-- whether a decimal is a count of at most 1,000
pub told-count : (d : Dec) → ((n : ℕ) × IsWhole d (pos n) × (n ≤ 1000)) ⊎ ((n : ℕ) → IsWhole d (pos n) → n ≤ 1000 → ⊥)
told-count d = by (told-size (unsigned_abs d.digits) d.tens)
  where
    signed : (u : ℤ) → IsTimesTen d.digits d.tens u → ((n : ℕ) × IsWhole d (pos n) × (n ≤ 1000)) ⊎ ((n : ℕ) → IsWhole d (pos n) → n ≤ 1000 → ⊥)
    signed (negsuc k) is = inr (λ n w few. let same = one-times d.digits d.tens (negsuc k) (pos n) is w.value in absurd cc)
    signed (pos k) is =
        elim (cases_lt 1000 k) [
          | inl more ↦ inr (λ n w few. let same = same-pos k n (one-times d.digits d.tens (pos k) (pos n) is w.value) in absurd (omega arith))
          | inr few ↦ inl (k, record { value = is; fits = small_fits k few }, few)
        ]

    by : ((m : ℕ) × IsSizeTimesTen (unsigned_abs d.digits) d.tens m) ⊎ ((m : ℕ) → IsSizeTimesTen (unsigned_abs d.digits) d.tens m → ⊥)
        → ((n : ℕ) × IsWhole d (pos n) × (n ≤ 1000)) ⊎ ((n : ℕ) → IsWhole d (pos n) → n ≤ 1000 → ⊥)
    by (inr none) = inr (λ n w few. none n (size_of_times d.digits d.tens (pos n) w.value))
    by (inl (m, is)) = signed (with_sign_of d.digits m) (with_sign d.digits d.tens m is)
