-- Numbers as whole counts of units, and the first fault of a variable's numbers.
use Rattle.std.proofs.Common.{◌≡◌, ℕ, zero, suc, ◌+◌, ◌*◌, ◌^◌, ◌≤◌, ◌<◌, ℤ, pos, negsuc, ◌+ℤ◌, ◌*ℤ◌, ◌≤ℤ◌, unsigned_abs, List, [], ◌∷◌, length, get_or, ◌⊎◌, inl, inr, refl, sym, ap, ◌∙◌, subst, arith, lit<, mul-pos, mul-le-mul_left, All, Option, Some, None, IfSome, IsNone, IsTrue, is_some, ◌↔◌}
use Rattle.std.proofs.Math.Nat.{one-le-pow, pow-suc}
use Rattle.std.proofs.lemmas.Int.{ints, unsigned_abs-mul}
use Rattle.st_fraction.proofs.Ring.{cancel_z}
use Rattle.st_decimal.specs.declared.number.Dec.{Dec}
use Rattle.st_decimal.specs.Scaling.{IsTimesTen, IsUnits18}
use Rattle.st_scales.specs.declared.fault.DeltetVar.{DeltetVar}
use Rattle.st_scales.specs.declared.fault.DeltetVar.TheVariants.{M0, M1}
use Rattle.st_scales.specs.declared.fault.DeltetFault.TheVariants.{Count, NotUnits, Range}
use Rattle.st_scales.specs.Constants.{IsUnits, IsInRange, IsFirstBroken, rules_of_one, rules_of_m}
use Rattle.st_scales.specs.ConstantsMachine.{KeepsOne, KeepsM}

-- ten to a power
ten_some : (k : ℕ) → 0 < 10 ^ k
ten_some k = let i = one-le-pow k 10 (omega arith) in omega (arith, i)

-- the count is one
times_one : (n z u v : ℤ) → IsTimesTen n z u → IsTimesTen n z v → u ≡ v
times_one n (pos k) u v h l = h ∙ sym l
times_one n (negsuc k) u v h l = cancel_z u v (10 ^ suc k) (ten_some (suc k)) (h ∙ sym l)

pub units_one : (d : Dec) (u v : ℤ) → IsUnits d u → IsUnits d v → u ≡ v
units_one d u v h l = times_one d.digits (d.tens +ℤ pos 18) u v h l

-- a number that has no more than eighteen decimals has a count
pub units_large : (n z : ℤ) → pos 0 ≤ℤ z → (u : ℤ) × IsTimesTen n z u
units_large n (pos k) h = (n *ℤ pos (10 ^ k), refl)
units_large n (negsuc k) h = absurd (omega (arith, ints))

-- and of one that has more the count is small
ten : (k : ℕ) → 10 ≤ 10 ^ suc k
ten k = rw (pow-suc 10 k) (let i = ten_some k in omega (arith, i))

pub units_small : (n z u : ℤ) → unsigned_abs n ≤ 2 ^ 127 → z ≤ℤ negsuc 0 → IsTimesTen n z u → unsigned_abs u < 10 ^ 38
units_small n (pos k) u small h l = absurd (omega (arith, ints))
units_small n (negsuc k) u small h l =
    let p : unsigned_abs u * 10 ^ suc k ≡ unsigned_abs n = sym (unsigned_abs-mul u (pos (10 ^ suc k))) ∙ ap unsigned_abs l in
    let q = mul-le-mul_left (unsigned_abs u) (ten k) in
    omega (arith, p, q, small)

-- what stands for an element that isn't there
abbrev pub nothing : Dec
nothing = record { digits = pos 0; tens = pos 0 }

-- lists of one and of two
pub one_is : (numbers : List Dec) (d : Dec) → length numbers ≡ 1 → numbers ≡ get_or numbers 0 d ∷ []
one_is [] d h = absurd (omega (arith, h))
one_is (x ∷ []) d h = refl
one_is (x ∷ y ∷ more) d h = absurd (omega (arith, h))

pub two_are : (numbers : List Dec) (d e : Dec) → length numbers ≡ 2 → numbers ≡ get_or numbers 0 d ∷ get_or numbers 1 e ∷ []
two_are [] d e h = absurd (omega (arith, h))
two_are (x ∷ []) d e h = absurd (omega (arith, h))
two_are (x ∷ y ∷ []) d e h = refl
two_are (x ∷ y ∷ z ∷ more) d e h = absurd (omega (arith, h))

pub all_one : (P : Dec → Type 0) (d : Dec) → P d → All P (d ∷ [])
all_one P d h zero e l = h
all_one P d h (suc k) e l = absurd (omega (arith, l))

pub of_all_one : (P : Dec → Type 0) (d : Dec) → All P (d ∷ []) → P d
of_all_one P d h = h 0 d (omega arith)

-- the faults of one number
pub count_broken : (low high : ℤ) (v : DeltetVar) (numbers : List Dec) → (length numbers ≡ 1 → ⊥) → IsFirstBroken (KeepsOne low high numbers) (rules_of_one v) (Count v)
count_broken low high v numbers h = inl (refl, h)

pub units_broken : (low high : ℤ) (v : DeltetVar) (numbers : List Dec) (d : Dec) → numbers ≡ d ∷ [] → ((u : ℤ) × IsUnits d u → ⊥) → IsFirstBroken (KeepsOne low high numbers) (rules_of_one v) (NotUnits v)
units_broken low high v numbers d e h =
    subst (λ (xs : List Dec). IsFirstBroken (KeepsOne low high xs) (rules_of_one v) (NotUnits v)) (sym e)
    (inr (refl, inl (refl, λ all. h (of_all_one (λ x. (u : ℤ) × IsUnits x u) d all))))

pub range_broken : (low high : ℤ) (v : DeltetVar) (numbers : List Dec) (d : Dec) → numbers ≡ d ∷ [] → (u : ℤ) × IsUnits d u → ((u : ℤ) → IsUnits d u → low ≤ℤ u → u ≤ℤ high → ⊥)
    → IsFirstBroken (KeepsOne low high numbers) (rules_of_one v) (Range v)
range_broken low high v numbers d e some h =
    subst (λ (xs : List Dec). IsFirstBroken (KeepsOne low high xs) (rules_of_one v) (Range v)) (sym e)
    (inr (
      refl,
      inr (
        all_one (λ x. (u : ℤ) × IsUnits x u) d some,
        inl (refl, λ all. let b = of_all_one (λ x. (u : ℤ) → IsUnits x u → (low ≤ℤ u) × (u ≤ℤ high)) d all some.0 some.1 in h some.0 some.1 b.0 b.1),
      ),
    ))

-- the faults of the two numbers of DELTET/M
pub m_units_second : (numbers : List Dec) (d e : Dec) → numbers ≡ d ∷ e ∷ [] → (u : ℤ) × IsUnits d u → ((u : ℤ) × IsUnits e u → ⊥) → IsFirstBroken (KeepsM numbers) rules_of_m (NotUnits M1)
m_units_second numbers d e p some h =
    subst (λ (xs : List Dec). IsFirstBroken (KeepsM xs) rules_of_m (NotUnits M1)) (sym p)
    (inr (refl, inr (all_one (λ x. (u : ℤ) × IsUnits x u) d some, inl (refl, λ all. h (of_all_one (λ x. (u : ℤ) × IsUnits x u) e all)))))

pub m_range_first : (numbers : List Dec) (d e : Dec) → numbers ≡ d ∷ e ∷ [] → (u : ℤ) × IsUnits d u → (u : ℤ) × IsUnits e u → ((u : ℤ) → IsUnits d u → negsuc 9999999999999999999 ≤ℤ u → u ≤ℤ pos (10 ^ 19) → ⊥)
    → IsFirstBroken (KeepsM numbers) rules_of_m (Range M0)
m_range_first numbers d e p some also h =
    subst (λ (xs : List Dec). IsFirstBroken (KeepsM xs) rules_of_m (Range M0)) (sym p)
    (inr (
      refl,
      inr (
        all_one (λ x. (u : ℤ) × IsUnits x u) d some,
        inr (
          all_one (λ x. (u : ℤ) × IsUnits x u) e also,
          inl (refl, λ all. let b = of_all_one (λ x. (u : ℤ) → IsUnits x u → IsInRange M0 u) d all some.0 some.1 in h some.0 some.1 b.0 b.1),
        ),
      ),
    ))

pub m_range_second : (numbers : List Dec) (d e : Dec) (m : ℤ) → numbers ≡ d ∷ e ∷ [] → IsUnits d m → IsInRange M0 m → (u : ℤ) × IsUnits e u → ((u : ℤ) → IsUnits e u → pos 0 ≤ℤ u → u ≤ℤ pos (4 * 10 ^ 11) → ⊥)
    → IsFirstBroken (KeepsM numbers) rules_of_m (Range M1)
m_range_second numbers d e m p is within also h =
    subst (λ (xs : List Dec). IsFirstBroken (KeepsM xs) rules_of_m (Range M1)) (sym p)
    (inr (
      refl,
      inr (
        all_one (λ x. (u : ℤ) × IsUnits x u) d (m, is),
        inr (
          all_one (λ x. (u : ℤ) × IsUnits x u) e also,
          inr (
            all_one (λ x. (u : ℤ) → IsUnits x u → IsInRange M0 u) d (λ u k. subst (λ (z : ℤ). IsInRange M0 z) (units_one d m u is k) within),
            inl (refl, λ all. let b = of_all_one (λ x. (u : ℤ) → IsUnits x u → IsInRange M1 u) e all also.0 also.1 in h also.0 also.1 b.0 b.1),
          ),
        ),
      ),
    ))

-- what `units18` answers says whether there is a count
pub counted : (d : Dec) (o : Option ℤ) → unsigned_abs d.digits ≤ 2 ^ 127 → (d.tens +ℤ pos 18) ≤ℤ negsuc 0 → IfSome o (IsUnits18 d) → IsNone o ↔ ((u : ℤ) → IsUnits18 d u → ⊥)
    → IsTrue (is_some o) ↔ ((u : ℤ) × IsUnits d u)
counted d (Some u) small h some none = (λ t. (u, some.value), λ x. refl)
counted d None small h some none = (λ t. absurd (cc), λ x. absurd (none.0 refl x.0 (record { value = x.1; below = units_small d.digits (d.tens +ℤ pos 18) x.0 small h x.1 })))

-- a count within bounds is one that `units18` gives
pub is_units18 : (d : Dec) (low high u : ℤ) → unsigned_abs low < 10 ^ 38 → unsigned_abs high < 10 ^ 38 → IsUnits d u → low ≤ℤ u → u ≤ℤ high → IsUnits18 d u
is_units18 d low high u l h e above below = record { value = e; below = omega (arith, ints) }
