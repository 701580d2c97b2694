-- Whether numbers keep a rule can be told, and so all rules are kept, or one is the first that is broken.
use Rattle.std.proofs.Common.{◌≡◌, ℕ, ◌/◌, ◌%◌, ◌*◌, ◌^◌, suc, ℤ, pos, neg_ℤ, negsuc, ◌+ℤ◌, ◌*ℤ◌, ◌≤ℤ◌, ◌<ℤ◌, unsigned_abs, List, [], ◌∷◌, length, ◌⊎◌, inl, inr, refl, subst, arith, All}
use Rattle.std.proofs.lemmas.Bool.{cases_lt}
use Rattle.std.proofs.lemmas.Int.{ints, by_lt_z}
use Rattle.std.proofs.lemmas.List.Elements.{All-nil, All-cons, All-head, All-tail}
use Rattle.st_decimal.specs.Scaling.{IsTimesTen}
use Rattle.st_decimal.specs.ScalingMachine.{with_sign_of}
use Rattle.st_decimal.specs.declared.number.Dec.{Dec}
use Rattle.st_decimal.proofs.ScalingLaws.{power_some, lowered_part, lowered_whole, with_sign, size_of_times}
use Rattle.st_scales.specs.declared.fault.DeltetFault.{DeltetFault}
use Rattle.st_scales.specs.declared.fault.DeltetFault.TheVariants.{Count, NotUnits, Range}
use Rattle.st_scales.specs.declared.fault.DeltetVar.{DeltetVar}
use Rattle.st_scales.specs.declared.fault.DeltetVar.TheVariants.{DeltaTa, K, Eb, M, M0, M1}
use Rattle.st_scales.specs.Constants.{IsUnits, IsInRange, Keeps, IsFirstBroken, count_of}
use Rattle.st_scales.proofs.Numbers.{units_one}
use Rattle.st_scales.proofs.OneAnswer.{EachKept}

-- it is so, or it isn't
abbrev pub IsTold : Type 0 → Type 0
IsTold P = P ⊎ (P → ⊥)

told_same : (m n : ℕ) → IsTold (m ≡ n)
told_same m n =
    elim (cases_lt m n) [
      | inl l ↦ inr (λ e. absurd (omega (arith, l, e)))
      | inr g ↦ elim (cases_lt n m) [ inl l ↦ inr (λ e. absurd (omega (arith, l, e))) | inr h ↦ inl (omega (arith, g, h)) ]
    ]

told_between : (low high u : ℤ) → IsTold ((low ≤ℤ u) × (u ≤ℤ high))
told_between low high u =
    by_lt_z u low (λ (l : u <ℤ low). inr (λ h. absurd (omega (arith, ints, l, h.0))))
    (λ (a : low ≤ℤ u). by_lt_z high u (λ (l : high <ℤ u). inr (λ h. absurd (omega (arith, ints, l, h.1)))) (λ (b : u ≤ℤ high). inl (a, b)))

told_all : (P : Dec → Type 0) → ((d : Dec) → IsTold (P d)) → (ds : List Dec) → IsTold (All P ds)
told_all P told [] = inl (All-nil P)
told_all P told (d ∷ ds) =
    elim (told d) [
      | inr n ↦ inr (λ h. n (All-head P d ds h))
      | inl p ↦ elim (told_all P told ds) [ inl h ↦ inl (All-cons P d ds p h) | inr n ↦ inr (λ h. n (All-tail P d ds h)) ]
    ]

told_times : (n power : ℤ) → IsTold ((u : ℤ) × IsTimesTen n power u)
told_times n (pos k) = inl (n *ℤ pos (10 ^ k), refl)
told_times n (negsuc k) =
    elim (told_same (unsigned_abs n % 10 ^ suc k) 0) [
      | inl none ↦ inl (
        with_sign_of n (unsigned_abs n / 10 ^ suc k),
        with_sign n (negsuc k) (unsigned_abs n / 10 ^ suc k) (lowered_whole (unsigned_abs n) (10 ^ suc k) (power_some (suc k)) none),
      )
      | inr part ↦ inr (λ h. lowered_part (unsigned_abs n) (10 ^ suc k) (unsigned_abs h.0) (power_some (suc k)) part (size_of_times n (negsuc k) h.0 h.1))
    ]

told_units : (d : Dec) → IsTold ((u : ℤ) × IsUnits d u)
told_units d = told_times d.digits (d.tens +ℤ pos 18)

told_within : (v : DeltetVar) (u : ℤ) → IsTold (IsInRange v u)
told_within DeltaTa u = told_between (neg_ℤ (pos (100 * 10 ^ 18))) (pos (100 * 10 ^ 18)) u
told_within K u = told_between (pos 0) (pos (2 * 10 ^ 15)) u
told_within Eb u = told_between (pos 0) (pos (2 * 10 ^ 16)) u
told_within M u = inl tt
told_within M0 u = told_between (neg_ℤ (pos (10 ^ 19))) (pos (10 ^ 19)) u
told_within M1 u = told_between (pos 0) (pos (4 * 10 ^ 11)) u

told_range : (v : DeltetVar) (d : Dec) → IsTold ((u : ℤ) → IsUnits d u → IsInRange v u)
told_range v d =
    elim (told_units d) [
      | inr none ↦ inl (λ u is. absurd (none (u, is)))
      | inl h ↦ elim (told_within v h.0) [
        | inl within ↦ inl (λ u is. subst (λ (z : ℤ). IsInRange v z) (units_one d h.0 u h.1 is) within)
        | inr beyond ↦ inr (λ all. beyond (all h.0 h.1))
      ]
    ]

pub told_rule : (numbers : List Dec) (rule : DeltetFault) → IsTold (Keeps numbers rule)
told_rule numbers (Count v) = told_same (length numbers) (count_of v)
told_rule numbers (NotUnits v) = told_all (λ d. (u : ℤ) × IsUnits d u) told_units numbers
told_rule numbers (Range v) = told_all (λ d. (u : ℤ) → IsUnits d u → IsInRange v u) (told_range v) numbers

pub kept_or_broken : (Kept : DeltetFault → Type 0) → ((rule : DeltetFault) → IsTold (Kept rule)) → (rules : List DeltetFault)
    → EachKept Kept rules ⊎ ((fault : DeltetFault) × IsFirstBroken Kept rules fault)
kept_or_broken Kept told [] = inl tt
kept_or_broken Kept told (rule ∷ more) =
    elim (told rule) [
      | inr broken ↦ inr (rule, inl (refl, broken))
      | inl kept ↦ elim (kept_or_broken Kept told more) [ inl h ↦ inl (kept, h) | inr f ↦ inr (f.0, inr (kept, f.1)) ]
    ]
