-- Numbers that keep all rules are constants, and any are constants or have a first fault.
use Rattle.std.proofs.Common.{◌≡◌, ℤ, get_or, List, [], ◌∷◌, length, take, drop, Result, Ok, Err, inl, inr, sym, ap, ◌∙◌, subst, All}
use Rattle.st_decimal.specs.declared.number.Dec.{Dec}
use Rattle.st_sine.specs.declared.orbit.Orbit.{Orbit}
use Rattle.st_scales.specs.declared.deltet.Deltet.{Deltet}
use Rattle.st_scales.specs.declared.fault.DeltetVar.{DeltetVar}
use Rattle.st_scales.specs.declared.fault.DeltetVar.TheVariants.{DeltaTa, K, Eb, M0, M1}
use Rattle.st_scales.specs.declared.fault.DeltetFault.{DeltetFault}
use Rattle.st_scales.specs.Constants.{IsUnits, IsOne, AreConstants, IsInRange, numbers_of, variable_of, rules, GiveConstants}
use Rattle.st_scales.proofs.Numbers.{nothing, one_is, two_are, of_all_one}
use Rattle.st_scales.proofs.OneAnswer.{EachKept, Kept}
use Rattle.st_scales.proofs.ToldNumbers.{told_rule, kept_or_broken}

-- a number within its range
abbrev IsOneIn : DeltetVar → List Dec → Type 0
IsOneIn v numbers = (u : ℤ) × IsOne numbers u × IsInRange v u

of_one : (v : DeltetVar) (d : Dec) (numbers : List Dec) → numbers ≡ d ∷ [] → All (λ d. (u : ℤ) × IsUnits d u) numbers
    → All (λ d. (u : ℤ) → IsUnits d u → IsInRange v u) numbers → IsOneIn v numbers
of_one v d numbers e units range =
    let h = of_all_one (λ x. (u : ℤ) × IsUnits x u) d (subst (λ (xs : List Dec). All (λ x. (u : ℤ) × IsUnits x u) xs) e units) in
    let within = of_all_one (λ x. (u : ℤ) → IsUnits x u → IsInRange v u) d (subst (λ (xs : List Dec). All (λ x. (u : ℤ) → IsUnits x u → IsInRange v u) xs) e range) in
    (h.0, (d, e, h.1), within h.0 h.1)

one_there : (v : DeltetVar) (numbers : List Dec) → length numbers ≡ 1 → All (λ d. (u : ℤ) × IsUnits d u) numbers
    → All (λ d. (u : ℤ) → IsUnits d u → IsInRange v u) numbers → IsOneIn v numbers
one_there v numbers one = of_one v (get_or numbers 0 nothing) numbers (one_is numbers nothing one)

constants_made : (delta_ta k eb m : List Dec) → EachKept (Kept delta_ta k eb m) rules → (c : Deltet) × AreConstants delta_ta k eb m c
constants_made delta_ta k eb m h =
    let of_k = h.1.1.1 in
    let of_eb = of_k.1.1.1 in
    let of_m = of_eb.1.1.1 in
    let a = one_there DeltaTa delta_ta h.0 h.1.0 h.1.1.0 in
    let b = one_there K k of_k.0 of_k.1.0 of_k.1.1.0 in
    let c = one_there Eb eb of_eb.0 of_eb.1.0 of_eb.1.1.0 in
    let two = two_are m nothing nothing of_m.0 in
    let p = get_or m 0 nothing in
    let q = get_or m 1 nothing in
    let first = of_one M0 p (take 1 m) (ap (take {A = Dec} 1) two) of_m.1.0 of_m.1.1.1.0 in
    let second = of_one M1 q (drop 1 m) (ap (drop {A = Dec} 1) two) of_m.1.1.0 of_m.1.1.1.1.0 in
    let orbit : Orbit = record {
      eb = c.0;
      m0 = first.0;
      m1 = second.0;
      eb_low = c.2.0;
      eb_high = c.2.1;
      m0_low = first.2.0;
      m0_high = first.2.1;
      m1_low = second.2.0;
      m1_high = second.2.1;
    } in
    let constants : Deltet = record { delta_ta = a.0; k = b.0; orbit = orbit; delta_low = a.2.0; delta_high = a.2.1; k_low = b.2.0; k_high = b.2.1 } in
    (constants, record { is_delta_ta = a.1; is_k = b.1; is_eb = c.1; are_m = (p, q, two, is_of p (take 1 m) first.0 (ap (take {A = Dec} 1) two) first.1, is_of q (drop 1 m) second.0 (ap (drop {A = Dec} 1) two) second.1) })
  where
    is_of : (d : Dec) (numbers : List Dec) (u : ℤ) → numbers ≡ d ∷ [] → IsOne numbers u → IsUnits d u
    is_of d numbers u e h =
        let same : h.0 ≡ d = head_is (sym h.1 ∙ e) in
        subst (λ (x : Dec). IsUnits x u) same h.2
      where
        head_is : (h.0 ∷ []) ≡ (d ∷ []) → h.0 ≡ d
        head_is f = cc

pub each_has_answer : (delta_ta k eb m : List Dec) → (answer : Result Deltet DeltetFault) × GiveConstants delta_ta k eb m answer
each_has_answer delta_ta k eb m =
    elim (kept_or_broken (Kept delta_ta k eb m) (λ rule. told_rule (numbers_of delta_ta k eb m (variable_of rule)) rule) rules) [
      | inl h ↦ let c = constants_made delta_ta k eb m h in (Ok c.0, c.1)
      | inr f ↦ (Err f.0, f.1)
    ]
