-- What making a face answers.
use Rattle.std.proofs.Common.{◌≡◌, ℕ, ◌^◌, ◌<◌, ◌≤◌, refl, sym, ap, ◌∙◌, subst, arith, Ok, Err, List, [], ◌∷◌, ◌++◌, length, get_or, sum_by}
use Rattle.std.specs.List.{All}
use Rattle.std.proofs.lemmas.List.Elements.{All-from_get_or}
use Rattle.st_decimal.specs.declared.number.Dec.{Dec}
use Rattle.st_ticks.specs.Face.{Face, ticks_in}
use Rattle.st_ticks.specs.MakingMachine.{LacksEnds}
use Rattle.st_rules.specs.Rules.{IsFirstBroken}
use Rattle.st_rules.proofs.First.{kept_both, first_at, first_in_front}
use Rattle.st_ticks.specs.Variables.{Numbers, HaveEnds, Keeps, IsMadeOf, MakesFace, rule, first_rules, face_rules}
use Rattle.st_ticks.specs.declared.fault.FaceFault.{FaceFault}
use Rattle.st_ticks.specs.declared.fault.FaceFault.TheVariants.{Bad, OutOfMemory}
use Rattle.st_ticks.specs.declared.field.Partition.{Partition}
use Rattle.st_ticks.specs.declared.variable.ClockFault.{ClockFault}
use Rattle.st_ticks.specs.declared.variable.ClockVar.TheVariants.{End}
use Rattle.st_ticks.specs.declared.variable.ClockWhy.TheVariants.{Range, Product}
use Rattle.st_ticks.proofs.SoundLaws.{AreEarlyKept}
use Rattle.st_ticks.proofs.WholeLaws.{same_number}

abbrev late_rules : List ClockFault
late_rules = rule End Range ∷ rule End Product ∷ []

pub early_fault : (n : Numbers) (fault : ClockFault) → IsFirstBroken (Keeps n) first_rules fault → IsFirstBroken (Keeps n) face_rules fault
early_fault n fault f = first_in_front (Keeps n) first_rules late_rules fault f

range_fault : (n : Numbers) → AreEarlyKept n → ((ps : List Partition) → HaveEnds n.starts n.ends ps → ⊥) → IsFirstBroken (Keeps n) face_rules (rule End Range)
range_fault n h none = first_at (Keeps n) first_rules (rule End Product ∷ []) (rule End Range) h (λ k. none k.0 k.1)

pub lacks_makes : (n : Numbers) (fault : FaceFault) → AreEarlyKept n → LacksEnds n.starts n.ends fault → MakesFace n (Err fault)
lacks_makes n (Bad fault) h l = subst (λ (f : ClockFault). IsFirstBroken (Keeps n) face_rules f) (sym l.0) (range_fault n h l.1)
lacks_makes n OutOfMemory h l = tt

same_partition : (p q : Partition) → p.start ≡ q.start → p.end ≡ q.end → p ≡ q
same_partition p q e f =
    ap (λ (x : ℕ). record { start = x; end = p.end }) e ∙ ap (λ (x : ℕ). record { start = q.start; end = x }) f

pub ends_are_one : (ss es : List Dec) (ps qs : List Partition) → HaveEnds ss es ps → HaveEnds ss es qs → ps ≡ qs
ends_are_one [] [] [] [] h k = refl
ends_are_one [] [] [] (q ∷ qs) h k = absurd k
ends_are_one [] [] (p ∷ ps) qs h k = absurd h
ends_are_one [] (e ∷ es) ps qs h k = absurd h
ends_are_one (s ∷ ss) [] ps qs h k = absurd h
ends_are_one (s ∷ ss) (e ∷ es) [] qs h k = absurd h
ends_are_one (s ∷ ss) (e ∷ es) (p ∷ ps) [] h k = absurd k
ends_are_one (s ∷ ss) (e ∷ es) (p ∷ ps) (q ∷ qs) h k =
    same_cons p q ps qs (same_partition p q (same_number s p.start q.start h.0 k.0) (same_number e p.end q.end h.1 k.1)) (ends_are_one ss es ps qs h.3 k.3)
  where
    same_cons : (a b : Partition) (as' bs : List Partition) → a ≡ b → as' ≡ bs → a ∷ as' ≡ b ∷ bs
    same_cons a b as' bs e f = cc

total_large : (a b : ℕ) → a ≡ b → 10 ^ 18 < a → b ≤ 10 ^ 18 → ⊥
total_large a b e l h = absurd (omega (arith, e, l, h))

pub product_fault : (n : Numbers) (ps : List Partition) → AreEarlyKept n → HaveEnds n.starts n.ends ps → 10 ^ 18 < sum_by ticks_in ps → IsFirstBroken (Keeps n) face_rules (rule End Product)
product_fault n ps h e l =
    first_at (Keeps n) (first_rules ++ (rule End Range ∷ [])) [] (rule End Product) (kept_both (Keeps n) first_rules (rule End Range ∷ []) h ((ps, e), tt))
    (λ k. total_large (sum_by ticks_in ps) (sum_by ticks_in k.0) (ap (sum_by ticks_in) (ends_are_one n.starts n.ends ps k.0 e k.1)) l k.2)

pub makes : (n : Numbers) (face : Face) (ps : List Partition) → AreEarlyKept n → HaveEnds n.starts n.ends ps → sum_by ticks_in ps ≤ 10 ^ 18 → IsMadeOf n face → MakesFace n (Ok face)
makes n face ps h e l m = (kept_both (Keeps n) first_rules late_rules h ((ps, e), ((ps, e, l), tt)), m)

pub all_of_one : (P : Dec → Type 0) (ds : List Dec) (d : Dec) → length ds ≡ 1 → P (get_or ds 0 d) → All P ds
all_of_one P ds d l h = All-from_get_or P ds d (λ i k. subst (λ (j : ℕ). P (get_or ds j d)) (zero_is i k) h)
  where
    zero_is : (i : ℕ) → i < length ds → 0 ≡ i
    zero_is i k = omega (arith, l, k)
