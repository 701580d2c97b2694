-- The numbers of the four variables give one answer: constants, or their first fault.
use std.HLevel.{prop→path_p}
use Rattle.std.proofs.Common.{◌≡◌, ℕ, ◌*◌, ◌^◌, ℤ, pos, neg_ℤ, ◌+ℤ◌, ◌≤ℤ◌, List, [], ◌∷◌, ◌++◌, length, take, drop, Result, Ok, Err, ◌⊎◌, inl, inr, refl, sym, ap, ◌∙◌, subst, All}
use Rattle.std.proofs.Math.Dec.{T_prop}
use Rattle.st_decimal.specs.declared.number.Dec.{Dec}
use Rattle.st_sine.specs.declared.orbit.Orbit.{Orbit}
use Rattle.st_scales.specs.declared.deltet.Deltet.{Deltet}
use Rattle.st_scales.specs.declared.fault.DeltetVar.{DeltetVar}
use Rattle.st_scales.specs.declared.fault.DeltetVar.TheVariants.{DeltaTa, K, Eb, M, M0, M1}
use Rattle.st_scales.specs.declared.fault.DeltetFault.{DeltetFault}
use Rattle.st_scales.specs.Constants.{IsUnits, IsOne, AreTwo, AreConstants, IsInRange, Keeps, numbers_of, variable_of, rules_of_one, rules_of_m, rules, IsFirstBroken, GiveConstants}
use Rattle.st_scales.specs.ConstantsMachine.{KeepsOne, KeepsM}
use Rattle.st_scales.proofs.Numbers.{units_one, all_one}

-- the rules of a list are kept
abbrev pub EachKept : (DeltetFault → Type 0) → List DeltetFault → Type 0
EachKept Kept [] = Unit {0}
EachKept Kept (rule ∷ more) = Kept rule × EachKept Kept more

not_broken : (Kept : DeltetFault → Type 0) (rules : List DeltetFault) (f : DeltetFault) → EachKept Kept rules → IsFirstBroken Kept rules f → ⊥
not_broken Kept [] f each h = h
not_broken Kept (rule ∷ more) f each (inl h) = h.1 each.0
not_broken Kept (rule ∷ more) f each (inr h) = not_broken Kept more f each.1 h.1

first_one : (Kept : DeltetFault → Type 0) (rules : List DeltetFault) (f g : DeltetFault) → IsFirstBroken Kept rules f → IsFirstBroken Kept rules g → f ≡ g
first_one Kept [] f g h l = absurd h
first_one Kept (rule ∷ more) f g (inl h) (inl l) = h.0 ∙ sym l.0
first_one Kept (rule ∷ more) f g (inl h) (inr l) = absurd (h.1 l.0)
first_one Kept (rule ∷ more) f g (inr h) (inl l) = absurd (l.1 h.0)
first_one Kept (rule ∷ more) f g (inr h) (inr l) = first_one Kept more f g h.1 l.1

-- the first fault of the first rules is that of all, and the first fault of later ones where those before are kept
pub first_of : (Kept : DeltetFault → Type 0) (xs ys : List DeltetFault) (f : DeltetFault) → IsFirstBroken Kept xs f → IsFirstBroken Kept (xs ++ ys) f
first_of Kept [] ys f h = absurd h
first_of Kept (rule ∷ xs) ys f (inl h) = inl h
first_of Kept (rule ∷ xs) ys f (inr h) = inr (h.0, first_of Kept xs ys f h.1)

pub later_of : (Kept : DeltetFault → Type 0) (xs ys : List DeltetFault) (f : DeltetFault) → EachKept Kept xs → IsFirstBroken Kept ys f → IsFirstBroken Kept (xs ++ ys) f
later_of Kept [] ys f each h = h
later_of Kept (rule ∷ xs) ys f each h = inr (each.0, later_of Kept xs ys f each.1 h)

all_kept : (Kept : DeltetFault → Type 0) (xs ys : List DeltetFault) → EachKept Kept xs → EachKept Kept ys → EachKept Kept (xs ++ ys)
all_kept Kept [] ys h l = l
all_kept Kept (rule ∷ xs) ys h l = (h.0, all_kept Kept xs ys h.1 l)

-- one number, or one of two, keeps its rules
has_count : (numbers : List Dec) (u : ℤ) → IsOne numbers u → length numbers ≡ 1
has_count numbers u h = ap (length {A = Dec}) h.1

has_units : (numbers : List Dec) (u : ℤ) → IsOne numbers u → All (λ d. (v : ℤ) × IsUnits d v) numbers
has_units numbers u h = subst (λ (xs : List Dec). All (λ d. (v : ℤ) × IsUnits d v) xs) (sym h.1) (all_one (λ d. (v : ℤ) × IsUnits d v) h.0 (u, h.2))

has_range : (variable : DeltetVar) (numbers : List Dec) (u : ℤ) → IsInRange variable u → IsOne numbers u → All (λ d. (v : ℤ) → IsUnits d v → IsInRange variable v) numbers
has_range variable numbers u within h =
    subst (λ (xs : List Dec). All (λ d. (v : ℤ) → IsUnits d v → IsInRange variable v) xs) (sym h.1)
    (all_one (λ d. (v : ℤ) → IsUnits d v → IsInRange variable v) h.0 (λ v k. subst (λ (z : ℤ). IsInRange variable z) (units_one h.0 u v h.2 k) within))

abbrev pub Kept : List Dec → List Dec → List Dec → List Dec → DeltetFault → Type 0
Kept delta_ta k eb m rule = Keeps (numbers_of delta_ta k eb m (variable_of rule)) rule

pub delta_ta_kept : (delta_ta k eb m : List Dec) (u : ℤ) → IsInRange DeltaTa u → IsOne delta_ta u → EachKept (Kept delta_ta k eb m) (rules_of_one DeltaTa)
delta_ta_kept delta_ta k eb m u within h = (has_count delta_ta u h, (has_units delta_ta u h, (has_range DeltaTa delta_ta u within h, tt)))

pub k_kept : (delta_ta k eb m : List Dec) (u : ℤ) → IsInRange K u → IsOne k u → EachKept (Kept delta_ta k eb m) (rules_of_one K)
k_kept delta_ta k eb m u within h = (has_count k u h, (has_units k u h, (has_range K k u within h, tt)))

pub eb_kept : (delta_ta k eb m : List Dec) (u : ℤ) → IsInRange Eb u → IsOne eb u → EachKept (Kept delta_ta k eb m) (rules_of_one Eb)
eb_kept delta_ta k eb m u within h = (has_count eb u h, (has_units eb u h, (has_range Eb eb u within h, tt)))

pub m_kept : (delta_ta k eb m : List Dec) (u v : ℤ) → IsInRange M0 u → IsInRange M1 v → AreTwo m u v → EachKept (Kept delta_ta k eb m) rules_of_m
m_kept delta_ta k eb m u v first second h =
    let a : IsOne (take 1 m) u = (h.0, ap (take {A = Dec} 1) h.2, h.3) in
    let b : IsOne (drop 1 m) v = (h.1, ap (drop {A = Dec} 1) h.2, h.4) in
    (ap (length {A = Dec}) h.2, (has_units (take 1 m) u a, (has_units (drop 1 m) v b, (has_range M0 (take 1 m) u first a, (has_range M1 (drop 1 m) v second b, tt)))))

-- the numbers are those of one set of constants
one_value : (numbers : List Dec) (u v : ℤ) → IsOne numbers u → IsOne numbers v → u ≡ v
one_value numbers u v h l =
    let e : (h.0 ∷ []) ≡ (l.0 ∷ []) = sym h.1 ∙ l.1 in
    let d : h.0 ≡ l.0 = cc in
    units_one l.0 u v (subst (λ (x : Dec). IsUnits x u) d h.2) l.2

same_orbit : (a b : Orbit) → a.eb ≡ b.eb → a.m0 ≡ b.m0 → a.m1 ≡ b.m1 → a ≡ b
same_orbit a b p q r = λ i. record {
  eb = p i;
  m0 = q i;
  m1 = r i;
  eb_low = prop→path_p (λ j. pos 0 ≤ℤ p j) (hlevel T_prop) a.eb_low b.eb_low i;
  eb_high = prop→path_p (λ j. p j ≤ℤ pos (2 * 10 ^ 16)) (hlevel T_prop) a.eb_high b.eb_high i;
  m0_low = prop→path_p (λ j. neg_ℤ (pos (10 ^ 19)) ≤ℤ q j) (hlevel T_prop) a.m0_low b.m0_low i;
  m0_high = prop→path_p (λ j. q j ≤ℤ pos (10 ^ 19)) (hlevel T_prop) a.m0_high b.m0_high i;
  m1_low = prop→path_p (λ j. pos 0 ≤ℤ r j) (hlevel T_prop) a.m1_low b.m1_low i;
  m1_high = prop→path_p (λ j. r j ≤ℤ pos (4 * 10 ^ 11)) (hlevel T_prop) a.m1_high b.m1_high i;
}

same_constants : (a b : Deltet) → a.delta_ta ≡ b.delta_ta → a.k ≡ b.k → a.orbit ≡ b.orbit → a ≡ b
same_constants a b p q r = λ i. record {
  delta_ta = p i;
  k = q i;
  orbit = r i;
  delta_low = prop→path_p (λ j. neg_ℤ (pos (100 * 10 ^ 18)) ≤ℤ p j) (hlevel T_prop) a.delta_low b.delta_low i;
  delta_high = prop→path_p (λ j. p j ≤ℤ pos (100 * 10 ^ 18)) (hlevel T_prop) a.delta_high b.delta_high i;
  k_low = prop→path_p (λ j. pos 0 ≤ℤ q j) (hlevel T_prop) a.k_low b.k_low i;
  k_high = prop→path_p (λ j. q j ≤ℤ pos (2 * 10 ^ 15)) (hlevel T_prop) a.k_high b.k_high i;
}

one_set : (delta_ta k eb m : List Dec) (a b : Deltet) → AreConstants delta_ta k eb m a → AreConstants delta_ta k eb m b → a ≡ b
one_set delta_ta k eb m a b h l =
    let x = h.are_m in
    let y = l.are_m in
    let first : IsOne (take 1 m) a.orbit.m0 = (x.0, ap (take {A = Dec} 1) x.2, x.3) in
    let first' : IsOne (take 1 m) b.orbit.m0 = (y.0, ap (take {A = Dec} 1) y.2, y.3) in
    let second : IsOne (drop 1 m) a.orbit.m1 = (x.1, ap (drop {A = Dec} 1) x.2, x.4) in
    let second' : IsOne (drop 1 m) b.orbit.m1 = (y.1, ap (drop {A = Dec} 1) y.2, y.4) in
    same_constants a b (one_value delta_ta a.delta_ta b.delta_ta h.is_delta_ta l.is_delta_ta) (one_value k a.k b.k h.is_k l.is_k)
    (same_orbit a.orbit b.orbit (one_value eb a.orbit.eb b.orbit.eb h.is_eb l.is_eb) (one_value (take 1 m) a.orbit.m0 b.orbit.m0 first first') (one_value (drop 1 m) a.orbit.m1 b.orbit.m1 second second'))

constants_kept : (delta_ta k eb m : List Dec) (c : Deltet) → AreConstants delta_ta k eb m c → EachKept (Kept delta_ta k eb m) rules
constants_kept delta_ta k eb m c h =
    let P = Kept delta_ta k eb m in
    let o = c.orbit in
    all_kept P (rules_of_one DeltaTa) (rules_of_one K ++ (rules_of_one Eb ++ rules_of_m)) (delta_ta_kept delta_ta k eb m c.delta_ta (c.delta_low, c.delta_high) h.is_delta_ta)
    (all_kept P (rules_of_one K) (rules_of_one Eb ++ rules_of_m) (k_kept delta_ta k eb m c.k (c.k_low, c.k_high) h.is_k)
    (all_kept P (rules_of_one Eb) rules_of_m (eb_kept delta_ta k eb m o.eb (o.eb_low, o.eb_high) h.is_eb)
    (m_kept delta_ta k eb m o.m0 o.m1 (o.m0_low, o.m0_high) (o.m1_low, o.m1_high) h.are_m)))

pub one_answer : (delta_ta k eb m : List Dec) (a b : Result Deltet DeltetFault) → GiveConstants delta_ta k eb m a → GiveConstants delta_ta k eb m b → a ≡ b
one_answer delta_ta k eb m (Ok a) (Ok b) h l = let e = one_set delta_ta k eb m a b h l in cc
one_answer delta_ta k eb m (Ok a) (Err f) h l = absurd (not_broken (Kept delta_ta k eb m) rules f (constants_kept delta_ta k eb m a h) l)
one_answer delta_ta k eb m (Err f) (Ok b) h l = absurd (not_broken (Kept delta_ta k eb m) rules f (constants_kept delta_ta k eb m b l) h)
one_answer delta_ta k eb m (Err f) (Err g) h l = let e = first_one (Kept delta_ta k eb m) rules f g h l in cc

-- the first fault of a variable, where those before it are good
pub delta_ta_broken : (delta_ta k eb m : List Dec) (f : DeltetFault) → IsFirstBroken (KeepsOne (neg_ℤ (pos (100 * 10 ^ 18))) (pos (100 * 10 ^ 18)) delta_ta) (rules_of_one DeltaTa) f
    → GiveConstants delta_ta k eb m (Err f)
delta_ta_broken delta_ta k eb m f broken = first_of (Kept delta_ta k eb m) (rules_of_one DeltaTa) (rules_of_one K ++ (rules_of_one Eb ++ rules_of_m)) f broken

pub k_broken : (delta_ta k eb m : List Dec) (u : ℤ) (f : DeltetFault) → IsInRange DeltaTa u → IsOne delta_ta u → IsFirstBroken (KeepsOne (pos 0) (pos (2 * 10 ^ 15)) k) (rules_of_one K) f
    → GiveConstants delta_ta k eb m (Err f)
k_broken delta_ta k eb m u f within h broken =
    let P = Kept delta_ta k eb m in
    later_of P (rules_of_one DeltaTa) (rules_of_one K ++ (rules_of_one Eb ++ rules_of_m)) f (delta_ta_kept delta_ta k eb m u within h)
    (first_of P (rules_of_one K) (rules_of_one Eb ++ rules_of_m) f broken)

pub eb_broken : (delta_ta k eb m : List Dec) (u v : ℤ) (f : DeltetFault) → IsInRange DeltaTa u → IsOne delta_ta u → IsInRange K v → IsOne k v
    → IsFirstBroken (KeepsOne (pos 0) (pos (2 * 10 ^ 16)) eb) (rules_of_one Eb) f → GiveConstants delta_ta k eb m (Err f)
eb_broken delta_ta k eb m u v f within h also l broken =
    let P = Kept delta_ta k eb m in
    later_of P (rules_of_one DeltaTa) (rules_of_one K ++ (rules_of_one Eb ++ rules_of_m)) f (delta_ta_kept delta_ta k eb m u within h)
    (later_of P (rules_of_one K) (rules_of_one Eb ++ rules_of_m) f (k_kept delta_ta k eb m v also l) (first_of P (rules_of_one Eb) rules_of_m f broken))

pub m_broken : (delta_ta k eb m : List Dec) (u v w : ℤ) (f : DeltetFault) → IsInRange DeltaTa u → IsOne delta_ta u → IsInRange K v → IsOne k v → IsInRange Eb w → IsOne eb w
    → IsFirstBroken (KeepsM m) rules_of_m f → GiveConstants delta_ta k eb m (Err f)
m_broken delta_ta k eb m u v w f within h also l again n broken =
    let P = Kept delta_ta k eb m in
    later_of P (rules_of_one DeltaTa) (rules_of_one K ++ (rules_of_one Eb ++ rules_of_m)) f (delta_ta_kept delta_ta k eb m u within h)
    (later_of P (rules_of_one K) (rules_of_one Eb ++ rules_of_m) f (k_kept delta_ta k eb m v also l)
    (later_of P (rules_of_one Eb) rules_of_m f (eb_kept delta_ta k eb m w again n) broken))
