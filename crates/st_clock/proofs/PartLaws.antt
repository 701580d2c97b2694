-- The first fault of a clock's variables, and that there is one answer.
use Rattle.std.proofs.Common.{◌≡◌, ◌≢◌, ℕ, suc, ◌^◌, ◌<◌, ◌≤◌, ℤ, pos, negsuc, List, [], ◌∷◌, length, get_or, Some, Result, Ok, Err, slice_get, refl, sym, ◌∙◌, ap, subst, arith}
use Rattle.std.proofs.lemmas.Int.{ints}
use Rattle.std.proofs.lemmas.Option.{slice_get-get_or, slice_get_within}
use Rattle.st_fraction.proofs.Ring.{cancel_z}
use Rattle.st_decimal.specs.declared.number.Dec.{Dec}
use Rattle.st_decimal.specs.Scaling.{IsTimesTen}
use Rattle.st_decimal.proofs.ScalingLaws.{power_some}
use Rattle.st_scales.specs.declared.scale.Scale.{Scale}
use Rattle.st_scales.specs.declared.scale.Scale.TheVariants.{Tai, Tt, Tdb}
use Rattle.st_ticks.specs.declared.variable.ClockFault.{ClockFault}
use Rattle.st_ticks.specs.declared.variable.ClockVar.TheVariants.{DataType, TimeSystem}
use Rattle.st_ticks.specs.declared.variable.ClockWhy.TheVariants.{NotOne, Range}
use Rattle.st_rules.proofs.First.{one_first, none_broken}
use Rattle.st_clock.specs.Parts.{IsNumber, IsSystem, IsScaleOf, KeepsType, KeepsSystem, Keeps, fault, system_rules, GivesScale}

-- a decimal is one number of units
pub times_ten_is_one : (n tens u v : ℤ) → IsTimesTen n tens u → IsTimesTen n tens v → u ≡ v
times_ten_is_one n (pos k) u v a b = a ∙ sym b
times_ten_is_one n (negsuc k) u v a b = cancel_z u v (10 ^ suc k) (power_some (suc k)) (a ∙ sym b)

pub one_value : (values : List Dec) (i : ℕ) (d e : Dec) → length values ≤ 1 → slice_get values 0 ≡ Some d → slice_get values i ≡ Some e → d ≡ e
one_value values i d e l g h =
    let w = slice_get_within values i e h in
    let z : i ≡ 0 = omega arith in
    same d e (sym g ∙ subst (λ n. slice_get values n ≡ Some e) z h)
  where
    same : (d e : Dec) → Some d ≡ Some e → d ≡ e
    same d e p = cc

pub type_not_one : (dt ts : List Dec) → (length dt ≢ 1) → GivesScale dt ts (Err (fault DataType NotOne))
type_not_one dt ts never = record {
  before = [];
  after = fault DataType Range ∷ fault TimeSystem NotOne ∷ fault TimeSystem Range ∷ [];
  stands = refl;
  kept = tt;
  broken = never;
}

pub type_is_one : (dt : List Dec) (d : Dec) → length dt ≡ 1 → IsNumber (get_or dt 0 d) (pos 1) → KeepsType dt Range
type_is_one dt d l h = λ i e g.
    subst (λ (x : Dec). IsNumber x (pos 1)) (one_value dt i (get_or dt 0 d) e (omega arith) (slice_get-get_or dt 0 d (omega arith)) g) h

pub type_range : (dt ts : List Dec) (d : Dec) → length dt ≡ 1 → (IsNumber (get_or dt 0 d) (pos 1) → ⊥) → GivesScale dt ts (Err (fault DataType Range))
type_range dt ts d l never = record {
  before = fault DataType NotOne ∷ [];
  after = fault TimeSystem NotOne ∷ fault TimeSystem Range ∷ [];
  stands = refl;
  kept = (l, tt);
  broken = λ h. never (h 0 (get_or dt 0 d) (slice_get-get_or dt 0 d (omega arith)));
}

pub system_not_one : (dt ts : List Dec) (d : Dec) → length dt ≡ 1 → IsNumber (get_or dt 0 d) (pos 1) → 1 < length ts → GivesScale dt ts (Err (fault TimeSystem NotOne))
system_not_one dt ts d l h more = record {
  before = fault DataType NotOne ∷ fault DataType Range ∷ [];
  after = fault TimeSystem Range ∷ [];
  stands = refl;
  kept = (l, (type_is_one dt d l h, tt));
  broken = λ k. omega arith;
}

pub system_range : (dt ts : List Dec) (d e : Dec) → length dt ≡ 1 → IsNumber (get_or dt 0 d) (pos 1) → length ts ≡ 1
    → ((scale : Scale) → IsSystem (get_or ts 0 e) scale → ⊥) → GivesScale dt ts (Err (fault TimeSystem Range))
system_range dt ts d e l h k never = record {
  before = fault DataType NotOne ∷ fault DataType Range ∷ fault TimeSystem NotOne ∷ [];
  after = [];
  stands = refl;
  kept = (l, (type_is_one dt d l h, ((let m : length ts ≤ 1 = omega arith in m), tt)));
  broken = λ r. let s = r 0 (get_or ts 0 e) (slice_get-get_or ts 0 e (omega arith)) in never s.0 s.1;
}

pub system_found : (dt ts : List Dec) (d e : Dec) (scale : Scale) → length dt ≡ 1 → IsNumber (get_or dt 0 d) (pos 1) → length ts ≡ 1
    → IsSystem (get_or ts 0 e) scale → GivesScale dt ts (Ok scale)
system_found dt [] d e scale l h k s = absurd (omega arith)
system_found dt (t ∷ ts) d e scale l h k s =
    ((l, (type_is_one dt d l h, ((let m : length (t ∷ ts) ≤ 1 = omega arith in m), (range, tt)))), s)
  where
    range : KeepsSystem (t ∷ ts) Range
    range i x g = (scale, subst (λ (y : Dec). IsSystem y scale) (one_value (t ∷ ts) i t x (omega arith) refl g) s)

pub system_left_out : (dt ts : List Dec) (d : Dec) → length dt ≡ 1 → IsNumber (get_or dt 0 d) (pos 1) → length ts ≡ 0 → GivesScale dt ts (Ok Tdb)
system_left_out dt [] d l h k = ((l, (type_is_one dt d l h, ((let m : length {A = Dec} [] ≤ 1 = omega arith in m), (none, tt)))), refl)
  where
    none : KeepsSystem [] Range
    none i x g = absurd (nothing x g)
      where
        nothing : (x : Dec) → slice_get [] i ≡ Some x → ⊥
        nothing x e = cc
system_left_out dt (t ∷ ts) d l h k = absurd (omega arith)

-- one answer
one_system : (d : Dec) (s t : Scale) → IsSystem d s → IsSystem d t → s ≡ t
one_system d Tai t g h = absurd g
one_system d Tt Tai g h = absurd h
one_system d Tt Tt g h = refl
one_system d Tt Tdb g h = absurd (differ (times_ten_is_one d.digits d.tens (pos 2) (pos 1) g h))
  where
    differ : pos 2 ≡ pos 1 → ⊥
    differ e = omega (arith, ints, e)
one_system d Tdb Tai g h = absurd h
one_system d Tdb Tt g h = absurd (differ (times_ten_is_one d.digits d.tens (pos 1) (pos 2) g h))
  where
    differ : pos 1 ≡ pos 2 → ⊥
    differ e = omega (arith, ints, e)
one_system d Tdb Tdb g h = refl

pub one_scale : (ts : List Dec) (s t : Scale) → IsScaleOf ts s → IsScaleOf ts t → s ≡ t
one_scale [] s t g h = g ∙ sym h
one_scale (d ∷ more) s t g h = one_system d s t g h

pub scale_answer_is_one : (dt ts : List Dec) (a b : Result Scale ClockFault) → GivesScale dt ts a → GivesScale dt ts b → a ≡ b
scale_answer_is_one dt ts (Ok s) (Ok t) g h = ap Ok (one_scale ts s t g.1 h.1)
scale_answer_is_one dt ts (Ok s) (Err f) g h = absurd (none_broken (Keeps dt ts []) system_rules f g.0 h)
scale_answer_is_one dt ts (Err e) (Ok t) g h = absurd (none_broken (Keeps dt ts []) system_rules e h.0 g)
scale_answer_is_one dt ts (Err e) (Err f) g h = ap Err (one_first (Keeps dt ts []) system_rules e f g h)
