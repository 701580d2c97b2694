-- The record in force at a time, from the count of those that have begun.
use Rattle.std.proofs.Common.{◌≡◌, ℕ, ◌+◌, ◌-◌, ◌^◌, ◌<◌, ◌≤◌, ℤ, ◌≤ℤ◌, ◌<ℤ◌, List, Option, None, Some, IfSome, IfNone, slice_get, ◌∙◌, ap, lit<, arith}
use Rattle.st_fraction.specs.Fraction.{◌≤ᶠ◌, ◌<ᶠ◌, units}
use Rattle.st_fraction.proofs.Ring.{le-mul_z, lt-mul_z}
use Rattle.st_fraction.proofs.Order.{not_both_f}
use Rattle.st_clock.specs.declared.coefficient.Coefficient.{Coefficient}
use Rattle.st_clock.specs.declared.places.InForce.{InForce}
use Rattle.st_clock.specs.Clock.{BeginsBy}
use Rattle.st_clock.specs.InForceSteps.{IsInForce}

pub units_in_order : (a b : ℤ) → a ≤ℤ b → units a ≤ᶠ units b
units_in_order a b h = record { le = le-mul_z a b (10 ^ 18) h }

pub units_before : (a b : ℤ) → a <ℤ b → units a <ᶠ units b
units_before a b h = record { lt = lt-mul_z a b (10 ^ 18) (lit< tt) h }

abbrev HaveBegun : List Coefficient → ℤ → ℕ → Type 0
HaveBegun records t n = (i : ℕ) (r : Coefficient) → i < n → slice_get records i ≡ Some r → r.time ≤ℤ t

abbrev BeginLater : List Coefficient → ℤ → ℕ → Type 0
BeginLater records t n = (i : ℕ) (r : Coefficient) → n ≤ i → slice_get records i ≡ Some r → t <ℤ r.time

pub force_at : (records : List Coefficient) (t : ℤ) (n : ℕ) (o : Option InForce) → HaveBegun records t n → BeginLater records t n → IfSome o (λ f. 0 < n)
    → IfSome o (λ f. slice_get records (n - 1) ≡ Some f.record) → IfSome o (λ f. f.next ≡ slice_get records n)
    → IfSome o (λ f. IsInForce (BeginsBy (units t)) records f.record f.next)
force_at records t n None before after some here next = tt
force_at records t n (Some f) before after some here next = record {
  place = n - 1;
  last = record {
    here = here;
    holds = units_in_order f.record.time t (before (n - 1) f.record (omega arith) here);
    none_later = λ j s l g b. not_both_f (units s.time) (units t) b (units_before t s.time (after j s (omega arith) g));
  };
  behind = let e : n ≡ n - 1 + 1 = omega arith in next ∙ ap (slice_get records) e;
}

pub none_at : (records : List Coefficient) (t : ℤ) (n : ℕ) (o : Option InForce) → BeginLater records t n → IfNone o (n ≡ 0)
    → IfNone o ((i : ℕ) (r : Coefficient) → slice_get records i ≡ Some r → units t <ᶠ units r.time)
none_at records t n (Some f) after zero = tt
none_at records t n None after zero = λ i r g. units_before t r.time (after i r (omega arith) g)
