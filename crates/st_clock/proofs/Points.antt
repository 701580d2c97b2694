-- What a search by halves finds among rising records.
use Rattle.std.proofs.Common.{◌≡◌, ℕ, ◌<◌, ◌≤◌, Bool, true, false, ℤ, ◌≤ℤ◌, ◌<ℤ◌, int_le, nat_le, inl, inr, List, Some, slice_get, get_or, sym, subst, arith}
use Rattle.std.specs.List.Sorted.{IsPartitionedBy, IsPartitionPoint}
use Rattle.std.proofs.lemmas.Bool.{cases_Bool}
use Rattle.std.proofs.lemmas.Bool.Decides.{nat_tests}
use Rattle.std.proofs.lemmas.Int.{ints}
use Rattle.std.proofs.lemmas.Option.{slice_get-get_or, get_or_from_slice_get, slice_get_within}
use Rattle.st_clock.specs.declared.coefficient.Coefficient.{Coefficient}
use Rattle.st_clock.specs.Clock.{AreRising}
use Rattle.st_clock.proofs.Lasts.{by_place}

earlier_passes : (x y t : ℤ) → x <ℤ y → int_le y t ≡ true → int_le x t ≡ true
earlier_passes x y t l p = elim (cases_Bool (int_le x t)) [ inl e ↦ e | inr e ↦ absurd (fails x y t l p e) ]
  where
    fails : (x y t : ℤ) → x <ℤ y → int_le y t ≡ true → int_le x t ≡ false → ⊥
    fails x y t l p e = omega (arith, ints)

lower_passes : (x y t : ℕ) → x < y → nat_le y t ≡ true → nat_le x t ≡ true
lower_passes x y t l p = grind (arith, nat_tests)

same_element : (records : List Coefficient) (i j : ℕ) (d : Coefficient) (p : Coefficient → Bool) → i ≡ j → p (get_or records j d) ≡ true → p (get_or records i d) ≡ true
same_element records i j d p e h = subst (λ n. p (get_or records n d) ≡ true) (sym e) h

-- the times of rising records, up to a time, come before those after it
pub times_parted : (records : List Coefficient) (time : ℤ) → AreRising records → IsPartitionedBy (λ r. int_le r.time time) records
times_parted records time rising i j d l m p =
    by_place i j
    (λ before.
    let u = rising i j (get_or records i d) (get_or records j d) before (slice_get-get_or records i d (omega arith)) (slice_get-get_or records j d m) in
    earlier_passes (get_or records i d).time (get_or records j d).time time u.1 p)
    (λ same. same_element records i j d (λ r. int_le r.time time) same p) (λ after. absurd (omega arith))

pub ticks_parted : (records : List Coefficient) (ticks : ℕ) → AreRising records → IsPartitionedBy (λ r. nat_le r.ticks ticks) records
ticks_parted records ticks rising i j d l m p =
    by_place i j
    (λ before.
    let u = rising i j (get_or records i d) (get_or records j d) before (slice_get-get_or records i d (omega arith)) (slice_get-get_or records j d m) in
    lower_passes (get_or records i d).ticks (get_or records j d).ticks ticks u.0 p)
    (λ same. same_element records i j d (λ r. nat_le r.ticks ticks) same p) (λ after. absurd (omega arith))

-- a record before the place that a search finds, and one from it on
before_point : (p : Coefficient → Bool) (records : List Coefficient) (n i : ℕ) (r : Coefficient) → IsPartitionPoint (λ y. p y ≡ true) (λ y. p y ≡ false) records n
    → i < n → slice_get records i ≡ Some r → p r ≡ true
before_point p records n i r point l g = subst (λ (s : Coefficient). p s ≡ true) (get_or_from_slice_get records i r r g) (point.0 i r (omega arith) l)

after_point : (p : Coefficient → Bool) (records : List Coefficient) (n i : ℕ) (r : Coefficient) → IsPartitionPoint (λ y. p y ≡ true) (λ y. p y ≡ false) records n
    → n ≤ i → slice_get records i ≡ Some r → p r ≡ false
after_point p records n i r point l g =
    subst (λ (s : Coefficient). p s ≡ false) (get_or_from_slice_get records i r r g) (point.1 i r l (slice_get_within records i r g))

pub time_before : (records : List Coefficient) (time : ℤ) (n i : ℕ) (r : Coefficient)
    → IsPartitionPoint (λ y. int_le y.time time ≡ true) (λ y. int_le y.time time ≡ false) records n → i < n → slice_get records i ≡ Some r → r.time ≤ℤ time
time_before records time n i r point l g = passed r.time time (before_point (λ y. int_le y.time time) records n i r point l g)
  where
    passed : (x t : ℤ) → int_le x t ≡ true → x ≤ℤ t
    passed x t e = omega (arith, ints)

pub time_after : (records : List Coefficient) (time : ℤ) (n i : ℕ) (r : Coefficient)
    → IsPartitionPoint (λ y. int_le y.time time ≡ true) (λ y. int_le y.time time ≡ false) records n → n ≤ i → slice_get records i ≡ Some r → time <ℤ r.time
time_after records time n i r point l g = failed r.time time (after_point (λ y. int_le y.time time) records n i r point l g)
  where
    failed : (x t : ℤ) → int_le x t ≡ false → t <ℤ x
    failed x t e = omega (arith, ints)

pub tick_before : (records : List Coefficient) (ticks n i : ℕ) (r : Coefficient)
    → IsPartitionPoint (λ y. nat_le y.ticks ticks ≡ true) (λ y. nat_le y.ticks ticks ≡ false) records n → i < n → slice_get records i ≡ Some r → r.ticks ≤ ticks
tick_before records ticks n i r point l g = passed r.ticks ticks (before_point (λ y. nat_le y.ticks ticks) records n i r point l g)
  where
    passed : (x t : ℕ) → nat_le x t ≡ true → x ≤ t
    passed x t e = grind (arith, nat_tests)

pub tick_after : (records : List Coefficient) (ticks n i : ℕ) (r : Coefficient)
    → IsPartitionPoint (λ y. nat_le y.ticks ticks ≡ true) (λ y. nat_le y.ticks ticks ≡ false) records n → n ≤ i → slice_get records i ≡ Some r → ticks < r.ticks
tick_after records ticks n i r point l g = failed r.ticks ticks (after_point (λ y. nat_le y.ticks ticks) records n i r point l g)
  where
    failed : (x t : ℕ) → nat_le x t ≡ false → t < x
    failed x t e = grind (arith, nat_tests)
