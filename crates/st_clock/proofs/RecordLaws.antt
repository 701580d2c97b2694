-- The first fault of a clock's coefficients.
use Rattle.std.proofs.Common.{◌≡◌, ◌≢◌, ℕ, ◌+◌, ◌*◌, ◌/◌, ◌%◌, ◌<◌, ◌≤◌, ◌-◌, ℤ, pos, FitsSigned, ◌+ℤ◌, ◌<ℤ◌, ◌⊎◌, inl, inr, true, false, ◌==◌, List, [], ◌∷◌, length, Some, Ok, Err, slice_get, get_or, refl, sym, subst, arith}
use Rattle.std.proofs.lemmas.Bool.Decides.{nat_tests}
use Rattle.std.specs.Int.{w128}
use Rattle.std.proofs.lemmas.Int.{ints}
use Rattle.std.proofs.lemmas.Option.{slice_get-get_or, slice_get_within, get_or_from_slice_get}
use Rattle.st_decimal.specs.declared.number.Dec.{Dec}
use Rattle.st_ticks.specs.declared.fault.FaceFault.{FaceFault}
use Rattle.st_ticks.specs.declared.fault.FaceFault.TheVariants.{Bad, OutOfMemory}
use Rattle.st_ticks.specs.declared.variable.ClockVar.TheVariants.{Coefficients}
use Rattle.st_ticks.specs.declared.variable.ClockWhy.TheVariants.{NotWhole, NotUnits, Range, Count, NotRising}
use Rattle.st_clock.specs.declared.coefficient.Coefficient.{Coefficient}
use Rattle.st_clock.specs.Parts.{IsTick, IsTime, IsRate, AreRecords, EachThird, HasNumber, HaveSteps, DoRise, KeepsCoefficients, GivesRecords, fault}
use Rattle.st_clock.specs.SmallSteps.{AreSmall}
use Rattle.st_clock.proofs.Lasts.{by_place}
use Rattle.st_clock.proofs.PartLaws.{times_ten_is_one}

broken_count : (values : List Dec) → (KeepsCoefficients values Count → ⊥) → GivesRecords values (Err (Bad (fault Coefficients Count)))
broken_count values never = record {
  before = [];
  after = fault Coefficients NotWhole ∷ fault Coefficients NotUnits ∷ fault Coefficients Range ∷ fault Coefficients NotRising ∷ [];
  stands = refl;
  kept = tt;
  broken = never;
}

pub empty_count : (values : List Dec) → true ≡ (length values == 0) → GivesRecords values (Err (Bad (fault Coefficients Count)))
empty_count values e = broken_count values (λ h. none (length values) h.0 e h.1.0 h.1.1)
  where
    none : (m n : ℕ) → true ≡ (m == 0) → 0 < n → m ≡ 3 * n → ⊥
    none m n e p h = let z : m ≡ 0 = grind (arith, nat_tests) in omega arith

pub part_count : (values : List Dec) → (length values % 3 ≢ 0) → GivesRecords values (Err (Bad (fault Coefficients Count)))
part_count values never = broken_count values (λ h. whole (length values) h.0 never h.1.1)
  where
    whole : (m n : ℕ) → (m % 3 ≢ 0) → m ≡ 3 * n → ⊥
    whole m n never h = never (omega (arith, h))

pub counted : (values : List Dec) → false ≡ (length values == 0) → length values % 3 ≡ 0 → KeepsCoefficients values Count
counted values e m = (length values / 3, go (length values) e m)
  where
    go : (n : ℕ) → false ≡ (n == 0) → n % 3 ≡ 0 → (0 < n / 3) × (n ≡ 3 * (n / 3))
    go n e m = let s : 0 < n = grind (arith, nat_tests) in (omega arith, omega arith)

pub broken_whole : (values : List Dec) → KeepsCoefficients values Count → (EachThird 0 values HasNumber → ⊥) → GivesRecords values (Err (Bad (fault Coefficients NotWhole)))
broken_whole values a never = record {
  before = fault Coefficients Count ∷ [];
  after = fault Coefficients NotUnits ∷ fault Coefficients Range ∷ fault Coefficients NotRising ∷ [];
  stands = refl;
  kept = (a, tt);
  broken = never;
}

pub broken_units : (values : List Dec) → KeepsCoefficients values Count → EachThird 0 values HasNumber → (KeepsCoefficients values NotUnits → ⊥)
    → GivesRecords values (Err (Bad (fault Coefficients NotUnits)))
broken_units values a b never = record {
  before = fault Coefficients Count ∷ fault Coefficients NotWhole ∷ [];
  after = fault Coefficients Range ∷ fault Coefficients NotRising ∷ [];
  stands = refl;
  kept = (a, (b, tt));
  broken = never;
}

pub broken_range : (values : List Dec) (e : FaceFault) → KeepsCoefficients values Count → EachThird 0 values HasNumber → KeepsCoefficients values NotUnits
    → (e ≡ OutOfMemory) ⊎ ((e ≡ Bad (fault Coefficients Range)) × (KeepsCoefficients values Range → ⊥)) → GivesRecords values (Err e)
broken_range values e a b d (inl f) = subst (λ (x : FaceFault). GivesRecords values (Err x)) (sym f) tt
broken_range values e a b d (inr f) = subst (λ (x : FaceFault). GivesRecords values (Err x)) (sym f.0) (record {
  before = fault Coefficients Count ∷ fault Coefficients NotWhole ∷ fault Coefficients NotUnits ∷ [];
  after = fault Coefficients NotRising ∷ [];
  stands = refl;
  kept = (a, (b, (d, tt)));
  broken = f.1;
})

-- each third of the values is a record's
record_there : (values : List Dec) (records : List Coefficient) (i k : ℕ) (d : Dec) → AreRecords values records → k < 3 → slice_get values (3 * i + k) ≡ Some d
    → (r : Coefficient) × (slice_get records i ≡ Some r)
record_there values records i k d are l g =
    let w = slice_get_within values (3 * i + k) d g in
    let n : 0 < length records = omega (arith, are.as_many) in
    (get_or records i none, slice_get-get_or records i none (omega (arith, are.as_many)))
  where
    none : Coefficient
    none = record { ticks = 0; time = pos 0; rate = 0 }

pub same_value : (a b : Dec) (values : List Dec) (i : ℕ) → slice_get values i ≡ Some a → slice_get values i ≡ Some b → a ≡ b
same_value a b values i g h = cc

pub range_kept : (values : List Dec) (records : List Coefficient) → AreRecords values records → KeepsCoefficients values Range
range_kept values records are = (
  λ i d g.
      let r = record_there values records i 0 d are (omega arith) g in
      let at = are.each i r.0 r.1 in
      (r.0.ticks, subst (λ (x : Dec). IsTick x r.0.ticks) (same_value at.tick d values (3 * i + 0) at.tick_here g) at.tick_is),
  (
    λ i d g.
        let r = record_there values records i 1 d are (omega arith) g in
        let at = are.each i r.0 r.1 in
        (r.0.time, subst (λ (x : Dec). IsTime x r.0.time) (same_value at.time d values (3 * i + 1) at.time_here g) at.time_is),
    λ i d g.
        let r = record_there values records i 2 d are (omega arith) g in
        let at = are.each i r.0 r.1 in
        (r.0.rate, subst (λ (x : Dec). IsRate x r.0.rate) (same_value at.rate d values (3 * i + 2) at.rate_here g) at.rate_is),
  ),
)

pub tick_is_one : (d : Dec) (m n : ℕ) → IsTick d m → IsTick d n → m ≡ n
tick_is_one d m n a b = let e = times_ten_is_one d.digits d.tens (pos m) (pos n) a.number b.number in omega (arith, ints, e)

pub time_is_one : (d : Dec) (t u : ℤ) → IsTime d t → IsTime d u → t ≡ u
time_is_one d t u a b = times_ten_is_one d.digits (d.tens +ℤ pos 18) t u a.units.value b.units.value

-- the values rise where the records do
pub values_rise : (values : List Dec) (records : List Coefficient) → AreRecords values records → HaveSteps records → DoRise values
values_rise values records are steps = record {
  ticks = λ i a b m n g h s t.
      let r = record_there values records i 0 a are (omega arith) g in
      let q = record_there values records (i + 1) 0 b are (omega arith) h in
      let x = are.each i r.0 r.1 in
      let y = are.each (i + 1) q.0 q.1 in
      let e = tick_is_one a r.0.ticks m (subst (λ (z : Dec). IsTick z r.0.ticks) (same_value x.tick a values (3 * i + 0) x.tick_here g) x.tick_is) s in
      let f = tick_is_one b q.0.ticks n (subst (λ (z : Dec). IsTick z q.0.ticks) (same_value y.tick b values (3 * (i + 1) + 0) y.tick_here h) y.tick_is) t in
      less r.0.ticks q.0.ticks m n e f (steps i r.0 q.0 r.1 q.1).0;
  times = λ i a b u v g h s t.
      let r = record_there values records i 1 a are (omega arith) g in
      let q = record_there values records (i + 1) 1 b are (omega arith) h in
      let x = are.each i r.0 r.1 in
      let y = are.each (i + 1) q.0 q.1 in
      let e = time_is_one a r.0.time u (subst (λ (z : Dec). IsTime z r.0.time) (same_value x.time a values (3 * i + 1) x.time_here g) x.time_is) s in
      let f = time_is_one b q.0.time v (subst (λ (z : Dec). IsTime z q.0.time) (same_value y.time b values (3 * (i + 1) + 1) y.time_here h) y.time_is) t in
      earlier r.0.time q.0.time u v e f (steps i r.0 q.0 r.1 q.1).1;
}
  where
    less : (a b m n : ℕ) → a ≡ m → b ≡ n → a < b → m < n
    less a b m n e f l = omega arith

    earlier : (a b m n : ℤ) → a ≡ m → b ≡ n → a <ℤ b → m <ℤ n
    earlier a b m n e f l = omega (arith, ints, e, f, l)

pub records_rise : (values : List Dec) (records : List Coefficient) → AreRecords values records → DoRise values → HaveSteps records
records_rise values records are rise i r s g h =
    let x = are.each i r g in
    let y = are.each (i + 1) s h in (
      rise.ticks i x.tick y.tick r.ticks s.ticks x.tick_here y.tick_here x.tick_is y.tick_is,
      rise.times i x.time y.time r.time s.time x.time_here y.time_here x.time_is y.time_is,
    )

pub broken_rising : (values : List Dec) (records : List Coefficient) → KeepsCoefficients values Count → EachThird 0 values HasNumber → KeepsCoefficients values NotUnits
    → AreRecords values records → (HaveSteps records → ⊥) → GivesRecords values (Err (Bad (fault Coefficients NotRising)))
broken_rising values records a b d are never = record {
  before = fault Coefficients Count ∷ fault Coefficients NotWhole ∷ fault Coefficients NotUnits ∷ fault Coefficients Range ∷ [];
  after = [];
  stands = refl;
  kept = (a, (b, (d, (range_kept values records are, tt))));
  broken = λ rise. never (records_rise values records are rise);
}

pub records_found : (values : List Dec) (records : List Coefficient) → KeepsCoefficients values Count → EachThird 0 values HasNumber → KeepsCoefficients values NotUnits
    → AreRecords values records → HaveSteps records → GivesRecords values (Ok records)
records_found values records a b d are steps = ((a, (b, (d, (range_kept values records are, (values_rise values records are steps, tt))))), are)

pub records_small : (values : List Dec) (records : List Coefficient) → AreRecords values records → AreSmall records
records_small values records are i r g =
    let at = are.each i r g in
    record { ticks = at.tick_is.small; time = at.time_is.small; rate = at.rate_is.small }

-- the steps up to a place, and one more
pub one_more_step : (records : List Coefficient) (i : ℕ) (a b : Coefficient) → i + 1 < length records
    → ((k : ℕ) (r s : Coefficient) → k < i → slice_get records k ≡ Some r → slice_get records (k + 1) ≡ Some s → (r.ticks < s.ticks) × (r.time <ℤ s.time))
    → ((get_or records i a).ticks < (get_or records (i + 1) b).ticks) × ((get_or records i a).time <ℤ (get_or records (i + 1) b).time)
    → (k : ℕ) (r s : Coefficient) → k < i + 1 → slice_get records k ≡ Some r → slice_get records (k + 1) ≡ Some s → (r.ticks < s.ticks) × (r.time <ℤ s.time)
one_more_step records i a b l inv step k r s m g h =
    by_place k i (λ before. inv k r s before g h)
    (λ same.
    let x : get_or records i a ≡ r = get_or_from_slice_get records i r a (subst (λ n. slice_get records n ≡ Some r) same g) in
    let y : get_or records (i + 1) b ≡ s = get_or_from_slice_get records (i + 1) s b (subst (λ n. slice_get records (n + 1) ≡ Some s) same h) in
    along (get_or records i a) r (get_or records (i + 1) b) s x y step)
    (λ after. absurd (omega arith))
  where
    along : (a r b s : Coefficient) → a ≡ r → b ≡ s → (a.ticks < b.ticks) × (a.time <ℤ b.time) → (r.ticks < s.ticks) × (r.time <ℤ s.time)
    along a r b s x y h = subst (λ (z : Coefficient). (r.ticks < z.ticks) × (r.time <ℤ z.time)) y (subst (λ (w : Coefficient). (w.ticks < b.ticks) × (w.time <ℤ b.time)) x h)

pub all_steps : (records : List Coefficient) (i : ℕ) → length records - 1 ≤ i
    → ((k : ℕ) (r s : Coefficient) → k < i → slice_get records k ≡ Some r → slice_get records (k + 1) ≡ Some s → (r.ticks < s.ticks) × (r.time <ℤ s.time))
    → HaveSteps records
all_steps records i l inv k r s g h = let w = slice_get_within records (k + 1) s h in inv k r s (omega arith) g h

pub small_at : (records : List Coefficient) (i : ℕ) (d : Coefficient) → AreSmall records → i < length records → FitsSigned w128 (get_or records i d).time
small_at records i d small l = let s = small i (get_or records i d) (slice_get-get_or records i d l) in omega (arith, ints, s.time)
