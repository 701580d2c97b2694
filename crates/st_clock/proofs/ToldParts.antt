-- Each rule of a clock's data type, time system and coefficients can be told.
use Rattle.std.proofs.Common.{◌≡◌, ℕ, zero, suc, ◌+◌, ◌*◌, ◌/◌, ◌^◌, ◌<◌, ◌≤◌, ℤ, pos, ◌+ℤ◌, ◌≤ℤ◌, ◌<ℤ◌, unsigned_abs, inl, inr, List, length, Option, Some, None, slice_get, refl, sym, subst, arith}
use Rattle.std.proofs.lemmas.Bool.{cases_lt}
use Rattle.std.proofs.lemmas.Int.{ints, by_lt_z}
use Rattle.std.proofs.lemmas.Option.{none-some, same_Some, slice_get_within}
use Rattle.st_decimal.specs.Limits.{units_bound}
use Rattle.st_decimal.specs.Scaling.{IsTimesTen}
use Rattle.st_decimal.specs.declared.number.Dec.{Dec}
use Rattle.st_scales.specs.declared.scale.Scale.{Scale}
use Rattle.st_scales.specs.declared.scale.Scale.TheVariants.{Tai, Tt, Tdb}
use Rattle.st_ticks.specs.Variables.{IsFrom}
use Rattle.st_ticks.specs.declared.variable.ClockFault.{ClockFault}
use Rattle.st_ticks.specs.declared.variable.ClockVar.{ClockVar}
use Rattle.st_ticks.specs.declared.variable.ClockVar.TheVariants.{DataType, TimeSystem, Coefficients}
use Rattle.st_ticks.specs.declared.variable.ClockWhy.{ClockWhy}
use Rattle.st_ticks.specs.declared.variable.ClockWhy.TheVariants.{NotOne, NotWhole, NotUnits, Range, Count, NotRising}
use Rattle.st_rules.proofs.Told.{IsTold, told_along, told_both, told_le, told_same}
use Rattle.st_ticks.proofs.ToldNumbers.{told_times, told_from}
use Rattle.st_clock.specs.Parts.{IsNumber, HasNumber, HasUnits, IsTick, IsTime, IsRate, IsSystem, EachThird, DoRise, KeepsType, KeepsSystem, KeepsCoefficients, KeepsPart, Keeps}
use Rattle.st_clock.proofs.PartLaws.{times_ten_is_one}
use Rattle.st_clock.proofs.RecordLaws.{tick_is_one, time_is_one}

told_less : (m n : ℕ) → IsTold (m < n)
told_less m n = elim (cases_lt m n) [ inl l ↦ inl l | inr g ↦ inr (λ h. absurd (omega (arith, g, h))) ]

told_less_z : (m n : ℤ) → IsTold (m <ℤ n)
told_less_z m n = by_lt_z m n (λ (l : m <ℤ n). inl l) (λ (g : n ≤ℤ m). inr (λ h. absurd (omega (arith, ints, g, h))))

told_same_z : (m n : ℤ) → IsTold (m ≡ n)
told_same_z m n =
    by_lt_z m n (λ (l : m <ℤ n). inr (λ e. absurd (omega (arith, ints, l, e))))
    (λ (g : n ≤ℤ m). by_lt_z n m (λ (l : n <ℤ m). inr (λ e. absurd (omega (arith, ints, l, e)))) (λ (h : m ≤ℤ n). inl (omega (arith, ints, g, h))))

-- the number of a decimal, and what is asked of it
told_that : (n power : ℤ) (P : ℤ → Type 0) → ((u : ℤ) → IsTold (P u)) → IsTold ((u : ℤ) × IsTimesTen n power u × P u)
told_that n power P told =
    elim (told_times n power) [
      | inr none ↦ inr (λ h. none (h.0, h.1))
      | inl a ↦ elim (told a.0) [
        | inl p ↦ inl (a.0, a.1, p)
        | inr never ↦ inr (λ h. never (subst P (times_ten_is_one n power h.0 a.0 h.1 a.1) h.2))
      ]
    ]

told_number : (d : Dec) (n : ℤ) → IsTold (IsNumber d n)
told_number d n =
    told_along ((u : ℤ) × IsTimesTen d.digits d.tens u × (u ≡ n)) (IsNumber d n) (λ h. subst (λ (z : ℤ). IsTimesTen d.digits d.tens z) h.2 h.1) (λ is. (n, is, refl))
    (told_that d.digits d.tens (λ u. u ≡ n) (λ u. told_same_z u n))

told_units : (d : Dec) → IsTold (HasUnits d)
told_units d =
    told_along ((u : ℤ) × IsTimesTen d.digits (d.tens +ℤ pos 18) u × (unsigned_abs u < units_bound)) (HasUnits d)
    (λ h. (h.0, record { value = h.1; below = h.2 })) (λ h. (h.0, h.1.value, h.1.below))
    (told_that d.digits (d.tens +ℤ pos 18) (λ u. unsigned_abs u < units_bound) (λ u. told_less (unsigned_abs u) units_bound))

told_tick : (d : Dec) → IsTold ((n : ℕ) × IsTick d n)
told_tick d =
    told_along (IsFrom 0 (10 ^ 18) d) ((n : ℕ) × IsTick d n) (λ h. (h.0, record { number = h.1; small = h.3 })) (λ h. (h.0, h.1.number, omega arith, h.1.small))
    (told_from 0 (10 ^ 18) d)

told_time : (d : Dec) → IsTold ((u : ℤ) × IsTime d u)
told_time d =
    told_along ((u : ℤ) × IsTimesTen d.digits (d.tens +ℤ pos 18) u × ((unsigned_abs u < units_bound) × (unsigned_abs u ≤ 10 ^ 28))) ((u : ℤ) × IsTime d u)
    (λ h. (h.0, record { units = record { value = h.1; below = h.2.0 }; small = h.2.1 })) (λ h. (h.0, h.1.units.value, (h.1.units.below, h.1.small)))
    (told_that d.digits (d.tens +ℤ pos 18) (λ u. (unsigned_abs u < units_bound) × (unsigned_abs u ≤ 10 ^ 28))
    (λ u. told_both (unsigned_abs u < units_bound) (unsigned_abs u ≤ 10 ^ 28) (told_less (unsigned_abs u) units_bound) (told_le (unsigned_abs u) (10 ^ 28))))

-- eighteen decimals further to the left
abbrev scaled : Dec → Dec
scaled d = record { digits = d.digits; tens = d.tens +ℤ pos 18 }

told_rate : (d : Dec) → IsTold ((n : ℕ) × IsRate d n)
told_rate d =
    told_along (IsFrom 1 (10 ^ 23) (scaled d)) ((n : ℕ) × IsRate d n)
    (λ h. (h.0, record { units = record { value = h.1; below = omega (arith, h.3) }; some = omega (arith, h.2); small = h.3 }))
    (λ h. (h.0, h.1.units.value, omega (arith, h.1.some), h.1.small)) (told_from 1 (10 ^ 23) (scaled d))

told_system : (d : Dec) → IsTold ((scale : Scale) × IsSystem d scale)
told_system d =
    elim (told_number d (pos 1)) [
      | inl is ↦ inl (Tdb, is)
      | inr first ↦ elim (told_number d (pos 2)) [ inl is ↦ inl (Tt, is) | inr second ↦ inr (λ h. none first second h.0 h.1) ]
    ]
  where
    none : (IsNumber d (pos 1) → ⊥) → (IsNumber d (pos 2) → ⊥) → (scale : Scale) → IsSystem d scale → ⊥
    none first second Tai h = h
    none first second Tt h = second h
    none first second Tdb h = first h

-- what stands at a place, and at all places
told_some : (o : Option Dec) (P : Dec → Type 0) → ((d : Dec) → IsTold (P d)) → IsTold ((d : Dec) → o ≡ Some d → P d)
told_some None P told = inl (λ d e. absurd (none-some d e))
told_some (Some a) P told = told_along (P a) ((d : Dec) → Some a ≡ Some d → P d) (λ p d e. subst P (same_Some a d e) p) (λ h. h a refl) (told a)

told_below : (P : ℕ → Type 0) → ((i : ℕ) → IsTold (P i)) → (n : ℕ) → IsTold ((i : ℕ) → i < n → P i)
told_below P told zero = inl (λ i l. absurd (omega (arith, l)))
told_below P told (suc n) =
    elim (told n) [
      | inr never ↦ inr (λ h. never (h n (omega arith)))
      | inl held ↦ elim (told_below P told n) [
        | inr never ↦ inr (λ h. never (λ i l. h i (omega (arith, l))))
        | inl all ↦ inl (λ i l. elim (cases_lt i n) [ inl b ↦ all i b | inr g ↦ subst P (last i l g) held ])
      ]
    ]
  where
    last : (i : ℕ) → i < suc n → n ≤ i → n ≡ i
    last i l g = omega arith

told_third : (k : ℕ) (values : List Dec) (P : Dec → Type 0) → ((d : Dec) → IsTold (P d)) → IsTold (EachThird k values P)
told_third k values P told =
    told_along ((i : ℕ) → i < length values → (d : Dec) → slice_get values (3 * i + k) ≡ Some d → P d) (EachThird k values P)
    (λ h i d g. h i (before i (slice_get_within values (3 * i + k) d g)) d g) (λ h i l d g. h i d g)
    (told_below (λ i. (d : Dec) → slice_get values (3 * i + k) ≡ Some d → P d) (λ i. told_some (slice_get values (3 * i + k)) P told) (length values))
  where
    before : (i : ℕ) → 3 * i + k < length values → i < length values
    before i l = omega arith

told_each : (values : List Dec) (P : Dec → Type 0) → ((d : Dec) → IsTold (P d)) → IsTold ((i : ℕ) (d : Dec) → slice_get values i ≡ Some d → P d)
told_each values P told =
    told_along ((i : ℕ) → i < length values → (d : Dec) → slice_get values i ≡ Some d → P d) ((i : ℕ) (d : Dec) → slice_get values i ≡ Some d → P d)
    (λ h i d g. h i (slice_get_within values i d g) d g) (λ h i l d g. h i d g)
    (told_below (λ i. (d : Dec) → slice_get values i ≡ Some d → P d) (λ i. told_some (slice_get values i) P told) (length values))

-- two that stand there rise, whatever each of them is
abbrev Rise : {N : Type 0} → (Dec → N → Type 0) → (N → N → Type 0) → Option Dec → Option Dec → Type 0
Rise {N} Is Less x y = (a b : Dec) (m n : N) → x ≡ Some a → y ≡ Some b → Is a m → Is b n → Less m n

module _ {N : Type 0} (Is : Dec → N → Type 0) (Less : N → N → Type 0) (told : (d : Dec) → IsTold ((n : N) × Is d n))
    (one : (d : Dec) (m n : N) → Is d m → Is d n → m ≡ n) (told_order : (m n : N) → IsTold (Less m n)) where
  told_pair : (x y : Option Dec) → IsTold (Rise Is Less x y)
  told_pair None y = inl (λ a b m n e f s t. absurd (none-some a e))
  told_pair (Some c) None = inl (λ a b m n e f s t. absurd (none-some b f))
  told_pair (Some c) (Some d) =
      elim (told c) [
        | inr none ↦ inl (λ a b m n e f s t. absurd (none (m, subst (λ (z : Dec). Is z m) (sym (same_Some c a e)) s)))
        | inl j ↦ elim (told d) [
          | inr none ↦ inl (λ a b m n e f s t. absurd (none (n, subst (λ (z : Dec). Is z n) (sym (same_Some d b f)) t)))
          | inl k ↦ elim (told_order j.0 k.0) [
            | inr never ↦ inr (λ h. never (h c d j.0 k.0 refl refl j.1 k.1))
            | inl l ↦ inl (λ a b m n e f s t.
                let first = one c j.0 m j.1 (subst (λ (z : Dec). Is z m) (sym (same_Some c a e)) s) in
                let second = one d k.0 n k.1 (subst (λ (z : Dec). Is z n) (sym (same_Some d b f)) t) in
                subst (λ (z : N). Less m z) second (subst (λ (z : N). Less z k.0) first l))
          ]
        ]
      ]

  told_rise : (k : ℕ) (values : List Dec) → IsTold ((i : ℕ) → Rise Is Less (slice_get values (3 * i + k)) (slice_get values (3 * (i + 1) + k)))
  told_rise k values =
      told_along ((i : ℕ) → i < length values → Rise Is Less (slice_get values (3 * i + k)) (slice_get values (3 * (i + 1) + k)))
      ((i : ℕ) → Rise Is Less (slice_get values (3 * i + k)) (slice_get values (3 * (i + 1) + k)))
      (λ h i a b m n e f. h i (before i (slice_get_within values (3 * i + k) a e)) a b m n e f) (λ h i l. h i)
      (told_below (λ i. Rise Is Less (slice_get values (3 * i + k)) (slice_get values (3 * (i + 1) + k)))
      (λ i. told_pair (slice_get values (3 * i + k)) (slice_get values (3 * (i + 1) + k))) (length values))
    where
      before : (i : ℕ) → 3 * i + k < length values → i < length values
      before i l = omega arith

told_rising : (values : List Dec) → IsTold (DoRise values)
told_rising values =
    elim (told_rise IsTick ◌<◌ told_tick tick_is_one told_less 0 values) [
      | inr never ↦ inr (λ h. never h.ticks)
      | inl ticks ↦ elim (told_rise IsTime ◌<ℤ◌ told_time time_is_one told_less_z 1 values) [
        | inr never ↦ inr (λ h. never h.times)
        | inl times ↦ inl (record { ticks = ticks; times = times })
      ]
    ]

told_count : (l : ℕ) → IsTold ((n : ℕ) × ((0 < n) × (l ≡ 3 * n)))
told_count l =
    elim (told_both (0 < l / 3) (l ≡ 3 * (l / 3)) (told_less 0 (l / 3)) (told_same l (3 * (l / 3)))) [
      | inl h ↦ inl (l / 3, h)
      | inr never ↦ inr (λ h. never (thirds h.0 h.1.0 h.1.1))
    ]
  where
    thirds : (n : ℕ) → 0 < n → l ≡ 3 * n → (0 < l / 3) × (l ≡ 3 * (l / 3))
    thirds n p e = (omega arith, omega arith)

-- the rules of the three variables
told_type : (values : List Dec) (why : ClockWhy) → IsTold (KeepsType values why)
told_type values NotOne = told_same (length values) 1
told_type values Range = told_each values (λ d. IsNumber d (pos 1)) (λ d. told_number d (pos 1))
told_type values _ = inl tt

told_of_system : (values : List Dec) (why : ClockWhy) → IsTold (KeepsSystem values why)
told_of_system values NotOne = told_le (length values) 1
told_of_system values Range = told_each values (λ d. (scale : Scale) × IsSystem d scale) told_system
told_of_system values _ = inl tt

told_coefficients : (values : List Dec) (why : ClockWhy) → IsTold (KeepsCoefficients values why)
told_coefficients values Count = told_count (length values)
told_coefficients values NotWhole = told_third 0 values HasNumber (λ d. told_times d.digits d.tens)
told_coefficients values NotUnits =
    told_both (EachThird 1 values HasUnits) (EachThird 2 values HasUnits) (told_third 1 values HasUnits told_units) (told_third 2 values HasUnits told_units)
told_coefficients values Range =
    told_both (EachThird 0 values (λ d. (n : ℕ) × IsTick d n)) (EachThird 1 values (λ d. (u : ℤ) × IsTime d u) × EachThird 2 values (λ d. (n : ℕ) × IsRate d n))
    (told_third 0 values (λ d. (n : ℕ) × IsTick d n) told_tick)
    (told_both (EachThird 1 values (λ d. (u : ℤ) × IsTime d u)) (EachThird 2 values (λ d. (n : ℕ) × IsRate d n))
    (told_third 1 values (λ d. (u : ℤ) × IsTime d u) told_time) (told_third 2 values (λ d. (n : ℕ) × IsRate d n) told_rate))
told_coefficients values NotRising = told_rising values
told_coefficients values _ = inl tt

told_part : (dt ts cs : List Dec) (var : ClockVar) (why : ClockWhy) → IsTold (KeepsPart dt ts cs var why)
told_part dt ts cs DataType why = told_type dt why
told_part dt ts cs TimeSystem why = told_of_system ts why
told_part dt ts cs Coefficients why = told_coefficients cs why
told_part dt ts cs _ why = inl tt

pub told_rule : (dt ts cs : List Dec) (fault : ClockFault) → IsTold (Keeps dt ts cs fault)
told_rule dt ts cs fault = told_part dt ts cs fault.var fault.why
