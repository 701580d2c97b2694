-- Each tick of a clock has one time, or one reason why it has none; each is spelled in one way.
use Rattle.std.proofs.Common.{◌≡◌, ◌⊎◌, inl, inr, ℕ, ◌+◌, ◌-◌, ◌*◌, ◌/◌, ◌%◌, ◌<◌, ◌≤◌, pos, ◌+ℤ◌, List, Result, Ok, Err, refl, sym, ◌∙◌, arith}
use Rattle.std.proofs.lemmas.Bool.{cases_lt}
use Rattle.st_text.specs.Bytes.{decimal_digits}
use Rattle.st_clock.specs.Clock.{Clock, IsClock, IsLast, IsTimeOf, StartsBy, line_time, tpm}
use Rattle.st_clock.specs.Time.{GivesTime, IsInRange, value_of}
use Rattle.st_clock.specs.declared.coefficient.Coefficient.{Coefficient}
use Rattle.st_clock.specs.declared.point.ClockRange.{ClockRange}
use Rattle.st_clock.specs.declared.point.ClockRange.TheVariants as ranges
use Rattle.st_clock.specs.declared.point.Point.{Point}
use Rattle.st_clock.proofs.Answered.{time_answer_is_one}
use Rattle.st_clock.proofs.Faces.{tpm_some}
use Rattle.st_clock.proofs.Lasts.{last_found}
use Rattle.st_clock.proofs.Ranges.{parts_are_time}
use Rattle.st_dates.specs.Range.{range_end, range_start}
use Rattle.st_fraction.specs.Fraction.{◌≤ᶠ◌, ◌<ᶠ◌, ◌≈ᶠ◌, units}
use Rattle.st_fraction.proofs.Order.{le_f_cases, not_both_f}
use Rattle.st_routes.specs.Outcome.{IsTickText}
use Rattle.st_routes.specs.Source.{TimeGives}
use Rattle.st_routes.specs.declared.fault.TimeFault.{TimeFault}
use Rattle.st_routes.specs.declared.fault.TimeFault.TheVariants as faults
use Rattle.st_routes.specs.declared.ticks.TickForm.{TickForm}
use Rattle.st_routes.specs.declared.ticks.TickForm.TheVariants as tick
use Rattle.st_routes.proofs.Faults.{one_time}
use Rattle.st_routes.proofs.Values.{value_is}
use Rattle.st_ticks.specs.TickMachine.{canonical}
use Rattle.st_ticks.proofs.FaceLaws.{canonical_is_one}

later : (k s : ℕ) → (s ≤ k → ⊥) → k < s
later k s none = elim (cases_lt k s) [ inl l ↦ l | inr l ↦ absurd (none l) ]

not-later : (k s : ℕ) → k < s → s ≤ k → ⊥
not-later k s l h = omega (arith, l, h)

less : (n d : ℕ) → 0 < d → n % d < d
less n d some = omega (arith, some)

outside : (c : Clock) (k : ℕ) (p : Point) → p.part < p.of → IsTimeOf c k (value_of p) → (IsInRange (value_of p) → ⊥) → GivesTime c k (Err ranges.OutOfRange)
outside c k p part time none = (value_of p, (value_is p part, (time, none)))

-- the time on the line of the record that is in force
on-line : (c : Clock) (k i : ℕ) (r : Coefficient) → IsClock c → IsLast (StartsBy k) c.records i r → (answer : Result Point ClockRange) × GivesTime c k answer
on-line c k i r is last =
    let d = tpm c in
    let u = r.time +ℤ pos ((k - r.ticks) / d * r.rate + (k - r.ticks) % d * r.rate / d) in
    let a = (k - r.ticks) % d * r.rate % d in
    let p : Point = record { units = u; part = a; of = d } in
    let part : a < d = less ((k - r.ticks) % d * r.rate) d (tpm_some c is) in
    let same : value_of p ≈ᶠ line_time d r k = parts_are_time d r k u a (tpm_some c is) last.holds refl refl in
    let time : IsTimeOf c k (value_of p) = record { place = i; by = r; last = last; value = same } in
    le_f_cases (units range_start) (value_of p)
    (λ (low : units range_start ≤ᶠ value_of p).
    le_f_cases (value_of p) (units range_end) (λ (high : value_of p ≤ᶠ units range_end). (Ok p, (time, (record { from = low; to = high }, (part, refl)))))
    (λ (above : units range_end <ᶠ value_of p). (Err ranges.OutOfRange, outside c k p part time (λ range. not_both_f (value_of p) (units range_end) range.to above))))
    (λ (below : value_of p <ᶠ units range_start).
    (Err ranges.OutOfRange, outside c k p part time (λ range. not_both_f (units range_start) (value_of p) range.from below)))

time-found : (c : Clock) (k : ℕ) → IsClock c → (answer : Result Point ClockRange) × GivesTime c k answer
time-found c k is =
    elim (last_found (StartsBy k) decide c.records) [
      | inl l ↦ on-line c k l.0 l.1.0 is l.1.1
      | inr none ↦ (Err ranges.Before, λ i r g. later k r.ticks (none i r g))
    ]
  where
    decide : (r : Coefficient) → StartsBy k r ⊎ (StartsBy k r → ⊥)
    decide r = elim (cases_lt k r.ticks) [ inl l ↦ inr (not-later k r.ticks l) | inr l ↦ inl l ]

pub tick-timed : (c : Clock) (k : ℕ) → IsClock c → (answer : Result Point TimeFault) × TimeGives c k answer
tick-timed c k is = let f = time-found c k is in by f.0 f.1
  where
    by : (found : Result Point ClockRange) → GivesTime c k found → (answer : Result Point TimeFault) × TimeGives c k answer
    by (Ok p) g = (Ok p, g)
    by (Err ranges.Before) g = (Err faults.BeforeClock, g)
    by (Err ranges.OutOfRange) g = (Err faults.OutOfRange, g)

pub one-time : (c : Clock) (k : ℕ) (a b : Result Point TimeFault) → IsClock c → TimeGives c k a → TimeGives c k b → a ≡ b
one-time c k a b is g h =
    let f = time-found c k is in
    let only : (other : Result Point ClockRange) → GivesTime c k other → f.0 ≡ other = λ other t. time_answer_is_one c k f.0 other is f.1 t in
    sym (one_time c k f.0 only a g) ∙ one_time c k f.0 only b h

pub tick-text-found : (c : Clock) (form : TickForm) (k : ℕ) → IsClock c → (text : List ℕ) × IsTickText c form k text
tick-text-found c tick.Clock k is = (canonical c.face k, (canonical_is_one c.face k (canonical c.face k) is.face).1 refl)
tick-text-found c tick.Ticks k is = (decimal_digits k, refl)

pub one-tick-text : (c : Clock) (form : TickForm) (k : ℕ) (a b : List ℕ) → IsClock c → IsTickText c form k a → IsTickText c form k b → a ≡ b
one-tick-text c tick.Clock k a b is g h = (canonical_is_one c.face k a is.face).0 g ∙ sym ((canonical_is_one c.face k b is.face).0 h)
one-tick-text c tick.Ticks k a b is g h = g ∙ sym h
