-- What the calls of a clock answer, from what they find.
use Rattle.std.proofs.Common.{◌≡◌, ◌≢◌, ℕ, ◌+◌, ◌*◌, ◌^◌, ◌<◌, ◌≤◌, ℤ, pos, ◌+ℤ◌, ◌*ℤ◌, ◌≤ℤ◌, ◌<ℤ◌, inl, inr, List, Option, Some, Result, Ok, Err, slice_get, refl, sym, ◌∙◌, ap, subst, lit<, arith, mul-pos}
use Rattle.std.specs.Option.{ForSome}
use Rattle.std.proofs.lemmas.Int.{ints, by_lt_z}
use Rattle.st_fraction.specs.Fraction.{Fraction, IsFraction, ◌<ᶠ◌, ◌≈ᶠ◌, over, units, ◌+ᶠ◌}
use Rattle.st_fraction.specs.Floor.{IsFloor}
use Rattle.st_fraction.proofs.Ring.{lin, add-mul_z, one-mul_z, le-mul_z}
use Rattle.st_fraction.proofs.Order.{le_f_trans, le_of_same, same_refl, same_sym, not_both_f}
use Rattle.st_fraction.proofs.Scale.{at_le}
use Rattle.st_fraction.proofs.Floors.{floor_below, floor_found}
use Rattle.st_dates.specs.Range.{range_start, range_end}
use Rattle.st_clock.specs.declared.coefficient.Coefficient.{Coefficient}
use Rattle.st_clock.specs.declared.point.ClockRange.{ClockRange}
use Rattle.st_clock.specs.declared.point.ClockRange.TheVariants.{Before as NoRecord, OutOfRange}
use Rattle.st_clock.specs.declared.point.Point.{Point}
use Rattle.st_clock.specs.declared.ticks.Ticks.{Ticks}
use Rattle.st_clock.specs.declared.ticks.Ticks.TheVariants.{Before, At, After}
use Rattle.st_clock.specs.declared.ticks.TicksUndecided.{TicksUndecided}
use Rattle.st_clock.specs.Clock.{Clock, tpm, total, AreRising, IsClock, BeginsBy, StartsBy, IsTimeOf, line_time}
use Rattle.st_clock.specs.InForceSteps.{IsInForce}
use Rattle.st_clock.specs.KeptSteps.{IsSound}
use Rattle.st_clock.specs.NearestSteps.{IsFloorOrFar}
use Rattle.st_clock.specs.SmallSteps.{IsSmall}
use Rattle.st_clock.specs.Tick.{line_tick, capped, IsNumberOf, TickOf, GivesTicks}
use Rattle.st_clock.specs.Time.{value_of, IsInRange, HasNoTime, GivesTime}
use Rattle.st_clock.proofs.Falls.{line_tick-den, capped-den, half_more-den}
use Rattle.st_clock.proofs.Rising.{line_time-den, time_is_one}
use Rattle.st_clock.proofs.Ranges.{parted, parted_at, parted-den}

pub rising_of : (c : Clock) (records : List Coefficient) → IsSound c → records ≡ c.records → AreRising records
rising_of c records s e = subst AreRising (sym e) s.clock.rising

module _ (P : Coefficient → Type 0) (c : Clock) (records : List Coefficient) (r : Coefficient) (next : Option Coefficient) where
  pub force_rate : IsSound c → records ≡ c.records → IsInForce P records r next → 0 < r.rate
  force_rate s e f = let g = rw e at f in s.clock.rates g.place r g.last.here

  pub force_small : IsSound c → records ≡ c.records → IsInForce P records r next → IsSmall r
  force_small s e f = let g = rw e at f in s.small g.place r g.last.here

  pub next_small : IsSound c → records ≡ c.records → IsInForce P records r next → ForSome next IsSmall
  next_small s e f = let g = rw e at f in λ x is. s.small (g.place + 1) x (sym g.behind ∙ is)

-- the tick of a time, from the number that is found
module _ (c : Clock) (records : List Coefficient) (p : ℕ) (v : Fraction) (r : Coefficient) (next : Option Coefficient) (n : ℕ) where
  number_at : IsSound c → records ≡ c.records → p ≡ tpm c → IsInForce (BeginsBy v) records r next → (m : ℤ)
      → IsFloor (capped next (line_tick p r v) +ᶠ over (pos 1) 2) m → IsNumberOf c v m
  number_at s e g f m floor =
      let f2 = rw e at f in
      let floor2 = rw (f2.behind, g) at floor in
      record { place = f2.place; by = r; last = f2.last; rounded = floor2 }

  pub answer_at : IsSound c → records ≡ c.records → p ≡ tpm c → (t : ℕ) → t ≡ total c → t ≤ 10 ^ 18 → IsInForce (BeginsBy v) records r next
      → IsFloorOrFar (capped next (line_tick p r v) +ᶠ over (pos 1) 2) n → n ≤ t → TickOf c v (At n)
  answer_at s e g t h few f floor l = (
    number_at s e g f (pos n) (record {
      at_most = floor.at_most;
      below_next = elim floor.next [ inl k ↦ k | inr far ↦ absurd (omega arith) ];
    }),
    rw h at l,
  )

  pub answer_after : IsSound c → records ≡ c.records → p ≡ tpm c → (t : ℕ) → t ≡ total c → 0 < v.den → IsInForce (BeginsBy v) records r next
      → IsFloorOrFar (capped next (line_tick p r v) +ᶠ over (pos 1) 2) n → t < n → TickOf c v After
  answer_after s e g t h pv f floor l =
      let some : 0 < r.rate = force_rate (BeginsBy v) c records r next s e f in
      let x = capped next (line_tick p r v) +ᶠ over (pos 1) 2 in
      let px : 0 < x.den = half_more-den (capped next (line_tick p r v)) (capped-den next (line_tick p r v) (line_tick-den p r v some pv)) in
      let m = floor_found x px in
      let k = floor_below x (pos n) m.0 px floor.at_most m.1 in
      (m.0, (number_at s e g f m.0 m.1, further n m.0 k t (total c) h l))
    where
      further : (n : ℕ) (m : ℤ) → pos n ≤ℤ m → (t u : ℕ) → t ≡ u → t < n → pos u <ℤ m
      further n m k t u h l = omega (arith, ints, k)

pub answer_before : (c : Clock) (records : List Coefficient) (v : Fraction) → records ≡ c.records
    → ((i : ℕ) (r : Coefficient) → slice_get records i ≡ Some r → v <ᶠ units r.time) → TickOf c v Before
answer_before c records v e h = rw e at h

-- the ticks of the ends of an enclosure
pub same_ticks : (c : Clock) (lo hi : Fraction) (a b : Ticks) → TickOf c lo a → TickOf c hi b → a ≡ b → GivesTicks c lo hi (Ok a)
same_ticks c lo hi a b g h e = (g, subst (TickOf c hi) (sym e) h)

pub same_ticks_only : (c : Clock) (lo hi : Fraction) (a b : Ticks) → ((t : Ticks) → TickOf c lo t → a ≡ t) → ((t : Ticks) → TickOf c hi t → b ≡ t) → a ≡ b
    → (answer : Result Ticks TicksUndecided) → GivesTicks c lo hi answer → Ok a ≡ answer
same_ticks_only c lo hi a b p q e (Ok t) h = ap Ok (p t h.0)
same_ticks_only c lo hi a b p q e (Err two) h = absurd (h.1.1 (sym (p two.lo h.0) ∙ e ∙ q two.hi h.1.0))

pub two_ticks_only : (c : Clock) (lo hi : Fraction) (a b : Ticks) → ((t : Ticks) → TickOf c lo t → a ≡ t) → ((t : Ticks) → TickOf c hi t → b ≡ t) → (a ≢ b)
    → (answer : Result Ticks TicksUndecided) → GivesTicks c lo hi answer → Err (record { lo = a; hi = b }) ≡ answer
two_ticks_only c lo hi a b p q never (Ok t) h = absurd (never (p t h.0 ∙ sym (q t h.1)))
two_ticks_only c lo hi a b p q never (Err two) h = λ i. Err (record { lo = p two.lo h.0 i; hi = q two.hi h.1.0 i })

-- times
pub value_of-den : (p : Point) → p.part < p.of → 0 < (value_of p).den
value_of-den p l =
    let unit : 0 < 10 ^ 18 = lit< tt in
    let some : 0 < p.of = omega arith in
    mul-pos unit (mul-pos unit some)

-- equal values in so many parts of a unit have one spelling
same_point : (p q : Point) → p.part < p.of → q.part < q.of → p.of ≡ q.of → value_of p ≈ᶠ value_of q → p ≡ q
same_point p q l m e h =
    let some : 0 < q.of = omega arith in
    let h2 : parted p.units p.part q.of ≈ᶠ parted q.units q.part q.of = rw e at h in
    let k = at_le (10 ^ 18 * q.of) (parted p.units p.part q.of) (parted q.units q.part q.of) _ _ (parted-den p.units p.part q.of some) (parted-den q.units q.part q.of some)
    (parted_at p.units p.part q.of) (parted_at q.units q.part q.of) (le_of_same _ _ h2) in
    let j = at_le (10 ^ 18 * q.of) (parted q.units q.part q.of) (parted p.units p.part q.of) _ _ (parted-den q.units q.part q.of some) (parted-den p.units p.part q.of some)
    (parted_at q.units q.part q.of) (parted_at p.units p.part q.of) (le_of_same _ _ (same_sym _ _ h2)) in
    let u = units_le p.units q.units p.part q.part q.of m k in
    let w = units_le q.units p.units q.part p.part q.of (rw e at l) j in
    let s : p.units ≡ q.units = omega (arith, lin, u, w) in
    let t : p.part ≡ q.part = parts p.units q.units p.part q.part q.of s k j in
    λ i. record { units = s i; part = t i; of = e i }
  where
    units_le : (x y : ℤ) (a b d : ℕ) → b < d → (x *ℤ pos d +ℤ pos a) ≤ℤ (y *ℤ pos d +ℤ pos b) → x ≤ℤ y
    units_le x y a b d l h = by_lt_z y x (λ (s : y <ℤ x).
        let m = le-mul_z (y +ℤ pos 1) x d (omega (arith, ints, s)) in
        let e = add-mul_z y (pos 1) (pos d) in
        let f = one-mul_z (pos d) in
        absurd (never (x *ℤ pos d) (y *ℤ pos d) a b d l h (rw (e, f) at m)))
        (λ (s : x ≤ℤ y). s)
      where
        never : (x y : ℤ) (a b d : ℕ) → b < d → (x +ℤ pos a) ≤ℤ (y +ℤ pos b) → (y +ℤ pos d) ≤ℤ x → ⊥
        never x y a b d l h k = omega (arith, ints)

    parts : (x y : ℤ) (a b d : ℕ) → x ≡ y → (x *ℤ pos d +ℤ pos a) ≤ℤ (y *ℤ pos d +ℤ pos b) → (y *ℤ pos d +ℤ pos b) ≤ℤ (x *ℤ pos d +ℤ pos a) → a ≡ b
    parts x y a b d e h k = go (x *ℤ pos d) (y *ℤ pos d) a b (ap (λ z. z *ℤ pos d) e) h k
      where
        go : (u v : ℤ) (a b : ℕ) → u ≡ v → (u +ℤ pos a) ≤ℤ (v +ℤ pos b) → (v +ℤ pos b) ≤ℤ (u +ℤ pos a) → a ≡ b
        go u v a b e h k = omega (arith, ints)

-- a tick with a time isn't before all records
timed : (c : Clock) (k : ℕ) (v : Fraction) → IsTimeOf c k v → HasNoTime c k NoRecord → ⊥
timed c k v t none = let l = none t.place t.by t.last.here in let m = t.last.holds in omega (arith, l, m)

in_range_along : (u v : Fraction) → 0 < u.den → u ≈ᶠ v → IsInRange u → IsInRange v
in_range_along u v pu e r = record {
  from = le_f_trans (units range_start) u v pu r.from (le_of_same u v e);
  to = le_f_trans v u (units range_end) pu (le_of_same v u (same_sym u v e)) r.to;
}

pub time_answer_is_one : (c : Clock) (k : ℕ) (a b : Result Point ClockRange) → IsClock c → GivesTime c k a → GivesTime c k b → a ≡ b
time_answer_is_one c k (Ok p) (Ok q) is g h =
    let fp : IsFraction (value_of p) = record { positive = value_of-den p g.1.1.0 } in
    let fq : IsFraction (value_of q) = record { positive = value_of-den q h.1.1.0 } in
    ap Ok (same_point p q g.1.1.0 h.1.1.0 (g.1.1.1 ∙ sym h.1.1.1) (time_is_one c k (value_of p) (value_of q) is fp fq g.0 h.0))
time_answer_is_one c k (Ok p) (Err NoRecord) is g h = absurd (timed c k (value_of p) g.0 h)
time_answer_is_one c k (Ok p) (Err OutOfRange) is g h =
    let fp : IsFraction (value_of p) = record { positive = value_of-den p g.1.1.0 } in
    absurd (h.1.1.1 (in_range_along (value_of p) h.0 fp.positive (time_is_one c k (value_of p) h.0 is fp h.1.0 g.0 h.1.1.0) g.1.0))
time_answer_is_one c k (Err NoRecord) (Ok q) is g h = absurd (timed c k (value_of q) h.0 g)
time_answer_is_one c k (Err NoRecord) (Err NoRecord) is g h = refl
time_answer_is_one c k (Err NoRecord) (Err OutOfRange) is g h = absurd (timed c k h.0 h.1.1.0 g)
time_answer_is_one c k (Err OutOfRange) (Ok q) is g h =
    let fq : IsFraction (value_of q) = record { positive = value_of-den q h.1.1.0 } in
    absurd (g.1.1.1 (in_range_along (value_of q) g.0 fq.positive (time_is_one c k (value_of q) g.0 is fq g.1.0 h.0 g.1.1.0) h.1.0))
time_answer_is_one c k (Err OutOfRange) (Err NoRecord) is g h = absurd (timed c k g.0 g.1.1.0 h)
time_answer_is_one c k (Err OutOfRange) (Err OutOfRange) is g h = refl

module _ (c : Clock) (records : List Coefficient) (p k : ℕ) (r : Coefficient) (next : Option Coefficient) where
  time_at : (v : Fraction) → records ≡ c.records → p ≡ tpm c → IsInForce (StartsBy k) records r next → v ≈ᶠ line_time p r k → IsTimeOf c k v
  time_at v e g f same = let f2 = rw e at f in record { place = f2.place; by = r; last = f2.last; value = rw g at same }

  pub answer_time : (q : Point) → records ≡ c.records → p ≡ tpm c → IsInForce (StartsBy k) records r next → value_of q ≈ᶠ line_time p r k
      → q.part < q.of → q.of ≡ p → IsInRange (value_of q) → GivesTime c k (Ok q)
  answer_time q e g f same l o range = (time_at (value_of q) e g f same, (range, (l, o ∙ g)))

  pub answer_outside : (q : Point) → records ≡ c.records → p ≡ tpm c → IsInForce (StartsBy k) records r next → value_of q ≈ᶠ line_time p r k
      → q.part < q.of → (IsInRange (value_of q) → ⊥) → GivesTime c k (Err OutOfRange)
  answer_outside q e g f same l never = (value_of q, (record { positive = value_of-den q l }, (time_at (value_of q) e g f same, never)))

  pub answer_behind : records ≡ c.records → p ≡ tpm c → 0 < p → IsInForce (StartsBy k) records r next → units range_end <ᶠ line_time p r k → GivesTime c k (Err OutOfRange)
  answer_behind e g some f far =
      let v = line_time p r k in
      (v, (record { positive = line_time-den p r k some }, (time_at v e g f (same_refl v), λ range. not_both_f v (units range_end) range.to far)))

pub answer_no_record : (c : Clock) (records : List Coefficient) (k : ℕ) → records ≡ c.records
    → ((i : ℕ) (r : Coefficient) → slice_get records i ≡ Some r → k < r.ticks) → GivesTime c k (Err NoRecord)
answer_no_record c records k e h = rw e at h
