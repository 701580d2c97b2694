-- What tells an outcome: there is an answer, and one alone.
use Rattle.std.proofs.Common.{◌≡◌, ◌⊎◌, inl, inr, ℕ, ◌+◌, ◌-◌, ◌*◌, ◌/◌, ◌%◌, ◌^◌, ◌<◌, ◌≤◌, nat_le, ℤ, pos, negsuc, neg_ℤ, ◌+ℤ◌, ◌*ℤ◌, ◌≤ℤ◌, ◌<ℤ◌, int_le, Bool, true, false, List, Option, Result, Ok, Err, unsigned_abs, refl, sym, ap, ◌∙◌, subst, arith, lit<, mul-pos}
use Rattle.std.proofs.Math.Nat.{div-mul-le_self, lt-div-mul-add, one-le-pow}
use Rattle.std.proofs.lemmas.Bool.{cases_Bool}
use Rattle.std.proofs.lemmas.Bool.Decides.{nat_tests}
use Rattle.std.proofs.lemmas.Int.{ints, by_lt_z}
use Rattle.std.specs.Int.{int_rem_euclid}
use Rattle.std.specs.List.{flat_map}
use Rattle.st_text.specs.Bytes.{decimal_digits}
use Rattle.st_fraction.specs.Fraction.{Fraction, IsFraction, ◌≤ᶠ◌, whole, units, ◌+ᶠ◌}
use Rattle.st_fraction.proofs.Ring.{le-mul_z}
use Rattle.st_fraction.proofs.Order.{le_f_trans, le_f_add}
use Rattle.st_fraction.proofs.Strict.{le_lt_f}
use Rattle.st_dates.specs.Civil.{IsCivil, day_of_year}
use Rattle.st_dates.specs.declared.civil.Civil.{Civil}
use Rattle.st_leaps.specs.Label.{Stamp, IsLabelOf}
use Rattle.st_leaps.specs.declared.table.LeapTable.{LeapTable}
use Rattle.st_picture.specs.Cell.{IsCell, IsOfMonth, IsTruncated, capped, days_of, half_unit, leaps_for, to_truncate}
use Rattle.st_picture.specs.Text.{Shows, shown_text}
use Rattle.st_picture.specs.declared.cell.Cell.{Cell}
use Rattle.st_picture.specs.declared.cell.Cell.TheVariants as cells
use Rattle.st_picture.specs.declared.unit.LeastUnit.{LeastUnit}
use Rattle.st_picture.specs.declared.unit.LeastUnit.TheVariants as least
use Rattle.st_ticks.specs.TickMachine.{canonical}
use Rattle.st_clock.specs.Clock.{Clock, IsClock}
use Rattle.st_clock.specs.declared.ticks.Ticks.TheVariants.{Before, At, After}
use Rattle.st_routes.specs.LawSteps.{AreKnown}
use Rattle.st_routes.specs.Laws.{IsTarget, OneAnswer, ExactIsOne, EachHasAnswer}
use Rattle.st_routes.specs.Outcome.{Outcome, Target, in_cell, at_tick, by_picture, by_clock, IsOutcome, IsTickText, MayBeUndecided, Prints, RouteGives, Spells}
use Rattle.st_routes.specs.Route.{HasNoSineOnIt}
use Rattle.st_routes.specs.declared.fault.TimeFault.{TimeFault}
use Rattle.st_routes.specs.declared.fault.TimeFault.TheVariants as faults
use Rattle.st_routes.specs.declared.route.Route.{Route}
use Rattle.st_routes.specs.declared.ticks.TickForm.{TickForm}
use Rattle.st_routes.specs.declared.ticks.TickForm.TheVariants as tick_forms
use Rattle.st_routes.proofs.Outcomes.{counts, each_has_outcome, early, one_outcome}

-- Before and After are told by their refusals alone
before_is : (clock : Clock) (form : TickForm) (a : Result (List ℕ) TimeFault) → Spells (by_clock clock form) (at_tick Before) a → a ≡ Err faults.BeforeClock
before_is clock form (Ok text) s = absurd s
before_is clock form (Err faults.BeforeClock) s = refl
before_is clock form (Err other) s = absurd s

after_is : (clock : Clock) (form : TickForm) (a : Result (List ℕ) TimeFault) → Spells (by_clock clock form) (at_tick After) a → a ≡ Err faults.AfterClock
after_is clock form (Ok text) s = absurd s
after_is clock form (Err faults.AfterClock) s = refl
after_is clock form (Err other) s = absurd s

one_tick_text : AreKnown → (clock : Clock) (form : TickForm) (k : ℕ) (x y : List ℕ) → IsClock clock → IsTickText clock form k x → IsTickText clock form k y → x ≡ y
one_tick_text laws clock tick_forms.Clock k x y is s t = (laws.canonical clock.face k x is.face).0 s ∙ sym ((laws.canonical clock.face k y is.face).0 t)
one_tick_text laws clock tick_forms.Ticks k x y is s t = s ∙ sym t

okay : (x y : List ℕ) → x ≡ y → ◌≡◌ {A = Result (List ℕ) TimeFault} (Ok x) (Ok y)
okay x y e = ap Ok e

-- one answer tells an outcome
one_spelling : AreKnown → (target : Target) (outcome : Outcome) (v : Fraction) (a b : Result (List ℕ) TimeFault) → IsTarget target → IsOutcome target v outcome
    → Spells target outcome a → Spells target outcome b → a ≡ b
one_spelling laws (by_picture picture leaps) (in_cell cell) v (Ok x) (Ok y) (system, text, reads) has s t =
    let unit = laws.cell_of_unit picture.unit picture.rounds (days_of (leaps_for picture.system leaps)) v cell has in
    okay x y (laws.one_text system text picture cell x y reads unit s t)
one_spelling laws (by_picture picture leaps) (in_cell cell) v (Ok x) (Err f) is has s t = absurd t
one_spelling laws (by_picture picture leaps) (in_cell cell) v (Err f) b is has s t = absurd s
one_spelling laws (by_picture picture leaps) (at_tick ticks) v a b is has s t = absurd has
one_spelling laws (by_clock clock form) (in_cell cell) v a b is has s t = absurd has
one_spelling laws (by_clock clock form) (at_tick Before) v a b is has s t = before_is clock form a s ∙ sym (before_is clock form b t)
one_spelling laws (by_clock clock form) (at_tick After) v a b is has s t = after_is clock form a s ∙ sym (after_is clock form b t)
one_spelling laws (by_clock clock form) (at_tick (At k)) v (Ok x) (Ok y) is has s t = okay x y (one_tick_text laws clock form k x y is s t)
one_spelling laws (by_clock clock form) (at_tick (At k)) v (Ok x) (Err f) is has s t = absurd t
one_spelling laws (by_clock clock form) (at_tick (At k)) v (Err f) b is has s t = absurd s

pub one_answer : AreKnown → OneAnswer
one_answer laws route r target a b is p (x, m, s) (y, n, t) =
    let e = one_outcome laws route r target x y is p m n in
    one_spelling laws target y n.low a b is n.low_has (subst (λ o. Spells target o a) e s) t

-- what is answered tells an outcome, or is undecided, or memory is refused
abbrev IsOneOf : Route → Fraction → Target → Result (List ℕ) TimeFault → Type 0
IsOneOf route r target a = Prints route r target a ⊎ (MayBeUndecided route r target ⊎ (a ≡ Err faults.OutOfMemory))

gives : (route : Route) (r : Fraction) (target : Target) (a : Result (List ℕ) TimeFault) → RouteGives route r target a → IsOneOf route r target a
gives route r target (Ok text) g = inl g
gives route r target (Err faults.Undecided) g = inr (inl g)
gives route r target (Err faults.OutOfMemory) g = inr (inr refl)
gives route r target (Err other) g = inl g

pub exact_is_one : ((route : Route) (r : Fraction) (target : Target) → HasNoSineOnIt route → MayBeUndecided route r target → ⊥) → AreKnown → ExactIsOne
exact_is_one decided laws route r target a b is p none na nb ga gb = elim (gives route r target a ga) [
  | inl x ↦ elim (gives route r target b gb) [
    | inl y ↦ one_answer laws route r target a b is p x y
    | inr (inl u) ↦ absurd (decided route r target none u)
    | inr (inr e) ↦ absurd (nb e)
  ]
  | inr (inl u) ↦ absurd (decided route r target none u)
  | inr (inr e) ↦ absurd (na e)
]

-- The date of a day: the month of a value of that day tells it.
weekday_found : (z : ℤ) → (n : ℕ) × (pos n ≡ int_rem_euclid z (pos 7))
weekday_found (pos a) = (a % 7, refl)
weekday_found (negsuc a) = (7 - 1 - a % 7, refl)

date_found : (day year : ℤ) (month : ℕ) → IsOfMonth day year month → (civil : Civil) × IsCivil day civil
date_found day year month of =
    let w = weekday_found (day +ℤ pos 6) in (
      record { year = year; month = month; day = of.of_month; doy = day_of_year (unsigned_abs year) month of.of_month; weekday = w.0 },
      record { year_from = of.year_from; date = of.date; number = of.number; place = refl; weekday = w.1 },
    )

civil_found : AreKnown → (leaps : Option LeapTable) (w : Fraction) (label : Stamp) → IsFraction w → early ≤ᶠ w → IsLabelOf (days_of leaps) w label
    → (civil : Civil) × IsCivil label.day civil
civil_found laws leaps w label p late is =
    let c = laws.cell_found least.Month false (days_of leaps) w (counts laws leaps) p late in
    let h = c.1 in
    let same = laws.one_label (days_of leaps) w h.label label (counts laws leaps) p h.is_label is in
    date_found label.day h.is_cell.0 h.is_cell.1 (subst (λ (d : ℤ). IsOfMonth d h.is_cell.0 h.is_cell.1) same.day h.is_cell.2)

tens : (places : ℕ) → 0 < 10 ^ places
tens places = let some = one-le-pow places 10 (omega arith) in omega (arith, some)

-- what has passed of a day, from 0 on, in hours, minutes and units
halved : (places : ℕ) → 0 < 2 * 10 ^ places
halved places = let ten = tens places in omega (arith, ten)

abbrev minute_units : ℕ
minute_units = 60 * 10 ^ 18

abbrev hour_units : ℕ
hour_units = 3_600 * 10 ^ 18

pub record HasClock (n : ℕ) : Type 0 where
  hour : ℕ
  minute : ℕ
  second : ℕ
  sum : n ≡ (hour * 3_600 + minute * 60) * 10 ^ 18 + second
  hours : hour ≤ 23
  minutes : minute ≤ 59
  within : (second < 60 * 10 ^ 18) ⊎ ((hour ≡ 23) × (minute ≡ 59))

passed : (m n : ℕ) → nat_le m n ≡ true → m ≤ n
passed m n h = grind (arith, nat_tests)

failed : (m n : ℕ) → nat_le m n ≡ false → n < m
failed m n h = grind (arith, nat_tests)

-- the minutes of n units of an hour h, to the 59th
minutes_found : (h n : ℕ) → h ≤ 23 → (n < hour_units) ⊎ (h ≡ 23) → HasClock (h * hour_units + n)
minutes_found h n few short = elim (cases_Bool (nat_le (59 * minute_units) n)) [
  | inl e ↦
      let l = passed (59 * minute_units) n e in
      record {
        hour = h;
        minute = 59;
        second = n - 59 * minute_units;
        sum = omega (arith, l);
        hours = few;
        minutes = omega arith;
        within = elim short [
          | inl s ↦ inl (omega (arith, l, s))
          | inr s ↦ inr (s, refl)
        ];
      }
  | inr e ↦
      let l = failed (59 * minute_units) n e in
      let low = div-mul-le_self n minute_units in
      let high = lt-div-mul-add {a = n} {b = minute_units} (lit< tt) in
      record {
        hour = h;
        minute = n / minute_units;
        second = n - n / minute_units * minute_units;
        sum = omega (arith, low);
        hours = few;
        minutes = omega (arith, low, l);
        within = inl (omega (arith, low, high));
      }
]

clock_found : (n : ℕ) → HasClock n
clock_found n = elim (cases_Bool (nat_le (23 * hour_units) n)) [
  | inl e ↦
      let l = passed (23 * hour_units) n e in
      let split : 23 * hour_units + (n - 23 * hour_units) ≡ n = omega (arith, l) in
      subst HasClock split (minutes_found 23 (n - 23 * hour_units) (omega arith) (inr refl))
  | inr e ↦
      let l = failed (23 * hour_units) n e in
      let low = div-mul-le_self n hour_units in
      let high = lt-div-mul-add {a = n} {b = hour_units} (lit< tt) in
      let split : n / hour_units * hour_units + (n - n / hour_units * hour_units) ≡ n = omega (arith, low) in
      subst HasClock split (minutes_found (n / hour_units) (n - n / hour_units * hour_units) (omega (arith, low, l)) (inl (omega (arith, low, high))))
]

-- what a cell shows
abbrev HasShown : Cell → Type 0
HasShown cell = (s : _) × Shows cell s

no_date : ℤ → ℕ → Civil
no_date year month = record { year = year; month = month; day = 1; doy = 1; weekday = 0 }

number_shown : (n : ℤ) → HasShown (cells.Count n)
number_shown n = (record { civil = no_date (pos 2000) 1; hour = 0; minute = 0; second = 0; count = n }, refl)

month_shown : (year : ℤ) (month : ℕ) → HasShown (cells.Month year month)
unfolding no_date
month_shown year month = (record { civil = no_date year month; hour = 0; minute = 0; second = 0; count = pos 0 }, (refl, refl))

year_shown : (year : ℤ) → HasShown (cells.Year year)
unfolding no_date
year_shown year = (record { civil = no_date year 1; hour = 0; minute = 0; second = 0; count = pos 0 }, refl)

day_shown : AreKnown → (leaps : Option LeapTable) (w : Fraction) (label : Stamp) (z : ℤ) → IsFraction w → early ≤ᶠ w → IsLabelOf (days_of leaps) w label → pos 0 ≤ℤ z
    → HasShown (cells.Day label.day z)
day_shown laws leaps w label z p late is from =
    let date = civil_found laws leaps w label p late is in
    let clock = clock_found (unsigned_abs z) in
    let e : z ≡ pos (unsigned_abs z) = omega (arith, ints, from) in (
      record { civil = date.0; hour = clock.hour; minute = clock.minute; second = clock.second; count = pos 0 },
      (date.1, record { sum = e ∙ ap (λ (n : ℕ). pos n) clock.sum; hours = clock.hours; minutes = clock.minutes; within = clock.within }),
    )

-- a multiple of a step that a second of a day is truncated to is not negative
truncated_from : (step : ℕ) (second : Fraction) (z : ℤ) → 0 < step → whole (pos 0) ≤ᶠ second → IsFraction second → IsTruncated step second z → pos 0 ≤ℤ z
truncated_from step second z some from is t =
    let above = le_lt_f (whole (pos 0)) second (units (z +ℤ pos step)) (lit< tt) from t.to in
    let l : pos 0 <ℤ (z +ℤ pos step) = omega (arith, ints, above.lt) in
    by_lt_z t.times (pos 0) (λ (s : t.times <ℤ pos 0).
    let m = le-mul_z t.times (neg_ℤ (pos 1)) step (omega (arith, ints, s)) in
    absurd (never z (t.times *ℤ pos step) (neg_ℤ (pos 1) *ℤ pos step) step t.multiple m l (omega (arith, ints))))
    (λ (s : pos 0 ≤ℤ t.times).
    let m = le-mul_z (pos 0) t.times step s in
    at_least_zero z (t.times *ℤ pos step) (pos 0 *ℤ pos step) t.multiple m (omega (arith, ints)))
  where
    never : (z x y : ℤ) (step : ℕ) → z ≡ x → x ≤ℤ y → pos 0 <ℤ (z +ℤ pos step) → y ≡ neg_ℤ (pos step) → ⊥
    never z x y step e h l f = omega (arith, ints, e, h, l, f)

    at_least_zero : (z x y : ℤ) → z ≡ x → y ≤ℤ x → y ≡ pos 0 → pos 0 ≤ℤ z
    at_least_zero z x y e h f = omega (arith, ints, e, h, f)

capped_from : (cap z : ℤ) → pos 0 ≤ℤ cap → pos 0 ≤ℤ z → pos 0 ≤ℤ capped cap z
capped_from cap z h k = elim (cases_Bool (int_le z cap)) [
  | inl e ↦ rw e k
  | inr e ↦ rw e h
]

half_is : (unit : LeastUnit) → IsFraction (half_unit unit)
half_is (least.Second places) = record { positive = halved places }
half_is (least.Count places) = record { positive = halved places }
half_is (least.Julian places) = record { positive = halved places }
half_is least.Minute = record { positive = lit< tt }
half_is least.Hour = record { positive = lit< tt }
half_is least.Day = record { positive = lit< tt }
half_is least.Month = record { positive = lit< tt }
half_is least.Year = record { positive = lit< tt }

half_from : (unit : LeastUnit) → whole (pos 0) ≤ᶠ half_unit unit
half_from (least.Second places) = record { le = omega (arith, ints) }
half_from (least.Count places) = record { le = omega (arith, ints) }
half_from (least.Julian places) = record { le = omega (arith, ints) }
half_from least.Minute = record { le = omega (arith, ints) }
half_from least.Hour = record { le = omega (arith, ints) }
half_from least.Day = record { le = omega (arith, ints) }
half_from least.Month = record { le = omega (arith, ints) }
half_from least.Year = record { le = omega (arith, ints) }

-- what is truncated of a value that is not too early is not too early
truncated_is : (unit : LeastUnit) (rounds : Bool) (v : Fraction) → IsFraction v → IsFraction (to_truncate unit rounds v)
truncated_is unit true v p = record { positive = mul-pos p.positive (half_is unit).positive }
truncated_is unit false v p = p

truncated_late : (unit : LeastUnit) (rounds : Bool) (v : Fraction) → IsFraction v → early ≤ᶠ v → early ≤ᶠ to_truncate unit rounds v
truncated_late unit true v p late =
    let more = le_f_add early v (whole (pos 0)) (half_unit unit) late (half_from unit) in
    let none : early ≤ᶠ (early +ᶠ whole (pos 0)) = record { le = omega (arith, ints) } in
    le_f_trans early (early +ᶠ whole (pos 0)) (v +ᶠ half_unit unit) (lit< tt) none more
truncated_late unit false v p late = late

shown_found : AreKnown → (unit : LeastUnit) (rounds : Bool) (leaps : Option LeapTable) (v : Fraction) (cell : Cell) → IsFraction v → early ≤ᶠ v
    → IsCell unit rounds (days_of leaps) v cell → HasShown cell
shown_found laws (least.Count places) rounds leaps v cell p late (q, floor, e) = subst HasShown (sym e) (number_shown q)
shown_found laws (least.Julian places) rounds leaps v cell p late (q, floor, e) = subst HasShown (sym e) (number_shown q)
shown_found laws (least.Second places) rounds leaps v cell p late h =
    let unit = least.Second places in
    let w = to_truncate unit rounds v in
    let z = h.is_cell.0 in
    let from = truncated_from (10 ^ (18 - places)) h.label.second z (tens (18 - places)) h.is_label.is_label.from h.is_label.is_label.second_is h.is_cell.1 in
    subst HasShown (sym h.is_cell.2) (day_shown laws leaps w h.label z (truncated_is unit rounds v p) (truncated_late unit rounds v p late) h.is_label from)
shown_found laws least.Minute rounds leaps v cell p late h =
    let w = to_truncate least.Minute rounds v in
    let z = h.is_cell.0 in
    let from = truncated_from minute_units h.label.second z (lit< tt) h.is_label.is_label.from h.is_label.is_label.second_is h.is_cell.1 in
    let cap : ℤ = pos (86_340 * 10 ^ 18) in
    subst HasShown (sym h.is_cell.2)
    (day_shown laws leaps w h.label (capped cap z) (truncated_is least.Minute rounds v p) (truncated_late least.Minute rounds v p late) h.is_label
    (capped_from cap z (omega (arith, ints)) from))
shown_found laws least.Hour rounds leaps v cell p late h =
    let w = to_truncate least.Hour rounds v in
    let z = h.is_cell.0 in
    let from = truncated_from hour_units h.label.second z (lit< tt) h.is_label.is_label.from h.is_label.is_label.second_is h.is_cell.1 in
    let cap : ℤ = pos (82_800 * 10 ^ 18) in
    subst HasShown (sym h.is_cell.2)
    (day_shown laws leaps w h.label (capped cap z) (truncated_is least.Hour rounds v p) (truncated_late least.Hour rounds v p late) h.is_label
    (capped_from cap z (omega (arith, ints)) from))
shown_found laws least.Day rounds leaps v cell p late h =
    let w = to_truncate least.Day rounds v in
    subst HasShown (sym h.is_cell)
    (day_shown laws leaps w h.label (pos 0) (truncated_is least.Day rounds v p) (truncated_late least.Day rounds v p late) h.is_label (omega (arith, ints)))
shown_found laws least.Month rounds leaps v cell p late h = subst HasShown (sym h.is_cell.3) (month_shown h.is_cell.0 h.is_cell.1)
shown_found laws least.Year rounds leaps v cell p late h = subst HasShown (sym h.is_cell.3) (year_shown h.is_cell.0)

-- an answer tells each outcome of a value that is not too early
spelling_found : AreKnown → (target : Target) (v : Fraction) (outcome : Outcome) → IsTarget target → IsFraction v → early ≤ᶠ v → IsOutcome target v outcome
    → (answer : Result (List ℕ) TimeFault) × Spells target outcome answer
spelling_found laws (by_picture picture leaps) v (in_cell cell) is p late has =
    let s = shown_found laws picture.unit picture.rounds (leaps_for picture.system leaps) v cell p late has in
    (Ok (flat_map (shown_text s.0) picture.pieces), record { shown = s.0; shows = s.1; whole = refl })
spelling_found laws (by_picture picture leaps) v (at_tick ticks) is p late has = absurd has
spelling_found laws (by_clock clock form) v (in_cell cell) is p late has = absurd has
spelling_found laws (by_clock clock form) v (at_tick Before) is p late has = (Err faults.BeforeClock, tt)
spelling_found laws (by_clock clock form) v (at_tick After) is p late has = (Err faults.AfterClock, tt)
spelling_found laws (by_clock clock tick_forms.Clock) v (at_tick (At k)) is p late has =
    (Ok (canonical clock.face k), (laws.canonical clock.face k (canonical clock.face k) is.face).1 refl)
spelling_found laws (by_clock clock tick_forms.Ticks) v (at_tick (At k)) is p late has = (Ok (decimal_digits k), refl)

pub each_has_answer : AreKnown → EachHasAnswer
each_has_answer laws route r target is p near = elim (each_has_outcome laws route r target is p near) [
  | inl f ↦
      let s = spelling_found laws target f.value f.outcome is f.is f.late f.has in
      inl (s.0, (f.outcome, f.prints, s.1))
  | inr u ↦ inr u
]
