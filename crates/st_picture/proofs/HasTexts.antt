-- Each value has a text.
use Rattle.std.proofs.Common.{◌≡◌, ℕ, ◌+◌, ◌-◌, ◌*◌, ◌/◌, ◌%◌, ◌^◌, ◌<◌, ◌≤◌, Bool, true, false, cond, List, Option, inl, inr, refl, sym, ap, subst, arith, lit<, ℤ, pos, negsuc, neg_ℤ, ◌+ℤ◌, ◌*ℤ◌, ◌≤ℤ◌, ◌<ℤ◌, int_le}
use Rattle.std.specs.Prelude.{unsigned_abs}
use Rattle.std.specs.List.{flat_map}
use Rattle.std.proofs.lemmas.Bool.{cases_lt}
use Rattle.std.proofs.lemmas.Int.{ints, int_rem_euclid_is}
use Rattle.st_dates.specs.Civil.{IsCivil, day_of_year, weekday_of}
use Rattle.st_dates.specs.declared.civil.Civil.{Civil}
use Rattle.st_fraction.specs.Fraction.{Fraction, IsFraction, ◌≤ᶠ◌, whole, units}
use Rattle.st_fraction.proofs.Ring.{ring, lin, numerals, le-mul_z, lt_cancel_z}
use Rattle.st_fraction.proofs.Strict.{le_lt_f}
use Rattle.st_leaps.specs.Label.{Stamp, IsLabelOf, AreCounts}
use Rattle.st_leaps.specs.declared.table.LeapTable.{LeapTable}
use Rattle.st_picture.specs.Cell.{IsTruncated, IsCellOfLabel, HasLabelCell, IsTruncatedCell, capped, days_of, leaps_for, minute_step, hour_step, second_step, to_truncate}
use Rattle.st_picture.specs.Picture.{Picture}
use Rattle.st_picture.specs.Printing.{HasText}
use Rattle.st_picture.specs.Text.{IsTimeOfDay, Shows, shown_text}
use Rattle.st_picture.specs.declared.cell.Cell.{Cell}
use Rattle.st_picture.specs.declared.cell.Cell.TheVariants as cells
use Rattle.st_picture.specs.declared.shown.Shown.{Shown}
use Rattle.st_picture.specs.declared.unit.LeastUnit.{LeastUnit}
use Rattle.st_picture.specs.declared.unit.LeastUnit.TheVariants.{Second, Minute, Hour, Day, Month, Year, Count, Julian}
use Rattle.st_picture.proofs.CellLaws.{each_has_cell, early, tens_some, truncates_fraction, truncates_from}
use Rattle.st_picture.proofs.Months.{has_month}
use Rattle.st_picture.proofs.PrintLaws.{days_count}

-- a day's date
weekday_at : (day : ℤ) → neg_ℤ (pos 730_485) ≤ℤ day → weekday_of day ≡ pos (unsigned_abs (day +ℤ pos 6 +ℤ pos (730_485 * 7)) % 7)
weekday_at day from = int_rem_euclid_is (day +ℤ pos 6) (pos 7) 7 730_485 (unsigned_abs (day +ℤ pos 6 +ℤ pos (730_485 * 7))) (lit< tt) refl (omega (arith, ints))

has_date : (day : ℤ) → neg_ℤ (pos 730_485) ≤ℤ day → (date : Civil) × IsCivil day date
has_date day from =
    let m = has_month day from in
    let year = m.0 in
    let month = m.1 in
    let is = m.2 in (
      record {
        year = year;
        month = month;
        day = is.of_month;
        doy = day_of_year (unsigned_abs year) month is.of_month;
        weekday = unsigned_abs (day +ℤ pos 6 +ℤ pos (730_485 * 7)) % 7;
      },
      record { year_from = is.year_from; date = is.date; number = is.number; place = refl; weekday = sym (weekday_at day from) },
    )

-- a day's time
shown_at : Civil → ℕ → ℕ → ℕ → ℤ → Shown
shown_at date hour minute second count = record { civil = date; hour = hour; minute = minute; second = second; count = count }

early_time : (date : Civil) (n : ℕ) → n < 86_400 * 10 ^ 18 → IsTimeOfDay (pos n) (shown_at date (n / (3_600 * 10 ^ 18)) (n / (60 * 10 ^ 18) % 60) (n % (60 * 10 ^ 18)) (pos 0))
unfolding shown_at
early_time date n l =
    let sum : n ≡ (n / (3_600 * 10 ^ 18) * 3_600 + n / (60 * 10 ^ 18) % 60 * 60) * 10 ^ 18 + n % (60 * 10 ^ 18) = omega arith in
    record { sum = ap pos sum; hours = omega arith; minutes = omega arith; within = inl (omega arith) }

late_time : (date : Civil) (n : ℕ) → 86_400 * 10 ^ 18 ≤ n → IsTimeOfDay (pos n) (shown_at date 23 59 (n - 86_340 * 10 ^ 18) (pos 0))
unfolding shown_at
late_time date n l =
    let sum : n ≡ (23 * 3_600 + 59 * 60) * 10 ^ 18 + (n - 86_340 * 10 ^ 18) = omega arith in
    record { sum = ap pos sum; hours = omega arith; minutes = omega arith; within = inr (refl, refl) }

-- what is shown of a day
day_shown : (day of_day : ℤ) → neg_ℤ (pos 730_485) ≤ℤ day → pos 0 ≤ℤ of_day → (s : Shown) × Shows (cells.Day day of_day) s
unfolding shown_at
day_shown day (negsuc n) from some = absurd (omega (arith, ints))
day_shown day (pos n) from some =
    let date = has_date day from in
    elim (cases_lt n (86_400 * 10 ^ 18)) [
      | inl l ↦ (shown_at date.0 (n / (3_600 * 10 ^ 18)) (n / (60 * 10 ^ 18) % 60) (n % (60 * 10 ^ 18)) (pos 0), (date.1, early_time date.0 n l))
      | inr g ↦ (shown_at date.0 23 59 (n - 86_340 * 10 ^ 18) (pos 0), (date.1, late_time date.0 n g))
    ]

-- a second from 0 on is cut down to one from 0 on
cut_from : (step : ℕ) (second : Fraction) (z : ℤ) → 0 < step → 0 < second.den → whole (pos 0) ≤ᶠ second → IsTruncated step second z → pos 0 ≤ℤ z
cut_from step second z some den from t =
    let past = le_lt_f (whole (pos 0)) second (units (z +ℤ pos step)) (lit< tt) from t.to in
    let next : pos 0 <ℤ (z +ℤ pos step) = lt_cancel_z (pos 0) (z +ℤ pos step) 1 (let l = past.lt in omega (arith, ints)) in
    go t.times step z t.multiple next
  where
    grow : (b k : ℤ) → (b +ℤ pos 1) *ℤ k ≡ b *ℤ k +ℤ k
    grow b k = simp (numerals, ring) (omega (arith, lin))

    below : (z : ℤ) → pos 0 <ℤ (z +ℤ pos 1) → pos 0 ≤ℤ z
    below z h = omega (arith, ints)

    go : (times : ℤ) (step : ℕ) (z : ℤ) → z ≡ times *ℤ pos step → pos 0 <ℤ (z +ℤ pos step) → pos 0 ≤ℤ z
    go times step z e l =
        let next = grow times (pos step) in
        let past = lt_cancel_z (pos 0) (times +ℤ pos 1) step (omega (arith, lin, next, e, l)) in
        let more = le-mul_z (pos 0) times step (below times past) in
        omega (arith, lin, more, e)

capped_from : (cap : ℕ) (z : ℤ) → pos 0 ≤ℤ z → pos 0 ≤ℤ capped (pos cap) z
capped_from cap z h = go (int_le z (pos cap))
  where
    go : (b : Bool) → pos 0 ≤ℤ cond b z (pos cap)
    go true = h
    go false = omega (arith, ints)

-- what is shown of a cell
shown_same : (cell other : Cell) → cell ≡ other → (s : Shown) × Shows other s → (s : Shown) × Shows cell s
shown_same cell other e h = subst (λ (x : Cell). (s : Shown) × Shows x s) (sym e) h

no_date : Civil
no_date = record { year = pos 0; month = 1; day = 1; doy = 1; weekday = 0 }

count_shown : (n : ℤ) → (s : Shown) × Shows (cells.Count n) s
unfolding shown_at
count_shown n = (shown_at no_date 0 0 0 n, refl)

month_shown : (year : ℤ) (month : ℕ) → (s : Shown) × Shows (cells.Month year month) s
unfolding shown_at
month_shown year month = (shown_at (record { year = year; month = month; day = 1; doy = 1; weekday = 0 }) 0 0 0 (pos 0), (refl, refl))

year_shown : (year : ℤ) → (s : Shown) × Shows (cells.Year year) s
unfolding shown_at
year_shown year = (shown_at (record { year = year; month = 1; day = 1; doy = 1; weekday = 0 }) 0 0 0 (pos 0), refl)

label_shown : (unit : LeastUnit) (count : ℤ → ℤ) (w : Fraction) (label : Stamp) (cell : Cell) → IsLabelOf count w label → neg_ℤ (pos 730_485) ≤ℤ label.day
    → IsCellOfLabel unit label cell → (s : Shown) × Shows cell s
label_shown (Second places) count w label cell is from h =
    shown_same cell _ h.2 (day_shown label.day h.0 from (cut_from (10 ^ (18 - places)) label.second h.0 (tens_some (18 - places)) is.is_label.second_is.positive is.is_label.from h.1))
label_shown Minute count w label cell is from h =
    shown_same cell _ h.2 (day_shown label.day _ from (capped_from (86_340 * second_step) h.0 (cut_from minute_step label.second h.0 (lit< tt) is.is_label.second_is.positive is.is_label.from h.1)))
label_shown Hour count w label cell is from h =
    shown_same cell _ h.2 (day_shown label.day _ from (capped_from (82_800 * second_step) h.0 (cut_from hour_step label.second h.0 (lit< tt) is.is_label.second_is.positive is.is_label.from h.1)))
label_shown Day count w label cell is from h = shown_same cell _ h (day_shown label.day (pos 0) from (omega (arith, ints)))
label_shown Month count w label cell is from h = shown_same cell _ h.3 (month_shown h.0 h.1)
label_shown Year count w label cell is from h = shown_same cell _ h.3 (year_shown h.0)
label_shown (Count places) count w label cell is from h = absurd h
label_shown (Julian places) count w label cell is from h = absurd h

of_label : (unit : LeastUnit) (count : ℤ → ℤ) (w : Fraction) (cell : Cell) → AreCounts count → IsFraction w → whole (neg_ℤ (pos 63_000_000_000)) ≤ᶠ w
    → HasLabelCell unit count w cell → (s : Shown) × Shows cell s
of_label unit count w cell c f from h = label_shown unit count w h.label cell h.is_label (early count w h.label c f from h.is_label) h.is_cell

has_shown : (unit : LeastUnit) (count : ℤ → ℤ) (w : Fraction) (cell : Cell) → AreCounts count → IsFraction w → whole (neg_ℤ (pos 63_000_000_000)) ≤ᶠ w
    → IsTruncatedCell unit count w cell → (s : Shown) × Shows cell s
has_shown (Count places) count w cell c f from h = shown_same cell _ h.2 (count_shown h.0)
has_shown (Julian places) count w cell c f from h = shown_same cell _ h.2 (count_shown h.0)
has_shown (Second places) count w cell c f from h = of_label (Second places) count w cell c f from h
has_shown Minute count w cell c f from h = of_label Minute count w cell c f from h
has_shown Hour count w cell c f from h = of_label Hour count w cell c f from h
has_shown Day count w cell c f from h = of_label Day count w cell c f from h
has_shown Month count w cell c f from h = of_label Month count w cell c f from h
has_shown Year count w cell c f from h = of_label Year count w cell c f from h

pub each_has_text : (picture : Picture) (leaps : Option LeapTable) (v : Fraction) → IsFraction v → whole (neg_ℤ (pos 63_000_000_000)) ≤ᶠ v
    → (text : List ℕ) × HasText picture leaps v text
each_has_text picture leaps v f from =
    let count = days_of (leaps_for picture.system leaps) in
    let c = days_count (leaps_for picture.system leaps) in
    let cell = each_has_cell picture.unit picture.rounds count v c f from in
    let s = has_shown picture.unit count (to_truncate picture.unit picture.rounds v) cell.0 c (truncates_fraction picture.unit picture.rounds v f)
    (truncates_from picture.unit picture.rounds v from) cell.1 in (
      flat_map (shown_text s.0) picture.pieces,
      record { cell = cell.0; is_cell = cell.1; is_text = record { shown = s.0; shows = s.1; whole = refl } },
    )
