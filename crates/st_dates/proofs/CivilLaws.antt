-- Dates lie in the order of their numbers, so a number has one date.
use Rattle.std.proofs.Common.{◌≡◌, ℕ, zero, suc, ◌+◌, ◌-◌, ◌%◌, ◌<◌, ◌≤◌, inl, inr, refl, sym, ap, ◌∙◌, arith, ℤ, pos, neg_ℤ, ◌+ℤ◌, ◌≤ℤ◌, unsigned_abs, FitsSigned, to_z, of_z, to_z-of_z, w16, w32}
use Rattle.std.proofs.lemmas.Bool.{cases_order}
use Rattle.std.proofs.lemmas.Int.{by_lt_z}
use Rattle.jiff_core.specs.Calendar.{days_in_month, day_count, days_from_civil, weekday_number, IsYear, IsCivilDate}
use Rattle.jiff_core.specs.Calendar.{day_of_year as jiff_place}
use Rattle.jiff_core.proofs.CalendarLemmas.{days_from_civil-day_count, day_count-lt_year, days_of_months_all, day_of_year_before, weekday_number-parts}
use Rattle.jiff_core.proofs.MarchLemmas.{day_count-early}
use Rattle.jiff_core.proofs.SignedLemmas.{signed_arith, signed_casts, one_part}
use Rattle.st_dates.specs.Calendar.{year_length, days_before_year, days_of_months, day_number, number_in_year, IsCalendarDay}
use Rattle.st_dates.specs.Civil.{day_of_year, weekday_of, IsCivil}
use Rattle.st_dates.specs.declared.civil.Civil.{Civil}
use Rattle.st_dates.proofs.DayLemmas.{year, month, months, from_1970, magnitude}

-- the days of a year's twelve months
pub year_of_months : (y : ℕ) → days_of_months y 12 ≡ year_length y
year_of_months y = sym (months y 12) ∙ days_of_months_all (pos y) ∙ year y

-- a day of a month lies before each later month
pub before_month : (y m d later : ℕ) → IsCalendarDay y m d → m ≤ later → day_of_year y m d ≤ days_of_months y later
before_month y m d later h le =
    let in_month : d ≤ days_in_month (pos y) m = omega (arith, month y m, h.day_to) in
    omega (arith, day_of_year_before (pos y) m d later h.month_from in_month le, months y (m - 1), months y later)

pub in_year : (y m d : ℕ) → IsCalendarDay y m d → day_of_year y m d ≤ year_length y
in_year y m d h = omega (arith, before_month y m d 12 h h.month_to, year_of_months y)

pub year_step : (y : ℕ) → days_before_year (suc y) ≡ days_before_year y + year_length y
unfolding days_before_year
year_step y = refl

-- a year's days lie before each later year
before_year : (y k : ℕ) → days_before_year y + year_length y ≤ days_before_year (suc (k + y))
before_year y zero = let at : suc (0 + y) ≡ suc y = omega arith in omega (arith, year_step y, ap days_before_year at)
before_year y (suc k) =
    let at : suc (suc k + y) ≡ suc (suc (k + y)) = omega arith in
    omega (arith, before_year y k, year_step (suc (k + y)), ap days_before_year at)

pub before_later : (y later : ℕ) → y < later → days_before_year y + year_length y ≤ days_before_year later
before_later y later h =
    let at : suc (later - suc y + y) ≡ later = omega arith in
    omega (arith, before_year y (later - suc y), ap days_before_year at)

-- the days before a date from the year 0 on
total : ℕ → ℕ → ℕ → ℕ
total y m d = days_before_year y + day_of_year y m d

totals : (y m d z n e : ℕ) → 1 ≤ d → 1 ≤ e → day_number y m d ≡ day_number z n e → days_before_year y + day_of_year y m d ≡ days_before_year z + day_of_year z n e
totals y m d z n e h k s = omega (arith, signed_arith)

same_year : (y m d z n e : ℕ) → IsCalendarDay y m d → IsCalendarDay z n e → days_before_year y + day_of_year y m d ≡ days_before_year z + day_of_year z n e → y ≡ z
same_year y m d z n e h k s =
    elim (cases_order y z) [
      | inl same ↦ same
      | inr other ↦ elim other [
        | inl lt ↦ absurd (omega (arith, before_later y z lt, in_year y m d h, h.day_from, k.day_from))
        | inr gt ↦ absurd (omega (arith, before_later z y gt, in_year z n e k, h.day_from, k.day_from))
      ]
    ]

same_month : (y m d n e : ℕ) → IsCalendarDay y m d → IsCalendarDay y n e → day_of_year y m d ≡ day_of_year y n e → m ≡ n
same_month y m d n e h k s =
    elim (cases_order m n) [
      | inl same ↦ same
      | inr other ↦ elim other [
        | inl lt ↦ absurd (omega (arith, before_month y m d (n - 1) h (omega arith), k.day_from))
        | inr gt ↦ absurd (omega (arith, before_month y n e (m - 1) k (omega arith), h.day_from))
      ]
    ]

-- a day number has one date
pub record SameDate (y m d z n e : ℕ) : Type 0 where
  pub year_same : y ≡ z
  pub month_same : m ≡ n
  pub day_same : d ≡ e

pub one_date : (y m d z n e : ℕ) → IsCalendarDay y m d → IsCalendarDay z n e → day_number y m d ≡ day_number z n e → SameDate y m d z n e
one_date y m d z n e h k s =
    let t = totals y m d z n e h.day_from k.day_from s in
    let ys : y ≡ z = same_year y m d z n e h k t in
    let at_z : IsCalendarDay z m d = rw ys at h in
    let there : days_before_year z + day_of_year z m d ≡ days_before_year z + day_of_year z n e = rw ys at t in
    let u : day_of_year z m d ≡ day_of_year z n e = omega (arith, there) in
    let ms : m ≡ n = same_month z m d n e at_z k u in
    let v : day_of_year z n d ≡ day_of_year z n e = rw ms at u in
    record { year_same = ys; month_same = ms; day_same = omega (arith, v) }

same_civil : (a b : Civil) → a.year ≡ b.year → a.month ≡ b.month → a.day ≡ b.day → a.doy ≡ b.doy → a.weekday ≡ b.weekday → a ≡ b
same_civil a b y m d p w =
    ap (λ (x : ℤ). record a { year = x }) y
    ∙ ap (λ (x : ℕ). record a { year = b.year; month = x }) m
    ∙ ap (λ (x : ℕ). record a { year = b.year; month = b.month; day = x }) d
    ∙ ap (λ (x : ℕ). record a { year = b.year; month = b.month; day = b.day; doy = x }) p
    ∙ ap (λ (x : ℕ). record a { year = b.year; month = b.month; day = b.day; doy = b.doy; weekday = x }) w

same_pos : (a b : ℕ) → pos a ≡ pos b → a ≡ b
same_pos a b e = cc

-- a day has one set of parts
pub one_civil : (n : ℤ) (a b : Civil) → IsCivil n a → IsCivil n b → a ≡ b
one_civil n a b h k =
    let s = one_date (unsigned_abs a.year) a.month a.day (unsigned_abs b.year) b.month b.day h.date k.date (h.number ∙ sym k.number) in
    let ys : a.year ≡ b.year = magnitude a.year h.year_from ∙ ap pos s.year_same ∙ sym (magnitude b.year k.year_from) in
    let place : day_of_year (unsigned_abs a.year) a.month a.day ≡ day_of_year (unsigned_abs b.year) b.month b.day = rw (s.year_same, s.month_same, s.day_same) refl in
    same_civil a b ys s.month_same s.day_same (h.place ∙ place ∙ sym k.place) (same_pos a.weekday b.weekday (h.weekday ∙ sym k.weekday))

count_1700 : day_count (pos 1700) 1 1 ≡ 4_273_338
count_1700 = day_count-early (pos 1700) 11699 1 1 refl (omega arith) (omega arith) (omega arith)

-- a date in the range of `civil_of` lies after the year 0
pub year_from : (n y : ℤ) (m d : ℕ) → neg_ℤ (pos 73_200) ≤ℤ n → IsCivilDate y m d → days_from_civil y m d ≡ n +ℤ pos 10957 → pos 0 ≤ℤ y
year_from n y m d low h e =
    by_lt_z y (pos 1700)
    (λ lt. absurd (omega (arith, signed_arith, days_from_civil-day_count y m d, count_1700, day_count-lt_year y m d (pos 1700) 1 1 h (omega arith) lt)))
    (λ le. omega (arith, signed_arith))

pub weekday_is : (n z : ℤ) (w : ℕ) → z ≡ n +ℤ pos 10957 → w ≡ weekday_number z → pos ((w + 1) % 7) ≡ weekday_of n
weekday_is n z w e h = omega (arith, signed_arith, weekday_number-parts z)

-- the casts of the code lose nothing
pub same_year_cast : (y : ℤ) → pos 0 ≤ℤ y → y ≤ℤ pos 9999 → to_z w16 (of_z w16 (to_z w32 (of_z w32 y))) ≡ y
same_year_cast y low high =
    let small : FitsSigned w16 y = omega (arith, signed_arith) in
    let mid : FitsSigned w32 y = omega (arith, signed_arith) in
    rw (to_z-of_z mid) (to_z-of_z small)

place_cast : (place : ℕ) → place ≤ 366 → to_z w16 place ≡ pos place
place_cast place h = omega (arith, signed_casts)

-- the day at a place of a year, as `jiff` counts places
in_place : (y m d place : ℕ) → 1 ≤ d → jiff_place (pos y) m d ≡ place → day_number y m d ≡ number_in_year y place
in_place y m d place h e = omega (arith, signed_arith, months y (m - 1), e)

pub place_is : (n year of_date : ℤ) (m d place : ℕ) → pos 0 ≤ℤ year → year ≤ℤ pos 9999 → place ≤ 366 → 1 ≤ d → FitsSigned w32 n → n ≡ day_number (unsigned_abs of_date) m d → of_date ≡ to_z w16 (of_z w16 (to_z w32 (of_z w32 year))) → pos (jiff_place of_date m d) ≡ to_z w16 place → to_z w32 (of_z w32 n) ≡ number_in_year (unsigned_abs year) place
place_is n year of_date m d place low high few first fits e y p =
    let same : of_date ≡ year = y ∙ same_year_cast year low high in
    let as_pos : of_date ≡ pos (unsigned_abs year) = same ∙ magnitude year low in
    let at : jiff_place of_date m d ≡ place = same_pos (jiff_place of_date m d) place (p ∙ place_cast place few) in
    let there : jiff_place (pos (unsigned_abs year)) m d ≡ place = rw as_pos at at in
    to_z-of_z fits ∙ e ∙ ap (λ (z : ℤ). day_number (unsigned_abs z) m d) same ∙ in_place (unsigned_abs year) m d place first there

-- the day of `jiff_core`, which counts from -9999-01-01, is in range
shifted_day : (day : ℤ) → neg_ℤ (pos 73_200) ≤ℤ day → day ≤ℤ pos 73_200 → to_z w32 (of_z w32 (to_z w32 (of_z w32 (to_z w32 (of_z w32 day) +ℤ pos 10957)) +ℤ pos 4371587)) ≡ (day +ℤ pos 10957) +ℤ pos 4371587
shifted_day day low high =
    let one : FitsSigned w32 day = omega (arith, signed_arith) in
    let two : FitsSigned w32 (day +ℤ pos 10957) = omega (arith, signed_arith) in
    let three : FitsSigned w32 ((day +ℤ pos 10957) +ℤ pos 4371587) = omega (arith, signed_arith) in
    rw (to_z-of_z one, to_z-of_z two) (to_z-of_z three)

epoch_of : (day e : ℤ) (k : ℤ) → neg_ℤ (pos 73_200) ≤ℤ day → k ≡ (day +ℤ pos 10957) +ℤ pos 4371587 → e +ℤ pos 4371587 ≡ pos (unsigned_abs k) → e ≡ day +ℤ pos 10957
epoch_of day e k low same h = omega (arith, signed_arith, one_part k)

-- the parts that the code makes of a date are the day's
pub civil_is : (day of_date : ℤ) (m d place w : ℕ) → neg_ℤ (pos 73_200) ≤ℤ day → day ≤ℤ pos 73_200 → IsCivilDate of_date m d → days_from_civil of_date m d +ℤ pos 4371587 ≡ pos (unsigned_abs (to_z w32 (of_z w32 (to_z w32 (of_z w32 (to_z w32 (of_z w32 day) +ℤ pos 10957)) +ℤ pos 4371587)))) → place ≡ jiff_place of_date m d → w ≡ weekday_number (days_from_civil of_date m d) → IsCivil day (record { year = of_date; month = m; day = d; doy = place; weekday = (w + 1) % 7 })
civil_is day of_date m d place w low high date e p wd =
    let epoch : days_from_civil of_date m d ≡ day +ℤ pos 10957 = epoch_of day (days_from_civil of_date m d) _ low (shifted_day day low high) e in
    let from : pos 0 ≤ℤ of_date = year_from day of_date m d low date epoch in
    let y = unsigned_abs of_date in
    let as_pos : of_date ≡ pos y = magnitude of_date from in
    let in_month : d ≤ days_in_month (pos y) m = rw as_pos at date.2.1 in
    let at_pos : days_from_civil (pos y) m d ≡ day +ℤ pos 10957 = rw as_pos at epoch in
    let there : place ≡ jiff_place (pos y) m d = rw as_pos at p in
    record {
      year_from = from;
      date = record { month_from = date.1.0; month_to = date.1.1; day_from = date.2.0; day_to = omega (arith, month y m, in_month) };
      number = sym (from_1970 y m d date.2.0) ∙ omega (arith, signed_arith);
      place = omega (arith, there, months y (m - 1));
      weekday = weekday_is day (days_from_civil of_date m d) w epoch wd;
    }

pub year_cast : (of_date from : ℤ) → IsYear of_date → from ≡ to_z w16 (of_z w16 of_date) → to_z w32 (of_z w32 from) ≡ of_date
year_cast of_date from h e =
    let small : FitsSigned w16 of_date = omega (arith, signed_arith) in
    let mid : FitsSigned w32 of_date = omega (arith, signed_arith) in
    let same : from ≡ of_date = e ∙ to_z-of_z small in
    rw same (to_z-of_z mid)
