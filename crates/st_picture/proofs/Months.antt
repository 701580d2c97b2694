-- Dates lie in the order of their days, and each day from the year 0 on has a month and a year.
use Rattle.std.proofs.Common.{◌≡◌, ◌⊎◌, ℕ, zero, suc, ◌+◌, ◌-◌, ◌<◌, ◌≤◌, Bool, true, false, cond, inl, inr, refl, sym, ap, ◌∙◌, subst, arith, lit≤, ℤ, pos, neg_ℤ, ◌+ℤ◌, ◌-ℤ◌, ◌≤ℤ◌, ◌<ℤ◌, unsigned_abs}
use Rattle.std.proofs.lemmas.Bool.{cases_order, cases_lt}
use Rattle.std.proofs.lemmas.Int.{ints}
use Rattle.st_dates.specs.Calendar.{is_leap, year_length, month_length, days_before_year, days_of_months, day_number, IsCalendarDay}
use Rattle.st_dates.specs.Civil.{day_of_year}
use Rattle.st_dates.proofs.CivilLaws.{before_month, in_year, before_later, year_step, year_of_months}
use Rattle.st_dates.proofs.DayLemmas.{magnitude, months_none}
use Rattle.st_picture.specs.Cell.{IsOfMonth}

-- an order of dates by their months
abbrev pub AreInOrder : ℕ → ℕ → ℕ → ℕ → Type 0
AreInOrder y m z n = (y < z) ⊎ ((y ≡ z) × (m ≤ n))

totals : (y m k z n e : ℕ) → 1 ≤ k → 1 ≤ e → day_number y m k ≤ℤ day_number z n e → days_before_year y + day_of_year y m k ≤ days_before_year z + day_of_year z n e
totals y m k z n e h i l = omega (arith, ints)

same_years : (y m k n e : ℕ) → IsCalendarDay y m k → IsCalendarDay y n e → days_before_year y + day_of_year y m k ≤ days_before_year y + day_of_year y n e → m ≤ n
same_years y m k n e h i l = elim (cases_lt n m) [
  | inl late ↦ let b = before_month y n e (m - 1) i (omega arith) in let some = h.day_from in absurd (omega arith)
  | inr le ↦ le
]

dates_rise : (y m k z n e : ℕ) → IsCalendarDay y m k → IsCalendarDay z n e → day_number y m k ≤ℤ day_number z n e → AreInOrder y m z n
dates_rise y m k z n e h i l =
    let t = totals y m k z n e h.day_from i.day_from l in
    elim (cases_order y z) [
      | inl same ↦ inr (
        same,
        same_years z m k n e (subst (λ (x : ℕ). IsCalendarDay x m k) same h) i
            (subst (λ (x : ℕ). days_before_year x + day_of_year x m k ≤ days_before_year z + day_of_year z n e) same t),
      )
      | inr other ↦ elim other [
        | inl lt ↦ inl lt
        | inr gt ↦
            let b = before_later z y gt in
            let c = in_year z n e i in
            let some = h.day_from in
            absurd (omega arith)
      ]
    ]

pub months_rise : (d e y z : ℤ) (m n : ℕ) → d ≤ℤ e → IsOfMonth d y m → IsOfMonth e z n → (y <ℤ z) ⊎ ((y ≡ z) × (m ≤ n))
months_rise d e y z m n le h k =
    let same_h = h.number in
    let same_k = k.number in
    let P : ℤ → Type 0 = λ x. x ≤ℤ day_number (unsigned_abs z) n k.of_month in
    let Q : ℤ → Type 0 = λ x. d ≤ℤ x in
    let numbers = subst P (sym same_h) (subst Q (sym same_k) le) in
    elim (dates_rise (unsigned_abs y) m h.of_month (unsigned_abs z) n k.of_month h.date k.date numbers) [
      | inl lt ↦ inl (let fy = h.year_from in let fz = k.year_from in omega (arith, ints))
      | inr same ↦ inr (magnitude y h.year_from ∙ ap pos same.0 ∙ sym (magnitude z k.year_from), same.1)
    ]

-- a place among the days of all years
record IsOfYear (n y : ℕ) : Type 0 where
  from : days_before_year y ≤ n
  to : n < days_before_year (suc y)

year_some : (y : ℕ) → 365 ≤ year_length y
year_some y = go (is_leap y)
  where
    go : (b : Bool) → 365 ≤ cond b 366 365
    go true = lit≤ tt
    go false = lit≤ tt

no_years : days_before_year 0 ≡ 0
unfolding days_before_year
no_years = refl

found_year : (n : ℕ) → (y : ℕ) × IsOfYear n y
found_year zero =
    let step = year_step 0 in
    let some = year_some 0 in
    let none = no_years in
    (0, record { from = omega arith; to = omega arith })
found_year (suc n) =
    let last = found_year n in
    let step = year_step (suc last.0) in
    let some = year_some (suc last.0) in
    let from = last.1.from in
    let to = last.1.to in
    elim (cases_lt (suc n) (days_before_year (suc last.0))) [
      | inl within ↦ (last.0, record { from = omega arith; to = within })
      | inr past ↦ (suc last.0, record { from = past; to = omega arith })
    ]

-- a place among the days of a year's first k months
record IsInMonth (y r k m : ℕ) : Type 0 where
  among : m < k
  from : days_of_months y m ≤ r
  to : r < days_of_months y (suc m)

found_month : (y r k : ℕ) → r < days_of_months y k → (m : ℕ) × IsInMonth y r k m
found_month y r zero h = let none = months_none y in absurd (omega arith)
found_month y r (suc k) h = elim (cases_lt r (days_of_months y k)) [
  | inl before ↦
      let earlier = found_month y r k before in
      let among = earlier.1.among in
      (earlier.0, record { among = omega arith; from = earlier.1.from; to = earlier.1.to })
  | inr here ↦ (k, record { among = omega arith; from = here; to = h })
]

month_step : (y m : ℕ) → days_of_months y (suc m) ≡ days_of_months y m + month_length y (suc m)
unfolding days_of_months
month_step y m = refl

epoch_days : days_before_year 2000 ≡ 730_485
unfolding days_before_year
epoch_days = refl

-- the day with so many days before it, from the year 0 on
month_of_place : (n : ℕ) → (year : ℤ) × (month : ℕ) × IsOfMonth (pos n -ℤ pos (days_before_year 2000)) year month
month_of_place n =
    let y = found_year n in
    let from = y.1.from in
    let to = y.1.to in
    let step = year_step y.0 in
    let twelve = year_of_months y.0 in
    let m = found_month y.0 (n - days_before_year y.0) 12 (omega arith) in
    let m_from = m.1.from in
    let m_to = m.1.to in
    let m_step = month_step y.0 m.0 in
    let among = m.1.among in
    let d = n - days_before_year y.0 - days_of_months y.0 m.0 + 1 in
    let back : days_of_months y.0 (suc m.0 - 1) ≡ days_of_months y.0 m.0 = let e : suc m.0 - 1 ≡ m.0 = omega arith in ap (days_of_months y.0) e in
    let total : days_before_year y.0 + days_of_months y.0 (suc m.0 - 1) + (d - 1) ≡ n = omega arith in (
      pos y.0,
      suc m.0,
      record {
        year_from = omega (arith, ints);
        of_month = d;
        date = record { month_from = omega arith; month_to = omega arith; day_from = omega arith; day_to = omega arith };
        number = ap (λ (k : ℕ). pos k -ℤ pos (days_before_year 2000)) total;
      },
    )

pub has_month : (day : ℤ) → neg_ℤ (pos 730_485) ≤ℤ day → (year : ℤ) × (month : ℕ) × IsOfMonth day year month
has_month day from =
    let n = unsigned_abs (day +ℤ pos 730_485) in
    let epoch = epoch_days in
    let same : pos n -ℤ pos (days_before_year 2000) ≡ day = omega (arith, ints) in
    let P : ℤ → Type 0 = λ d. (year : ℤ) × (month : ℕ) × IsOfMonth d year month in
    subst P same (month_of_place n)
