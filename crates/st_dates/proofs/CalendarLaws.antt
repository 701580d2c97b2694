-- The calendar's computation gives a day number exactly where the calendar has the day.
use Rattle.std.proofs.Common.{◌≡◌, ℕ, ◌≤◌, true, ◌&&◌, nat_le, inl, inr, refl, sym, ap, ◌∙◌, arith, ℤ, Option, Some, None, IsSome, IfSome, ◌↔◌}
use Rattle.std.proofs.lemmas.Bool.{cases_Bool}
use Rattle.std.proofs.lemmas.Bool.Decides.{nat_tests}
use Rattle.st_dates.specs.Calendar.{IsCalendarDay, day_number, month_length, IsDayOfYear, number_in_year, year_length}
use Rattle.st_dates.specs.CalendarMachine.{is_calendar_day, calendar_day, is_day_of_year, day_in_year}

is_day : (y m d : ℕ) → IsCalendarDay y m d → is_calendar_day y m d ≡ true
is_day y m d h = grind (arith, nat_tests)

-- the test of four numbers, of which the last is the month's length
bounds : (m d n : ℕ) → ((nat_le 1 m && nat_le m 12) && (nat_le 1 d && nat_le d n)) ≡ true → (1 ≤ m) × (m ≤ 12) × (1 ≤ d) × (d ≤ n)
bounds m d n h = grind (arith, nat_tests)

day_is : (y m d : ℕ) → is_calendar_day y m d ≡ true → IsCalendarDay y m d
day_is y m d h =
    let b = bounds m d (month_length y m) h in
    record { month_from = b.0; month_to = b.1; day_from = b.2; day_to = b.3 }

pub there : (y m d : ℕ) → IsCalendarDay y m d → calendar_day y m d ≡ Some (day_number y m d)
unfolding calendar_day
there y m d h = rw (is_day y m d h) refl

pub not_there : (y m d : ℕ) → (IsCalendarDay y m d → ⊥) → calendar_day y m d ≡ None
unfolding calendar_day
not_there y m d h =
    elim (cases_Bool (is_calendar_day y m d)) [ inl t ↦ absurd (h (day_is y m d t)) | inr f ↦ rw f refl ]

-- what a call answers that finds a day exactly where there is one
pub exact : (o : Option ℤ) (y m d : ℕ) → (IsSome o ↔ IsCalendarDay y m d) → IfSome o (λ n. n ≡ day_number y m d) → o ≡ calendar_day y m d
exact None y m d some value = sym (not_there y m d (λ h. absurd (let no = some.1 h in cc)))
exact (Some n) y m d some value = ap Some value ∙ sym (there y m d (some.0 refl))

-- a number that was found is that of a day of the calendar
pub there_only : (y m d : ℕ) (n : ℤ) → calendar_day y m d ≡ Some n → IsCalendarDay y m d × (n ≡ day_number y m d)
there_only y m d n e =
    elim (cases_Bool (is_calendar_day y m d)) [
      | inl t ↦ let h = day_is y m d t in (h, let s = there y m d h in cc)
      | inr f ↦ absurd (let s = not_there y m d (λ h. let t = is_day y m d h in cc) in cc)
    ]

-- the same for the places of a year
place_is : (y p : ℕ) → IsDayOfYear y p → is_day_of_year y p ≡ true
place_is y p h = grind (arith, nat_tests)

place_bounds : (p n : ℕ) → (nat_le 1 p && nat_le p n) ≡ true → (1 ≤ p) × (p ≤ n)
place_bounds p n h = grind (arith, nat_tests)

is_place : (y p : ℕ) → is_day_of_year y p ≡ true → IsDayOfYear y p
is_place y p h = let b = place_bounds p (year_length y) h in record { from = b.0; to = b.1 }

pub place_there : (y p : ℕ) → IsDayOfYear y p → day_in_year y p ≡ Some (number_in_year y p)
unfolding day_in_year
place_there y p h = rw (place_is y p h) refl

pub place_not_there : (y p : ℕ) → (IsDayOfYear y p → ⊥) → day_in_year y p ≡ None
unfolding day_in_year
place_not_there y p h =
    elim (cases_Bool (is_day_of_year y p)) [ inl t ↦ absurd (h (is_place y p t)) | inr f ↦ rw f refl ]

pub place_exact : (o : Option ℤ) (y p : ℕ) → (IsSome o ↔ IsDayOfYear y p) → IfSome o (λ n. n ≡ number_in_year y p) → o ≡ day_in_year y p
place_exact None y p some value = sym (place_not_there y p (λ h. absurd (let no = some.1 h in cc)))
place_exact (Some n) y p some value = ap Some value ∙ sym (place_there y p (some.0 refl))

pub place_there_only : (y p : ℕ) (n : ℤ) → day_in_year y p ≡ Some n → IsDayOfYear y p × (n ≡ number_in_year y p)
place_there_only y p n e =
    elim (cases_Bool (is_day_of_year y p)) [
      | inl t ↦ let h = is_place y p t in (h, let s = place_there y p h in cc)
      | inr f ↦ absurd (let s = place_not_there y p (λ h. let t = place_is y p h in cc) in cc)
    ]
