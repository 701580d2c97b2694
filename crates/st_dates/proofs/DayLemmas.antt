-- The day numbers of `jiff`, which count from the year -10000 and from 1970, are this crate's, less a constant.
use Rattle.std.proofs.Common.{◌≡◌, ℕ, zero, suc, ◌+◌, ◌-◌, ◌≤◌, refl, ap, ◌∙◌, arith, ℤ, pos, negsuc, ◌-ℤ◌, ◌≤ℤ◌, unsigned_abs, FitsSigned, to_z, of_z, to_z-of_z, w32}
use Rattle.std.proofs.lemmas.Bool.Decides.{nat_tests}
use Rattle.jiff_core.specs.Calendar.{is_leap_year, days_in_year, days_in_month, days_of_years, day_count, days_from_civil, IsEpochDay}
use Rattle.jiff_core.specs.Calendar.{days_of_months as jiff_months}
use Rattle.jiff_core.proofs.CalendarLemmas.{days_from_civil-day_count}
use Rattle.jiff_core.proofs.MarchLemmas.{day_count-early}
use Rattle.jiff_core.proofs.SignedLemmas.{signed_arith, signed_casts}
use Rattle.st_dates.specs.Calendar.{is_leap, year_length, month_length, days_before_year, days_of_months, day_number}

-- both leap rules agree
pub leap : (y : ℕ) → is_leap_year (pos y) ≡ is_leap y
leap y = grind (arith, nat_tests)

pub year : (y : ℕ) → days_in_year (pos y) ≡ year_length y
year y = grind (arith, leap y)

pub month : (y m : ℕ) → days_in_month (pos y) m ≡ month_length y m
month y m = grind (arith, leap y)

back : (y : ℕ) → pos (y + 10000) -ℤ pos 10000 ≡ pos y
back y = omega (arith, signed_arith)

years_step : (n : ℕ) → days_of_years (suc n) ≡ days_of_years n + days_in_year (pos n -ℤ pos 10000)
unfolding days_of_years
years_step n = refl

pub years : (y : ℕ) → days_of_years (y + 10000) ≡ days_of_years 10000 + days_before_year y
unfolding days_before_year
years zero = omega arith
years (suc y) =
    let step = years_step (y + 10000) in
    let same : days_in_year (pos (y + 10000) -ℤ pos 10000) ≡ year_length y = ap days_in_year (back y) ∙ year y in
    let at : suc y + 10000 ≡ suc (y + 10000) = omega arith in
    omega (arith, step, same, years y, ap days_of_years at)

pub months : (y n : ℕ) → jiff_months (pos y) n ≡ days_of_months y n
unfolding days_of_months jiff_months
months y zero = refl
months y (suc n) = omega (arith, months y n, month y (suc n))

pub months_none : (y : ℕ) → days_of_months y 0 ≡ 0
unfolding days_of_months
months_none y = refl

count_is : (y m d : ℕ) → day_count (pos y) m d ≡ days_of_years (y + 10000) + (jiff_months (pos y) (m - 1) + d - 1)
unfolding day_count
count_is y m d = refl

count : (y m d : ℕ) → 1 ≤ d → day_count (pos y) m d + 1 ≡ days_of_years 10000 + days_before_year y + days_of_months y (m - 1) + d
count y m d h = omega (arith, count_is y m d, years y, months y (m - 1))

count_2000 : day_count (pos 2000) 1 1 ≡ 4_382_910
count_2000 = day_count-early (pos 2000) 11999 1 1 refl (omega arith) (omega arith) (omega arith)

-- a day number from 1970 less that of 2000-01-01
pub from_1970 : (y m d : ℕ) → 1 ≤ d → days_from_civil (pos y) m d -ℤ pos 10957 ≡ day_number y m d
from_1970 y m d h =
    omega (arith, signed_arith, days_from_civil-day_count (pos y) m d, count y m d h, count 2000 1 1 (omega arith), count_2000, months_none 2000)

-- a number that isn't negative is its magnitude
pub magnitude : (z : ℤ) → pos 0 ≤ℤ z → z ≡ pos (unsigned_abs z)
magnitude (pos n) h = refl
magnitude (negsuc n) h = absurd (omega (arith, signed_arith))

-- the subtraction of 10957 in 32 bits loses nothing
pub shifted : (r : ℤ) → IsEpochDay r → to_z w32 (of_z w32 (to_z w32 (of_z w32 r) -ℤ pos 10957)) ≡ r -ℤ pos 10957
shifted r h =
    let fits : FitsSigned w32 r = omega (arith, signed_arith) in
    let less : FitsSigned w32 (r -ℤ pos 10957) = omega (arith, signed_arith) in
    rw (to_z-of_z fits) (to_z-of_z less)

pub number_is : (r year : ℤ) (m d : ℕ) → pos 0 ≤ℤ year → 1 ≤ d → r ≡ days_from_civil year m d → IsEpochDay r → to_z w32 (of_z w32 (to_z w32 (of_z w32 r) -ℤ pos 10957)) ≡ day_number (unsigned_abs year) m d
number_is r year m d h k e bounds =
    shifted r bounds ∙ ap (λ (z : ℤ). z -ℤ pos 10957) (e ∙ ap (λ (z : ℤ). days_from_civil z m d) (magnitude year h)) ∙ from_1970 (unsigned_abs year) m d k

-- a year below 2^31 is the same in 32 signed bits
pub year_as_i32 : (year : ℕ) → year ≤ 9999 → unsigned_abs (to_z w32 year) ≡ year
year_as_i32 year h = omega (arith, signed_casts)
