-- The parts of a sample's date are few digits each: its year has at most four, and its month and day two.
use Rattle.std.proofs.Common.{◌≡◌, ℕ, zero, suc, ◌+◌, ◌*◌, ◌<◌, ◌≤◌, refl, arith, ℤ, pos, ◌≤ℤ◌}
use Rattle.std.proofs.lemmas.Bool.Decides.{nat_tests}
use Rattle.std.proofs.lemmas.Int.{ints}
use Rattle.st_dates.specs.Calendar.{year_length, month_length, days_before_year, day_number}

year_least : (y : ℕ) → 365 ≤ year_length y
year_least y = grind (arith, nat_tests)

year_most : (y : ℕ) → year_length y ≤ 366
year_most y = grind (arith, nat_tests)

year_step : (y : ℕ) → days_before_year (suc y) ≡ days_before_year y + year_length y
unfolding days_before_year
year_step y = refl

no_years : days_before_year 0 ≡ 0
unfolding days_before_year
no_years = refl

years_least : (y : ℕ) → 365 * y ≤ days_before_year y
years_least zero = omega arith
years_least (suc y) = omega (arith, year_step y, years_least y, year_least y)

years_most : (y : ℕ) → days_before_year y ≤ 366 * y
years_most zero = omega (arith, no_years)
years_most (suc y) = omega (arith, year_step y, years_most y, year_most y)

-- the years of samples end with 2068
pub year_few : (y m d : ℕ) (day : ℤ) → day_number y m d ≡ day → day ≤ℤ pos 24_856 → y < 10_000
year_few y m d day e to = omega (arith, ints, e, years_least y, years_most 2000)

pub month_few : (y m : ℕ) → month_length y m ≤ 31
month_few y m = grind (arith, nat_tests)
