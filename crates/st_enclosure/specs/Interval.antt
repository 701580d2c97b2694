-- Intervals of whole numbers of units of 10^-18, and what is computed with them: sums end by end, products rounded outwards.
use Rattle.std.specs.Prelude.{◌^◌, ℤ, pos, neg_ℤ, ◌+ℤ◌, ◌-ℤ◌, ◌*ℤ◌, ◌≤ℤ◌}
use Rattle.std.specs.Int.{int_div_euclid, int_min, int_max}
use Rattle.st_enclosure.specs.declared.interval.Interval.{Interval}

infixl 60 ◌+ᵢ◌
infixl 60 ◌-ᵢ◌
infixl 70 ◌*ᵢ◌
abbrev pub interval : ℤ → ℤ → Interval
interval a b = record { lo = a; hi = b }

-- one number alone
abbrev pub point : ℤ → Interval
point a = interval a a

abbrev pub ◌+ᵢ◌ : Interval → Interval → Interval
a +ᵢ b = interval (a.lo +ℤ b.lo) (a.hi +ℤ b.hi)

abbrev pub ◌-ᵢ◌ : Interval → Interval → Interval
a -ᵢ b = interval (a.lo -ℤ b.hi) (a.hi -ℤ b.lo)

-- the greatest whole number at most z / 10^18, and the least at least that
abbrev pub floor_unit : ℤ → ℤ
floor_unit z = int_div_euclid z (pos (10 ^ 18))

abbrev pub ceil_unit : ℤ → ℤ
ceil_unit z = neg_ℤ (floor_unit (neg_ℤ z))

abbrev pub least_of : ℤ → ℤ → ℤ → ℤ → ℤ
least_of a b c d = int_min (int_min a b) (int_min c d)

abbrev pub greatest_of : ℤ → ℤ → ℤ → ℤ → ℤ
greatest_of a b c d = int_max (int_max a b) (int_max c d)

-- the four products of ends, which are units of units, rounded outwards to units
unfoldable pub ◌*ᵢ◌ : Interval → Interval → Interval
a *ᵢ b = interval (floor_unit (least_of (a.lo *ℤ b.lo) (a.lo *ℤ b.hi) (a.hi *ℤ b.lo) (a.hi *ℤ b.hi)))
    (ceil_unit (greatest_of (a.lo *ℤ b.lo) (a.lo *ℤ b.hi) (a.hi *ℤ b.lo) (a.hi *ℤ b.hi)))

abbrev pub widened : Interval → ℤ → Interval
widened a by = interval (a.lo -ℤ by) (a.hi +ℤ by)

-- the first has all that the second has
pub record Contains (a b : Interval) : Type 0 where
  pub from : a.lo ≤ℤ b.lo
  pub to : b.hi ≤ℤ a.hi
