-- Labels: a day and a second of that day, in a scale whose days are told by a count, the seconds
-- that they are behind TAI. UTC's days have the counts of a table of leap seconds. The days of all
-- other scales are even: they have 86,400 s, and the count 0 on each. Source: Time Required Reading.
use Rattle.std.specs.Prelude.{◌≡◌, ◌⊎◌, ℤ, pos, neg_ℤ, ◌+ℤ◌, ◌-ℤ◌, ◌*ℤ◌, ◌≤ℤ◌, ◌<ℤ◌}
use Rattle.st_fraction.specs.Fraction.{Fraction, IsFraction, ◌≤ᶠ◌, ◌<ᶠ◌, ◌≈ᶠ◌, whole, units, ◌+ᶠ◌}
use Rattle.st_dates.specs.declared.label.Label.{Label}

infix 50 ◌≤ˡ◌
-- a day, counted from 2000-01-01, and a second of that day, which may be any fraction
pub record Stamp : Type 0 where
  pub day : ℤ
  pub second : Fraction

abbrev pub even_days : ℤ → ℤ
even_days day = pos 0

-- the counts of days that are spoken of
pub record AreCounts (count : ℤ → ℤ) : Type 0 where
  pub from : (day : ℤ) → neg_ℤ (pos 1) ≤ℤ count day
  pub to : (day : ℤ) → count day ≤ℤ pos 1000

-- the seconds of a day: 86,400, and by how much the count of the next day is more than its own
abbrev pub length_of : (ℤ → ℤ) → ℤ → ℤ
length_of count day = pos 86_400 +ℤ count (day +ℤ pos 1) -ℤ count day

-- the formal count of seconds at the start of a day, past 2000-01-01 12:00:00
abbrev pub formal_start : ℤ → ℤ
formal_start day = day *ℤ pos 86_400 -ℤ pos 43_200

-- the day has the second: it is from 0 to less than the day's length
pub record IsLabel (count : ℤ → ℤ) (label : Stamp) : Type 0 where
  pub second_is : IsFraction label.second
  pub from : whole (pos 0) ≤ᶠ label.second
  pub to : label.second <ᶠ whole (length_of count label.day)

-- the value of a label, in seconds past 2000-01-01 12:00:00; of a UTC label that is its TAI
abbrev pub value_of : (ℤ → ℤ) → Stamp → Fraction
value_of count label = whole (formal_start label.day +ℤ count label.day) +ᶠ label.second

pub record IsLabelOf (count : ℤ → ℤ) (v : Fraction) (label : Stamp) : Type 0 where
  pub is_label : IsLabel count label
  pub value : value_of count label ≈ᶠ v

-- the order of labels: by the day, and by the second on one day
abbrev pub ◌≤ˡ◌ : Stamp → Stamp → Type 0
a ≤ˡ b = (a.day <ℤ b.day) ⊎ ((a.day ≡ b.day) × (a.second ≤ᶠ b.second))

pub record AreSameLabel (a b : Stamp) : Type 0 where
  pub day : a.day ≡ b.day
  pub second : a.second ≈ᶠ b.second

-- a label whose second is told in units of 10^-18 s
abbrev pub in_units : Label → Stamp
in_units label = record { day = label.day; second = units label.of_day }

-- a TAI that calls take: at most 6,311,500,000 s in magnitude, in units of 10^-18 s
abbrev pub IsTai : ℤ → Type 0
IsTai tai =
    (neg_ℤ (pos 6_311_500_000_000_000_000_000_000_000) ≤ℤ tai)
    × (tai ≤ℤ pos 6_311_500_000_000_000_000_000_000_000)
