-- What the definitions of tables and labels say by themselves, as laws.
use Rattle.std.specs.Prelude.{◌≡◌, ◌↔◌, ℤ, pos, ◌+ℤ◌, ◌≤ℤ◌, List, Result, ◌≢◌, Err}
use Rattle.st_fraction.specs.Fraction.{Fraction, IsFraction, ◌≤ᶠ◌, ◌<ᶠ◌, ◌≈ᶠ◌, units, ◌+ᶠ◌, ◌-ᶠ◌}
use Rattle.st_dates.specs.declared.label.Label.{Label}
use Rattle.st_decimal.specs.declared.number.Dec.{Dec}
use Rattle.st_leaps.specs.Faults.{Agree, Gives}
use Rattle.st_leaps.specs.Label.{Stamp, IsLabel, IsLabelOf, AreCounts, AreSameLabel, even_days, in_units, length_of, ◌≤ˡ◌}
use Rattle.st_leaps.specs.OfTable.{count_of}
use Rattle.st_leaps.specs.Table.{IsLeapTable, count_on}
use Rattle.st_leaps.specs.declared.fault.LeapFault.{LeapFault}
use Rattle.st_leaps.specs.declared.fault.LeapFault.TheVariants.{OutOfMemory}
use Rattle.st_leaps.specs.declared.pair.LeapPair.{LeapPair}
use Rattle.st_leaps.specs.declared.table.LeapTable.{LeapTable}

-- Every list of numbers is a table, or has a first rule that it breaks.
abbrev pub EachHasAnswer : Type 0
EachHasAnswer =
    (numbers : List Dec)
    → (answer : Result (List LeapPair) LeapFault) × Gives numbers answer × (answer ≢ Err OutOfMemory)

-- It is not both, and there is one table at most, and one first rule.
abbrev pub OneAnswer : Type 0
OneAnswer =
    (numbers : List Dec) (a b : Result (List LeapPair) LeapFault)
    → Gives numbers a → Gives numbers b → Agree a b

-- The days of a table have counts, from one less than none to 1,000, and so have even days.
abbrev pub EachTableCounts : Type 0
EachTableCounts = (table : LeapTable) → AreCounts (count_of table)

abbrev pub TablesCount : Type 0
TablesCount = (pairs : List LeapPair) → IsLeapTable pairs → AreCounts (count_on pairs)

abbrev pub EvenDaysCount : Type 0
EvenDaysCount = AreCounts even_days

-- A day has 86,400 s, or one more or one less.
abbrev pub DayLengths : Type 0
DayLengths =
    (pairs : List LeapPair) (day : ℤ) → IsLeapTable pairs
    → (pos 86_399 ≤ℤ length_of (count_on pairs) day)
    × (length_of (count_on pairs) day ≤ℤ pos 86_401)

-- Each time has a label, whatever fraction of a second it is.
abbrev pub EachHasLabel : Type 0
EachHasLabel =
    (count : ℤ → ℤ) (v : Fraction) → AreCounts count → IsFraction v
    → (label : Stamp) × IsLabelOf count v label

-- It has one label.
abbrev pub OneLabel : Type 0
OneLabel =
    (count : ℤ → ℤ) (v : Fraction) (a b : Stamp) → AreCounts count → IsFraction v
    → IsLabelOf count v a → IsLabelOf count v b → AreSameLabel a b

-- A label has one time.
abbrev pub OneTime : Type 0
OneTime =
    (count : ℤ → ℤ) (v w : Fraction) (label : Stamp)
    → IsLabelOf count v label → IsLabelOf count w label → v ≈ᶠ w

-- A label that a day has is the label of a time, and one that it hasn't is that of none.
abbrev pub LabelsHaveTimes : Type 0
LabelsHaveTimes =
    (count : ℤ → ℤ) (label : Stamp)
    → IsLabel count label ↔ ((v : Fraction) × IsFraction v × IsLabelOf count v label)

-- Labels rise with time, and time with labels.
abbrev pub LabelsRise : Type 0
LabelsRise =
    (count : ℤ → ℤ) (v w : Fraction) (a b : Stamp) → AreCounts count → IsFraction v → IsFraction w
    → IsLabelOf count v a → IsLabelOf count w b → (v ≤ᶠ w) ↔ (a ≤ˡ b)

-- A time between two units has the label of the lower one, and what is left of the time added to
-- its second.
abbrev pub LabelOfFloor : Type 0
LabelOfFloor =
    (count : ℤ → ℤ) (v : Fraction) (n : ℤ) (label : Stamp)
    → IsFraction v → units n ≤ᶠ v → v <ᶠ units (n +ℤ pos 1)
    → IsLabelOf count (units n) label
    → IsLabelOf count v (record { day = label.day; second = label.second +ᶠ (v -ᶠ units n) })

-- There and back: the label of a label's time is that label, and the time of a time's label is
-- that time.
abbrev pub LabelReturns : Type 0
LabelReturns =
    (count : ℤ → ℤ) (label other : Label) (tai : ℤ) → AreCounts count
    → IsLabelOf count (units tai) (in_units label) → IsLabelOf count (units tai) (in_units other)
    → other ≡ label

abbrev pub TimeReturns : Type 0
TimeReturns =
    (count : ℤ → ℤ) (label : Label) (tai other : ℤ)
    → IsLabelOf count (units tai) (in_units label) → IsLabelOf count (units other) (in_units label)
    → other ≡ tai
