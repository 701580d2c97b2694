-- Labels and times in units, as the code counts them.
use Rattle.std.proofs.Common.{◌≡◌, ◌^◌, ℤ, pos, neg_ℤ, ◌+ℤ◌, ◌-ℤ◌, ◌*ℤ◌, ◌≤ℤ◌, ◌<ℤ◌, arith, lit<}
use Rattle.std.proofs.lemmas.Int.{ints}
use Rattle.st_dates.specs.Label.{formal, IsPlainLabel}
use Rattle.st_dates.specs.declared.label.Label.{Label}
use Rattle.st_fraction.specs.Fraction.{units}
use Rattle.st_fraction.proofs.Scale.{at_self}
use Rattle.st_leaps.specs.Label.{IsLabel, IsLabelOf, IsTai, AreCounts, in_units, length_of}
use Rattle.st_leaps.specs.LabelMachine.{start_units}
use Rattle.st_leaps.proofs.Days.{start, unplaced}

-- a label from what the code tests and counts
pub label_is : (count : ℤ → ℤ) (label : Label) (tai : ℤ) → (start count label.day *ℤ pos (10 ^ 18)) ≤ℤ tai
    → tai <ℤ (start count (label.day +ℤ pos 1) *ℤ pos (10 ^ 18)) → label.of_day ≡ tai -ℤ start count label.day *ℤ pos (10 ^ 18)
    → IsLabelOf count (units tai) (in_units label)
label_is count label tai from to passed =
    unplaced count (units tai) (in_units label) (10 ^ 18) tai label.of_day (lit< tt) (record { positive = lit< tt }) (record { positive = lit< tt })
    (at_self (units tai)) (at_self (units label.of_day)) (record { from = from; to = to; passed = passed })

pub label_has : (count : ℤ → ℤ) (label : Label) (tai : ℤ) → pos 0 ≤ℤ label.of_day → label.of_day <ℤ (length_of count label.day *ℤ pos 1_000_000_000_000_000_000)
    → tai ≡ formal label +ℤ (count label.day *ℤ pos 1_000_000_000_000_000_000) → IsLabelOf count (units tai) (in_units label)
label_has count label tai from to is =
    label_is count label tai (omega (arith, ints)) (omega (arith, ints)) (omega (arith, ints))

pub before_day : (count : ℤ → ℤ) (label : Label) → label.of_day <ℤ pos 0 → IsLabel count (in_units label) → ⊥
before_day count label before is =
    let from = is.from.le in
    omega (arith, ints)

pub past_day : (count : ℤ → ℤ) (label : Label) → (length_of count label.day *ℤ pos 1_000_000_000_000_000_000) ≤ℤ label.of_day → IsLabel count (in_units label) → ⊥
past_day count label past is =
    let to = is.to.lt in
    omega (arith, ints)

-- the start of a day
pub starts : (count : ℤ → ℤ) (day : ℤ) → start_units count day ≡ start count day *ℤ pos (10 ^ 18)
unfolding start_units
starts count day = omega (arith, ints)

pub label_of_start : (count : ℤ → ℤ) (label : Label) (tai : ℤ) → start_units count label.day ≤ℤ tai → tai <ℤ start_units count (label.day +ℤ pos 1)
    → label.of_day ≡ tai -ℤ start_units count label.day → IsLabelOf count (units tai) (in_units label)
label_of_start count label tai from to passed =
    let s = starts count label.day in
    let e = starts count (label.day +ℤ pos 1) in
    label_is count label tai (omega (arith, ints)) (omega (arith, ints)) (omega (arith, ints))

-- the day of a formal label is the right one, or one too early, or one too late
pub near_label : (label : Label) (tai : ℤ) → IsTai tai → IsPlainLabel label → formal label ≡ tai → (neg_ℤ (pos 73_050) ≤ℤ label.day) × (label.day ≤ℤ pos 73_050)
near_label label tai (low, high) plain is =
    let from = plain.from in
    let to = plain.to in
    (omega (arith, ints), omega (arith, ints))

pub day_before : (count : ℤ → ℤ) (label : Label) (tai : ℤ) → AreCounts count → IsPlainLabel label → formal label ≡ tai → start_units count (label.day -ℤ pos 1) ≤ℤ tai
unfolding start_units
day_before count label tai c plain is =
    let from = plain.from in
    let most = c.to (label.day -ℤ pos 1) in
    omega (arith, ints)

pub day_after : (count : ℤ → ℤ) (label : Label) (tai : ℤ) → AreCounts count → IsPlainLabel label → formal label ≡ tai → tai <ℤ start_units count (label.day +ℤ pos 1 +ℤ pos 1)
unfolding start_units
day_after count label tai c plain is =
    let to = plain.to in
    let least = c.from (label.day +ℤ pos 1 +ℤ pos 1) in
    omega (arith, ints)

-- the days of times that are taken, and the units at which they start
pub day_range : (count : ℤ → ℤ) (day tai : ℤ) → AreCounts count → IsTai tai → start_units count day ≤ℤ tai → tai <ℤ start_units count (day +ℤ pos 1)
    → (neg_ℤ (pos 73_050) ≤ℤ day) × (day ≤ℤ pos 73_050)
unfolding start_units
day_range count day tai c (low, high) from to =
    let least = c.from day in
    let most = c.to (day +ℤ pos 1) in
    (omega (arith, ints), omega (arith, ints))

pub start_range : (count : ℤ → ℤ) (day : ℤ) → AreCounts count → neg_ℤ (pos 73_050) ≤ℤ day → day ≤ℤ pos 73_051
    → (neg_ℤ (pos 1_000_000_000_000_000_000_000_000_000_000) ≤ℤ start_units count day) × (start_units count day ≤ℤ pos 1_000_000_000_000_000_000_000_000_000_000)
unfolding start_units
start_range count day c from to =
    let least = c.from day in
    let most = c.to day in
    (omega (arith, ints), omega (arith, ints))

pub passed_below : (count : ℤ → ℤ) (day tai : ℤ) → length_of count day ≤ℤ pos 86_401 → tai <ℤ start_units count (day +ℤ pos 1)
    → (tai -ℤ start_units count day) <ℤ pos 86_401_000_000_000_000_000_000
unfolding start_units
passed_below count day tai length to = omega (arith, ints)
