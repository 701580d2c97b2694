use Rattle.std.proofs.Common.{◌≡◌, ℤ, pos, neg_ℤ, ◌+ℤ◌, ◌-ℤ◌, ◌≤ℤ◌, ◌<ℤ◌, sym, ap, ◌∙◌, subst, refl, ◌<◌, arith}
use Rattle.std.proofs.lemmas.Int.{ints, to_z-of_z}
use Rattle.std.specs.Int.{w32, w128}
use Rattle.st_dates.specs.declared.label.Label.{Label}
use Rattle.st_fraction.specs.Fraction.{units}
use Rattle.st_leaps.specs.Label.{IsLabelOf, in_units}
use Rattle.st_leaps.specs.LabelMachine.{start_units}
use Rattle.st_leaps.specs.Table.{count_on}
use Rattle.st_leaps.proofs.Casts.{small32, kept128}
use Rattle.st_leaps.proofs.CountLaws.{tables_count}
use Rattle.st_leaps.proofs.LabelLaws.{label_returns}
use Rattle.st_leaps.proofs.Lengths.{day_lengths}
use Rattle.st_leaps.proofs.Machine.{day_range, start_range, label_of_start, passed_below}
use Rattle.st_leaps.proofs.label.utc_of.Goals as goal
use lib.Signed.{mag}
use mir.Val.{to_z, of_z, SFits}

-- the day that was found is the day of the time
record IsDayOf (count : ℤ → ℤ) (d tai : ℤ) : Type 0 where
  started : start_units count d ≤ℤ tai
  not_ended : tai <ℤ start_units count (d +ℤ pos 1)

is_day : (count : ℤ → ℤ) (d tai : ℤ) → SFits w128 tai → start_units count d ≤ℤ to_z w128 (of_z w128 tai) → to_z w128 (of_z w128 tai) <ℤ start_units count (d +ℤ pos 1) → IsDayOf count d tai
is_day count d tai fits from to =
    let e = to_z-of_z w128 tai fits in
    let P : ℤ → Type 0 = λ z. start_units count d ≤ℤ z in
    let Q : ℤ → Type 0 = λ z. z <ℤ start_units count (d +ℤ pos 1) in
    record { started = subst P e from; not_ended = subst Q e to }

pub start_of-requires-clause-from : goal.start_of-requires-clause-from
start_of-requires-clause-from c =
    let day = is_day (count_on c.args.pairs.now) c.day_of-day.result c.args.tai c.ranges.tai c.day_of-day.ensures.started c.day_of-day.ensures.not_ended in
    let range = day_range (count_on c.args.pairs.now) c.day_of-day.result c.args.tai (tables_count c.args.pairs.now c.requires.table) c.requires.range day.started day.not_ended in
    let from = range.0 in
    let to = range.1 in
    omega (arith, ints)

pub start_of-requires-clause-to : goal.start_of-requires-clause-to
start_of-requires-clause-to c =
    let day = is_day (count_on c.args.pairs.now) c.day_of-day.result c.args.tai c.ranges.tai c.day_of-day.ensures.started c.day_of-day.ensures.not_ended in
    let range = day_range (count_on c.args.pairs.now) c.day_of-day.result c.args.tai (tables_count c.args.pairs.now c.requires.table) c.requires.range day.started day.not_ended in
    let from = range.0 in
    let to = range.1 in
    omega (arith, ints)

-- the day and its start, as the code has them
same_day : (d : ℤ) → (neg_ℤ (pos 73_050) ≤ℤ d) × (d ≤ℤ pos 73_050) → to_z w32 (of_z w32 d) ≡ d
same_day d (from, to) = small32 d (omega (arith, ints)) (omega (arith, ints))

same_start : (count : ℤ → ℤ) (d d' s : ℤ) → d' ≡ d → mag s < 170_141_183_460_469_231_731_687_303_715_884_105_728 → s ≡ start_units count d' → to_z w128 (of_z w128 s) ≡ start_units count d
same_start count d d' s e fits is = kept128 s fits ∙ is ∙ ap (λ (z : ℤ). start_units count z) e

pub since-requires-clause-start_from : goal.since-requires-clause-start_from
since-requires-clause-start_from c =
    let count = count_on c.args.pairs.now in
    let counts = tables_count c.args.pairs.now c.requires.table in
    let d = c.day_of-day.result in
    let is = is_day count d c.args.tai c.ranges.tai c.day_of-day.ensures.started c.day_of-day.ensures.not_ended in
    let range = day_range count d c.args.tai counts c.requires.range is.started is.not_ended in
    let to : d ≤ℤ pos 73_051 = let most = range.1 in omega (arith, ints) in
    let P : ℤ → Type 0 = λ z. neg_ℤ (pos 1_000_000_000_000_000_000_000_000_000_000) ≤ℤ z in
    subst P (sym (same_start count d _ c.start_of.result (same_day d range) c.start_of.type_inv c.start_of.ensures)) (start_range count d counts range.0 to).0

same_second : (a t s r b : ℤ) → mag r < 170_141_183_460_469_231_731_687_303_715_884_105_728 → r ≡ a -ℤ s → a ≡ t → s ≡ b → to_z w128 (of_z w128 r) ≡ t -ℤ b
same_second a t s r b fits is e f = kept128 r fits ∙ is ∙ (λ i. e i -ℤ f i)

pub returns-clause-is : goal.returns-clause-is
returns-clause-is c =
    let count = count_on c.args.pairs.now in
    let counts = tables_count c.args.pairs.now c.requires.table in
    let d = c.day_of-day.result in
    let is = is_day count d c.args.tai c.ranges.tai c.day_of-day.ensures.started c.day_of-day.ensures.not_ended in
    let range = day_range count d c.args.tai counts c.requires.range is.started is.not_ended in
    let day = same_day d range in
    let second = same_second _ c.args.tai _ c.since.result (start_units count d) c.since.type_inv c.since.ensures
    (to_z-of_z w128 c.args.tai c.ranges.tai) (same_start count d _ c.start_of.result day c.start_of.type_inv c.start_of.ensures) in
    let plain : Label = record { day = d; of_day = c.args.tai -ℤ start_units count d } in
    let P : Label → Type 0 = λ l. IsLabelOf count (units c.args.tai) (in_units l) in
    let same : ◌≡◌ {A = Label} plain (record { day = to_z w32 (of_z w32 d); of_day = to_z w128 (of_z w128 c.since.result) }) =
    λ i. record { day = sym day i; of_day = sym second i } in
    subst P same (label_of_start count plain c.args.tai is.started is.not_ended refl)

pub returns-clause-only : goal.returns-clause-only
returns-clause-only c = λ label h.
    label_returns (count_on c.args.pairs.now) label _ c.args.tai (tables_count c.args.pairs.now c.requires.table) h (returns-clause-is c)

pub returns-clause-day_from : goal.returns-clause-day_from
returns-clause-day_from c =
    let day = is_day (count_on c.args.pairs.now) c.day_of-day.result c.args.tai c.ranges.tai c.day_of-day.ensures.started c.day_of-day.ensures.not_ended in
    let range = day_range (count_on c.args.pairs.now) c.day_of-day.result c.args.tai (tables_count c.args.pairs.now c.requires.table) c.requires.range day.started day.not_ended in
    let from = range.0 in
    let to = range.1 in
    omega (arith, ints)

pub returns-clause-day_to : goal.returns-clause-day_to
returns-clause-day_to c =
    let day = is_day (count_on c.args.pairs.now) c.day_of-day.result c.args.tai c.ranges.tai c.day_of-day.ensures.started c.day_of-day.ensures.not_ended in
    let range = day_range (count_on c.args.pairs.now) c.day_of-day.result c.args.tai (tables_count c.args.pairs.now c.requires.table) c.requires.range day.started day.not_ended in
    let from = range.0 in
    let to = range.1 in
    omega (arith, ints)

pub returns-clause-to : goal.returns-clause-to
returns-clause-to c =
    let count = count_on c.args.pairs.now in
    let counts = tables_count c.args.pairs.now c.requires.table in
    let d = c.day_of-day.result in
    let is = is_day count d c.args.tai c.ranges.tai c.day_of-day.ensures.started c.day_of-day.ensures.not_ended in
    let range = day_range count d c.args.tai counts c.requires.range is.started is.not_ended in
    let second = same_second _ c.args.tai _ c.since.result (start_units count d) c.since.type_inv c.since.ensures
    (to_z-of_z w128 c.args.tai c.ranges.tai) (same_start count d _ c.start_of.result (same_day d range) c.start_of.type_inv c.start_of.ensures) in
    let P : ℤ → Type 0 = λ z. z <ℤ pos 86_401_000_000_000_000_000_000 in
    subst P (sym second) (passed_below count d c.args.tai (day_lengths c.args.pairs.now d c.requires.table).1 is.not_ended)
