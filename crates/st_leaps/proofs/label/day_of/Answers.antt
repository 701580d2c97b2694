use Rattle.std.proofs.Common.{◌≡◌, ℤ, pos, neg_ℤ, ◌+ℤ◌, ◌-ℤ◌, ◌≤ℤ◌, ◌<ℤ◌, sym, ap, ◌∙◌, subst, arith}
use Rattle.std.proofs.lemmas.Int.{ints, to_z-of_z}
use Rattle.std.specs.Int.{w32, w128}
use Rattle.st_leaps.specs.LabelMachine.{start_units}
use Rattle.st_leaps.specs.Table.{count_on}
use Rattle.st_leaps.proofs.Casts.{small32, kept128, less}
use Rattle.st_leaps.proofs.CountLaws.{tables_count}
use Rattle.st_leaps.proofs.Machine.{near_label, day_before, day_after}
use Rattle.st_leaps.proofs.label.day_of.Goals as goal
use mir.Val.{to_z, of_z}

-- the day before and the day after, as the code has them
back : (d : ℤ) → (neg_ℤ (pos 73_050) ≤ℤ d) × (d ≤ℤ pos 73_050) → to_z w32 (of_z w32 (to_z w32 (of_z w32 d) -ℤ pos 1)) ≡ d -ℤ pos 1
back d (from, to) = omega (arith, ints)

on : (d : ℤ) → (neg_ℤ (pos 73_050) ≤ℤ d) × (d ≤ℤ pos 73_050) → to_z w32 (of_z w32 (to_z w32 (of_z w32 d) +ℤ pos 1)) ≡ d +ℤ pos 1
on d (from, to) = omega (arith, ints)

here : (d : ℤ) → (neg_ℤ (pos 73_050) ≤ℤ d) × (d ≤ℤ pos 73_050) → to_z w32 (of_z w32 d) ≡ d
here d (from, to) = small32 d (omega (arith, ints)) (omega (arith, ints))

pub returns-then-tai-start_of-clause-started : goal.returns-then-tai-start_of-clause-started
returns-then-tai-start_of-clause-started c =
    let is = c.label_of-day.ensures.inverts ∙ to_z-of_z w128 c.args.tai c.ranges.tai in
    let d = c.label_of-day.result.day in
    let near = near_label c.label_of-day.result c.args.tai c.requires.range c.label_of-day.ensures.plain is in
    let counts = tables_count c.args.pairs.now c.requires.table in
    let P : ℤ → Type 0 = λ z. start_units (count_on c.args.pairs.now) z ≤ℤ c.args.tai in
    subst P (sym (back d near)) (day_before (count_on c.args.pairs.now) c.label_of-day.result c.args.tai counts c.label_of-day.ensures.plain is)

pub returns-then-tai-start_of-clause-not_ended : goal.returns-then-tai-start_of-clause-not_ended
returns-then-tai-start_of-clause-not_ended c =
    let is = c.label_of-day.ensures.inverts ∙ to_z-of_z w128 c.args.tai c.ranges.tai in
    let d = c.label_of-day.result.day in
    let near = near_label c.label_of-day.result c.args.tai c.requires.range c.label_of-day.ensures.plain is in
    let P : ℤ → Type 0 = λ z. c.args.tai <ℤ start_units (count_on c.args.pairs.now) z in
    let same : d ≡ to_z w32 (of_z w32 (to_z w32 (of_z w32 d) -ℤ pos 1)) +ℤ pos 1 = let b = back d near in omega (arith, ints) in
    subst P (here d near ∙ same) (less _ _ _ _ (to_z-of_z w128 c.args.tai c.ranges.tai)
    (kept128 c.start_of.result c.start_of.type_inv ∙ c.start_of.ensures) c.if-tai-start_of.true)

pub returns-then-tai-start_of-2-clause-not_ended : goal.returns-then-tai-start_of-2-clause-not_ended
returns-then-tai-start_of-2-clause-not_ended c =
    let is = c.label_of-day.ensures.inverts ∙ to_z-of_z w128 c.args.tai c.ranges.tai in
    let d = c.label_of-day.result.day in
    let near = near_label c.label_of-day.result c.args.tai c.requires.range c.label_of-day.ensures.plain is in
    let P : ℤ → Type 0 = λ z. c.args.tai <ℤ start_units (count_on c.args.pairs.now) z in
    subst P (on d near ∙ ap (λ (z : ℤ). z +ℤ pos 1) (sym (here d near))) (less _ _ _ _ (to_z-of_z w128 c.args.tai c.ranges.tai)
    (kept128 c.start_of-else-tai-start_of.result c.start_of-else-tai-start_of.type_inv ∙ c.start_of-else-tai-start_of.ensures) c.if-tai-start_of-2.true)

pub returns-else-tai-start_of-2-clause-not_ended : goal.returns-else-tai-start_of-2-clause-not_ended
returns-else-tai-start_of-2-clause-not_ended c =
    let is = c.label_of-day.ensures.inverts ∙ to_z-of_z w128 c.args.tai c.ranges.tai in
    let d = c.label_of-day.result.day in
    let near = near_label c.label_of-day.result c.args.tai c.requires.range c.label_of-day.ensures.plain is in
    let counts = tables_count c.args.pairs.now c.requires.table in
    let P : ℤ → Type 0 = λ z. c.args.tai <ℤ start_units (count_on c.args.pairs.now) (z +ℤ pos 1) in
    subst P (sym (on d near)) (day_after (count_on c.args.pairs.now) c.label_of-day.result c.args.tai counts c.label_of-day.ensures.plain is)
