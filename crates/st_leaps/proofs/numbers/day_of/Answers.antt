use Rattle.std.proofs.Common.{◌≡◌, ℤ, pos, ◌≤ℤ◌, sym, ◌∙◌, subst, refl, arith, rules}
use Rattle.std.proofs.lemmas.Int.{ints}
use Rattle.std.specs.Int.{w32, w128}
use Rattle.st_dates.specs.Range.{range_start, range_end}
use Rattle.st_leaps.specs.Numbers.{IsMidnight}
use Rattle.st_leaps.proofs.Casts.{not_less}
use Rattle.st_leaps.proofs.NumberLaws.{midnight_is}
use Rattle.st_leaps.proofs.numbers.day_of.Goals as goal
use mir.Val.{to_z, of_z}

pub returns-clause-some : goal.returns-clause-some
returns-clause-some c =
    let time = c.in_ok-time.time in
    let label = c.label_of-label.result in
    let plain : to_z w128 (of_z w128 time) ≡ time = search rules in
    let day : to_z w32 (of_z w32 label.day) ≡ label.day = search rules in
    let least = c.label_of-label.ensures.plain.from in
    let most = c.label_of-label.ensures.plain.to in
    let none : label.of_day ≡ pos 0 = omega (arith, ints, c.if-label-ne0.false) in
    let from : range_start ≤ℤ time = not_less _ _ _ _ plain refl c.if-time-lt-FIRST.false in
    let to : time ≤ℤ range_end = not_less _ _ _ _ refl plain c.if-time-gt-LAST.false in
    let P : ℤ → Type 0 = λ z. IsMidnight c.args.number z in
    subst P (sym day) (midnight_is c.args.number label time c.in_ok-time.ensures.some (c.label_of-label.ensures.inverts ∙ plain) none from to)
