use Rattle.std.proofs.Common.{◌≡◌, ℤ, pos, ◌+ℤ◌, ◌*ℤ◌, ◌≤ℤ◌, ap, ◌∙◌, refl, arith, rules}
use Rattle.std.proofs.lemmas.Int.{ints}
use Rattle.std.specs.Int.{w32, w64, w128}
use Rattle.st_leaps.specs.Table.{count_on}
use Rattle.st_leaps.specs.Label.{length_of}
use Rattle.st_leaps.proofs.Casts.{kept128, not_less, not_at_most}
use Rattle.st_leaps.proofs.Machine.{label_has}
use Rattle.st_leaps.proofs.label.tai_of.Goals as goal
use mir.Val.{to_z, of_z}

pub returns : goal.returns
returns c =
    let count = count_on c.args.pairs.now in
    let day = c.args.label.day in
    let plain_day : to_z w32 (of_z w32 day) ≡ day = search rules in
    let plain_second : to_z w128 (of_z w128 c.args.label.of_day) ≡ c.args.label.of_day = search rules in
    let plain_tai = kept128 c.later_by.result c.later_by.type_inv in
    let from : pos 0 ≤ℤ c.args.label.of_day = not_less _ _ _ _ plain_second refl c.if-label-lt0.false in
    let length : c.length_of.result ≡ length_of count day = c.length_of.ensures.value ∙ ap (λ (z : ℤ). length_of count z) plain_day in
    let seconds : c.count_on.result ≡ count day = c.count_on.ensures.value ∙ ap (λ (z : ℤ). count z) plain_day in
    let most = c.length_of.ensures.to in
    let least = c.length_of.ensures.from in
    let units : c.later_by-length.result ≡ length_of count day *ℤ pos 1_000_000_000_000_000_000 = omega (arith, ints, c.later_by-length.ensures) in
    let to = not_at_most _ _ _ _ (kept128 c.later_by-length.result c.later_by-length.type_inv ∙ units) plain_second c.if-label-length.false in
    let formal_is = kept128 c.formal_of.result c.formal_of.type_inv ∙ c.formal_of.ensures in
    let from_count = c.count_on.ensures.from in
    let to_count = c.count_on.ensures.to in
    let kept : to_z w64 (of_z w64 c.count_on.result) ≡ c.count_on.result = omega (arith, ints) in
    let counted = kept ∙ seconds in
    let is = plain_tai ∙ c.later_by.ensures ∙ (λ i. formal_is i +ℤ (counted i *ℤ pos 1_000_000_000_000_000_000)) in
    label_has count c.args.label _ from to is
