use Rattle.std.proofs.Common.{◌≡◌, ◌≢◌, rules}
use Rattle.std.specs.Int.{w128}
use Rattle.st_picture.proofs.PrintLaws.{prints_both, only_both, only_apart}
use Rattle.st_picture.proofs.picture.Picture.print_in.Goals as goal
use mir.Val.{to_z, of_z}

pub returns-clause-prints : goal.returns-clause-prints
returns-clause-prints c =
    let same : c.cell_of-lo.result ≡ c.cell_of-hi.result = search rules in
    let lo : to_z w128 (of_z w128 c.args.value.lo) ≡ c.args.value.lo = search rules in
    let hi : to_z w128 (of_z w128 c.args.value.hi) ≡ c.args.value.hi = search rules in
    prints_both c.args.self.now _ c.args.value.lo c.args.value.hi _ _ c.cell_of-lo.result c.cell_of-hi.result _ lo hi same
    c.cell_of-lo.ensures.cell c.cell_of-hi.ensures.cell c.in_ok-line.ensures.text

pub returns-clause-only : goal.returns-clause-only
returns-clause-only c =
    let same : c.cell_of-lo.result ≡ c.cell_of-hi.result = search rules in
    let lo : to_z w128 (of_z w128 c.args.value.lo) ≡ c.args.value.lo = search rules in
    let hi : to_z w128 (of_z w128 c.args.value.hi) ≡ c.args.value.hi = search rules in
    λ answer h. only_both c.args.self.now _ c.args.value.lo c.args.value.hi _ _ c.cell_of-lo.result c.cell_of-hi.result _ answer lo hi same
    c.cell_of-lo.ensures.cell c.cell_of-hi.ensures.cell c.cell_of-lo.ensures.form c.in_ok-line.ensures.only h

pub returns-then-ne-clause-only : goal.returns-then-ne-clause-only
returns-then-ne-clause-only c =
    let unlike : c.cell_of-lo.result ≢ c.cell_of-hi.result = search rules in
    let lo : to_z w128 (of_z w128 c.args.value.lo) ≡ c.args.value.lo = search rules in
    let hi : to_z w128 (of_z w128 c.args.value.hi) ≡ c.args.value.hi = search rules in
    λ answer h. only_apart c.args.self.now _ c.args.value.lo c.args.value.hi _ _ c.cell_of-lo.result c.cell_of-hi.result answer lo hi unlike
    c.cell_of-lo.ensures.cell c.cell_of-hi.ensures.cell h
