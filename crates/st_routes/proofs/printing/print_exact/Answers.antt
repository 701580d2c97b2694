use Rattle.std.proofs.Common.{◌≡◌, ◌+ℤ◌, ◌∙◌, rules, ap, option_map}
use Rattle.st_fraction.specs.Fraction.{units}
use Rattle.st_picture.specs.Cell.{IsCellOf}
use Rattle.st_routes.specs.Route.{shift}
use Rattle.st_routes.proofs.Printed.{exact_prints}
use Rattle.st_routes.proofs.printing.print_exact.Goals as goal

pub returns : goal.returns
returns c =
    let point : c.point.result.lo ≡ c.args.time.units = search rules in
    let low = (c.enclose-value.ensures.exact c.requires.exact).0 ∙ ap (λ z. z +ℤ shift c.args.route.now) point in
    let has : IsCellOf c.args.picture.now (option_map (λ t. t.now) c.args.leaps) (units c.enclose-value.result.lo) c.cell_of-cell.result = search rules in
    exact_prints c.one_value.ensures.exact c.cell_of_floor.ensures c.args.route.now c.args.time c.args.picture.now (option_map (λ t. t.now) c.args.leaps)
    c.enclose-value.result.lo c.cell_of-cell.result c.in_ok-print_cell.field-0 c.requires.exact c.requires.part low c.cell_of-cell.ensures.unit has
    (search rules)
