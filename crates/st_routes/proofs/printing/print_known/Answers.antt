use Rattle.std.proofs.Common.{option_map, Err, subst}
use Rattle.st_clock.specs.Time.{value_of}
use Rattle.st_picture.specs.Printing.{PrintsIn}
use Rattle.st_routes.proofs.Printed.{known_prints, known_differs}
use Rattle.st_routes.proofs.Values.{value_is}
use Rattle.st_routes.proofs.printing.print_known.Goals as goal

pub returns-in-Ok : goal.returns-in-Ok
returns-in-Ok c =
    let value = c.enclose-value.result in
    let r = value_of c.args.time in
    let r_is = value_is c.args.time c.requires.part in
    let inside = c.enclosed.ensures.contains in
    known_prints c.args.route.now r c.args.picture.now (option_map (λ t. t.now) c.args.leaps) value.lo value.hi c.in-Ok.line
    (c.enclose-value.ensures.at_least r r_is inside) (c.enclose-value.ensures.at_most r r_is inside) c.in-Ok.ensures.prints

pub returns-in-Err-Undecided : goal.returns-in-Err-Undecided
returns-in-Err-Undecided c =
    let value = c.enclose-value.result in
    let r = value_of c.args.time in
    let r_is = value_is c.args.time c.requires.part in
    let inside = c.enclosed.ensures.contains in
    known_differs c.args.route.now r c.args.picture.now (option_map (λ t. t.now) c.args.leaps) value.lo value.hi c.in-Err-Undecided.field-0-0 c.in-Err-Undecided.field-0-1
    c.requires.sine (c.enclose-value.ensures.at_least r r_is inside) (c.enclose-value.ensures.at_most r r_is inside) value.ordered c.enclose-value.ensures.narrow
    (subst (λ f. PrintsIn c.args.picture.now (option_map (λ t. t.now) c.args.leaps) value.lo value.hi (Err f)) c.in-Err-Undecided.field-0-is c.in-Err-Undecided.ensures.prints)
