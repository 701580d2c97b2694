use Rattle.std.proofs.Common.{◌+ℤ◌, ◌-ℤ◌, arith, rules}
use Rattle.std.specs.Int.{w128}
use Rattle.std.specs.Int.RustNames.{FitsSigned}
use Rattle.std.proofs.lemmas.Int.{ints, to_z-of_z}
use Rattle.st_fit.proofs.Runs.{IsNarrowed}
use Rattle.st_fit.proofs.Narrowing.{narrowed_is}
use Rattle.st_fit.proofs.rates.Rates.narrowed.Goals as goal

pub times-high-requires-clause-x_small : goal.times-high-requires-clause-x_small
times-high-requires-clause-x_small c =
    let a : FitsSigned w128 c.args.p.time = search rules in
    let b : FitsSigned w128 c.args.start.time = search rules in
    let t : FitsSigned w128 c.args.terms.tolerance = search rules in
    omega (arith, ints, c.requires.start_small, c.requires.small, c.requires.terms.tolerance_from, c.requires.terms.tolerance_to)

narrowed : (c : goal.After-min) → IsNarrowed c.args.terms c.args.start c.args.p c.args.self (record { least = c.max.result; greatest = c.min.result })
narrowed c =
    let a : FitsSigned w128 c.args.p.time = search rules in
    let b : FitsSigned w128 c.args.start.time = search rules in
    let t : FitsSigned w128 c.args.terms.tolerance = search rules in
    let sl : FitsSigned w128 c.args.self.least = search rules in
    let sg : FitsSigned w128 c.args.self.greatest = search rules in
    let l : FitsSigned w128 c.least_over.result = search rules in
    let g : FitsSigned w128 c.greatest_over.result = search rules in
    let tl : FitsSigned w128 c.times-low.result = search rules in
    let th : FitsSigned w128 c.times-high.result = search rules in
    let d : FitsSigned w128 (c.args.p.time -ℤ c.args.start.time) = omega (arith, ints, c.requires.start_small, c.requires.small) in
    let dl : FitsSigned w128 (c.args.p.time -ℤ c.args.start.time -ℤ c.args.terms.tolerance) =
    omega (arith, ints, c.requires.start_small, c.requires.small, c.requires.terms.tolerance_from, c.requires.terms.tolerance_to) in
    let dh : FitsSigned w128 (c.args.p.time -ℤ c.args.start.time +ℤ c.args.terms.tolerance) =
    omega (arith, ints, c.requires.start_small, c.requires.small, c.requires.terms.tolerance_from, c.requires.terms.tolerance_to) in
    let later = c.requires.later in
    narrowed_is c.args.terms c.args.start c.args.p c.args.self (record { least = c.max.result; greatest = c.min.result })
    c.times-low.result c.times-high.result c.least_over.result c.greatest_over.result c.requires.terms.some (omega arith)
    (simp to_z-of_z at c.times-low.ensures.value)
    (simp to_z-of_z at c.times-high.ensures.value)
    (simp to_z-of_z at c.least_over.ensures)
    (simp to_z-of_z at c.greatest_over.ensures.is)
    (simp to_z-of_z at c.max.ensures.value)
    (simp to_z-of_z at c.min.ensures.value)

pub returns-clause-fits : goal.returns-clause-fits
returns-clause-fits c =
    let m : FitsSigned w128 c.max.result = search rules in
    let n : FitsSigned w128 c.min.result = search rules in
    simp to_z-of_z (narrowed c).fits

pub returns-clause-only : goal.returns-clause-only
returns-clause-only c =
    let m : FitsSigned w128 c.max.result = search rules in
    let n : FitsSigned w128 c.min.result = search rules in
    simp to_z-of_z (narrowed c).only
