use Rattle.std.proofs.Common.{arith, rules}
use Rattle.std.specs.Int.{w128}
use Rattle.std.specs.Int.RustNames.{FitsSigned}
use Rattle.std.proofs.lemmas.Int.{ints, to_z-of_z}
use Rattle.st_fit.proofs.Narrowing.{have_ends, middle_of}
use Rattle.st_fit.proofs.rates.middle_rate.Goals as goal

pub mean-requires : goal.mean-requires
mean-requires c =
    let f : FitsSigned w128 c.rates_of-rates.result.least = search rules in
    let g : FitsSigned w128 c.rates_of-rates.result.greatest = search rules in
    let e = have_ends c.args.terms c.args.run.now c.rates_of-rates.result c.requires.fits.0 c.rates_of-rates.ensures c.requires.fits.1 in
    let a = e.least.from in
    let b = e.least.to in
    let d = e.greatest.from in
    let h = e.greatest.to in
    record { least = omega (arith, ints); least_to = omega (arith, ints); greatest = omega (arith, ints); greatest_to = omega (arith, ints) }

pub returns : goal.returns
returns c =
    let f : FitsSigned w128 c.rates_of-rates.result.least = search rules in
    let g : FitsSigned w128 c.rates_of-rates.result.greatest = search rules in
    let m : FitsSigned w128 c.mean.result = search rules in
    let e = have_ends c.args.terms c.args.run.now c.rates_of-rates.result c.requires.fits.0 c.rates_of-rates.ensures c.requires.fits.1 in
    let h = simp to_z-of_z at c.mean.ensures in
    simp to_z-of_z (middle_of c.args.terms c.args.run.now c.rates_of-rates.result c.mean.result c.rates_of-rates.ensures e h)
