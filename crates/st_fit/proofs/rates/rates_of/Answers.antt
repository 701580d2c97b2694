use Rattle.std.proofs.Common.{◌≡◌, List, take, subst, arith}
use Rattle.std.proofs.lemmas.Option.{slice_get-get_or}
use Rattle.std.proofs.lemmas.List.{take_all}
use Rattle.st_fit.specs.declared.pair.Pair.{Pair}
use Rattle.st_fit.specs.FitSteps.{AreRatesOf}
use Rattle.st_fit.proofs.Runs.{rates_of_one, rates_more}
use Rattle.st_fit.proofs.rates.rates_of.Goals as goal

pub loop-i-init : goal.loop-i-init
loop-i-init c = rates_of_one c.args.terms c.args.run.now c.all-rates.result c.requires.terms.some c.requires.terms.tolerance_from c.all-rates.ensures.least c.all-rates.ensures.greatest

pub narrowed-rates-requires-clause-later : goal.narrowed-rates-requires-clause-later
narrowed-rates-requires-clause-later c =
    (c.requires.rising 0 c.loop-i.i _ _ (omega arith) (slice_get-get_or c.args.run.now 0 _ (omega arith)) (slice_get-get_or c.args.run.now c.loop-i.i _ (omega arith))).0

pub loop-i-preserved : goal.loop-i-preserved
loop-i-preserved c =
    rates_more c.args.terms c.args.run.now c.loop-i.i _ _ c.loop-i.rates c.narrowed-rates.result (omega arith)
    (slice_get-get_or c.args.run.now 0 _ (omega arith)) (slice_get-get_or c.args.run.now c.loop-i.i _ (omega arith))
    c.loop-i.invariant (record { fits = c.narrowed-rates.ensures.fits; only = c.narrowed-rates.ensures.only })

pub returns : goal.returns
returns c =
    let e : take c.loop-i.i c.args.run.now ≡ c.args.run.now = take_all c.loop-i.i c.args.run.now (omega arith) in
    let P : List Pair → Type 0 = λ run. AreRatesOf c.args.terms run c.loop-i.rates in
    subst P e c.loop-i.invariant
