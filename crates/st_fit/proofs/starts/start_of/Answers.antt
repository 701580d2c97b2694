use Rattle.std.proofs.Common.{◌-◌, ◌+◌, ◌≤ℤ◌, Fits, w64, length, take, get_or, refl, sym, ◌∙◌, arith, rules}
use Rattle.std.proofs.lemmas.Int.{ints, by_lt_z}
use Rattle.std.proofs.lemmas.Bool.{false≢true}
use Rattle.std.proofs.lemmas.Option.{slice_get-get_or}
use Rattle.st_fit.specs.declared.starts.Start.{Start}
use Rattle.st_fit.specs.FitSteps.{AreRatesOf}
use Rattle.st_fit.proofs.Runs.{rates_of_one, rates_more, none_longer, run_of_rates}
use Rattle.st_fit.proofs.Starting.{later_at, later_first, runs_few, start_to_one, start_to_next, start_at_end, none_beyond}
use Rattle.st_fit.proofs.starts.start_of.Goals as goal

pub overflow_add-best : goal.overflow_add-best
overflow_add-best c =
    let none : Start = record { runs = 0; first = 0 } in
    let d = later_first c.args.terms c.args.pairs.now c.args.later.now none c.requires.count c.requires.some c.requires.each in
    let f = runs_few c.args.terms c.args.pairs.now 0 _ c.requires.some d in
    let l : Fits w64 (length c.args.pairs.now) = search rules in
    omega (arith, ints, l, f)

pub loop-i-init : goal.loop-i-init
loop-i-init c =
    let none : Start = record { runs = 0; first = 0 } in
    let d = later_first c.args.terms c.args.pairs.now c.args.later.now none c.requires.count c.requires.some c.requires.each in
    record {
      rates = rates_of_one c.args.terms c.args.pairs.now c.all-rates.result c.requires.terms.some c.requires.terms.tolerance_from c.all-rates.ensures.least c.all-rates.ensures.greatest;
      best = start_to_one c.args.terms c.args.pairs.now (get_or c.args.later.now (length c.args.pairs.now - 1) none) _ c.requires.terms.some c.requires.terms.tolerance_from c.requires.some d refl refl;
    }

pub narrowed-rates-requires-clause-later : goal.narrowed-rates-requires-clause-later
narrowed-rates-requires-clause-later c =
    (c.requires.rising 0 c.loop-i.i _ _ (omega arith) (slice_get-get_or c.args.pairs.now 0 _ (omega arith)) (slice_get-get_or c.args.pairs.now c.loop-i.i _ (omega arith))).0

pub overflow_add-later : goal.overflow_add-later
overflow_add-later c =
    let none : Start = record { runs = 0; first = 0 } in
    let d = later_at c.args.terms c.args.pairs.now c.args.later.now c.loop-i.i none c.requires.count (omega arith) c.requires.each in
    let f = runs_few c.args.terms c.args.pairs.now c.loop-i.i _ (omega arith) d in
    let l : Fits w64 (length c.args.pairs.now) = search rules in
    omega (arith, ints, l, f)

pub loop-i-preserved : goal.loop-i-preserved
loop-i-preserved c =
    let none : Start = record { runs = 0; first = 0 } in
    let rates : AreRatesOf c.args.terms (take (c.loop-i.i + 1) c.args.pairs.now) c.narrowed-rates.result =
    rates_more c.args.terms c.args.pairs.now c.loop-i.i _ _ c.loop-i.rates c.narrowed-rates.result (omega arith)
    (slice_get-get_or c.args.pairs.now 0 _ (omega arith)) (slice_get-get_or c.args.pairs.now c.loop-i.i _ (omega arith))
    c.loop-i.invariant.rates (record { fits = c.narrowed-rates.ensures.fits; only = c.narrowed-rates.ensures.only }) in
    let some : c.narrowed-rates.result.least ≤ℤ c.narrowed-rates.result.greatest =
    by_lt_z c.narrowed-rates.result.greatest c.narrowed-rates.result.least (λ l. absurd (false≢true (sym c.if-is_empty.false ∙ c.is_empty.ensures.1 l))) (λ l. l) in
    let run = run_of_rates c.args.terms c.args.pairs.now (c.loop-i.i + 1) c.narrowed-rates.result (omega arith) (omega arith) rates some in
    let d = later_at c.args.terms c.args.pairs.now c.args.later.now c.loop-i.i none c.requires.count (omega arith) c.requires.each in
    record {
      rates = rates;
      best = start_to_next c.args.terms c.args.pairs.now c.loop-i.i c.loop-i.best _ (get_or c.args.later.now (length c.args.pairs.now - 1 - c.loop-i.i) none) c.or-best.result
          c.loop-i.invariant.best run d refl refl c.or-best.ensures.few c.or-best.ensures.many;
    }

pub returns-then-is_empty : goal.returns-then-is_empty
returns-then-is_empty c =
    let rates : AreRatesOf c.args.terms (take (c.loop-i.i + 1) c.args.pairs.now) c.narrowed-rates.result =
    rates_more c.args.terms c.args.pairs.now c.loop-i.i _ _ c.loop-i.rates c.narrowed-rates.result (omega arith)
    (slice_get-get_or c.args.pairs.now 0 _ (omega arith)) (slice_get-get_or c.args.pairs.now c.loop-i.i _ (omega arith))
    c.loop-i.invariant.rates (record { fits = c.narrowed-rates.ensures.fits; only = c.narrowed-rates.ensures.only }) in
    start_at_end c.args.terms c.args.pairs.now c.loop-i.i c.loop-i.best c.loop-i.invariant.best
    (none_longer c.args.terms c.args.pairs.now (c.loop-i.i + 1) c.narrowed-rates.result rates (c.is_empty.ensures.0 c.if-is_empty.true))

pub returns : goal.returns
returns c =
    start_at_end c.args.terms c.args.pairs.now c.loop-i.i c.loop-i.best c.loop-i.invariant.best
    (none_beyond c.args.terms c.args.pairs.now c.loop-i.i (omega arith))
