use Rattle.std.proofs.Common.{◌≡◌, ◌-◌, ◌+◌, ◌<◌, ◌≤◌, ℕ, Fits, w64, List, length, take, drop, get_or, refl, sym, subst, arith, rules, length-drop}
use Rattle.std.specs.Int.{w128}
use Rattle.std.specs.Int.RustNames.{FitsSigned}
use Rattle.std.proofs.lemmas.Int.{ints, to_z-of_z}
use Rattle.std.proofs.lemmas.List.{length-take, drop-drop}
use Rattle.st_fit.specs.declared.starts.Start.{Start}
use Rattle.st_fit.specs.declared.pair.Pair.{Pair}
use Rattle.st_fit.specs.Fit.{IsRate}
use Rattle.st_fit.proofs.Records.{rising_part, small_part, start_from, first_run, completes_none, completes_more, completes_all}
use Rattle.st_fit.proofs.fitting.records_of.Goals as goal

pub overflow_add-from : goal.overflow_add-from
overflow_add-from c =
    let none : Start = record { runs = 0; first = 0 } in
    let h = start_from c.args.terms c.args.pairs.now c.args.starts.now c.loop-from.from none c.requires.count c.loop-from.invariant.within c.requires.each in
    let r = first_run c.args.terms (drop c.loop-from.from c.args.pairs.now) _ (omega (arith, length-drop c.loop-from.from c.args.pairs.now)) h in
    let w = r.within in
    let l : Fits w64 (length c.args.pairs.now) = search rules in
    omega (arith, ints, l, length-drop c.loop-from.from c.args.pairs.now)

pub slice_bounds-record_of-end : goal.slice_bounds-record_of-end
slice_bounds-record_of-end c =
    let none : Start = record { runs = 0; first = 0 } in
    let h = start_from c.args.terms c.args.pairs.now c.args.starts.now c.loop-from.from none c.requires.count c.loop-from.invariant.within c.requires.each in
    let r = first_run c.args.terms (drop c.loop-from.from c.args.pairs.now) _ (omega (arith, length-drop c.loop-from.from c.args.pairs.now)) h in
    let w = r.within in
    let l : c.loop-from.from + (get_or c.args.starts.now (length c.args.pairs.now - c.loop-from.from) none).first ≤ length c.args.pairs.now =
    omega (arith, length-drop c.loop-from.from c.args.pairs.now) in
    search rules

pub record_of-r-requires-clause-rising : goal.record_of-r-requires-clause-rising
record_of-r-requires-clause-rising c = rising_part c.args.pairs.now c.loop-from.from _ c.requires.rising

pub record_of-r-requires-clause-small : goal.record_of-r-requires-clause-small
record_of-r-requires-clause-small c = small_part c.args.pairs.now c.loop-from.from _ c.requires.small

pub record_of-r-requires-clause-some : goal.record_of-r-requires-clause-some
record_of-r-requires-clause-some c =
    let none : Start = record { runs = 0; first = 0 } in
    let h = start_from c.args.terms c.args.pairs.now c.args.starts.now c.loop-from.from none c.requires.count c.loop-from.invariant.within c.requires.each in
    let r = first_run c.args.terms (drop c.loop-from.from c.args.pairs.now) _ (omega (arith, length-drop c.loop-from.from c.args.pairs.now)) h in
    let w = r.within in
    let s = r.some in
    simp (length-take, length-drop) (omega (arith, length-drop c.loop-from.from c.args.pairs.now))

pub record_of-r-requires-clause-fits : goal.record_of-r-requires-clause-fits
record_of-r-requires-clause-fits c =
    let none : Start = record { runs = 0; first = 0 } in
    let first = (get_or c.args.starts.now (length c.args.pairs.now - c.loop-from.from) none).first in
    let h = start_from c.args.terms c.args.pairs.now c.args.starts.now c.loop-from.from none c.requires.count c.loop-from.invariant.within c.requires.each in
    let r = first_run c.args.terms (drop c.loop-from.from c.args.pairs.now) _ (omega (arith, length-drop c.loop-from.from c.args.pairs.now)) h in
    let e : first ≡ c.loop-from.from + first - c.loop-from.from = omega arith in
    let P : ℕ → Type 0 = λ n. IsRate c.args.terms (take n (drop c.loop-from.from c.args.pairs.now)) r.rate in
    (r.rate, subst P e r.fits)

pub loop-from-init : goal.loop-from-init
loop-from-init c = record { within = omega arith; completes = rw c.new-records.ensures.items (completes_none c.args.terms c.args.pairs.now _ refl) }

pub loop-from-preserved : goal.loop-from-preserved
loop-from-preserved c =
    let none : Start = record { runs = 0; first = 0 } in
    let ps : List Pair = drop c.loop-from.from c.args.pairs.now in
    let s : Start = get_or c.args.starts.now (length c.args.pairs.now - c.loop-from.from) none in
    let h = start_from c.args.terms c.args.pairs.now c.args.starts.now c.loop-from.from none c.requires.count c.loop-from.invariant.within c.requires.each in
    let some : 0 < length ps = omega (arith, length-drop c.loop-from.from c.args.pairs.now) in
    let r = first_run c.args.terms ps s some h in
    let w = r.within in
    let e : c.loop-from.from + s.first - c.loop-from.from ≡ s.first = omega arith in
    let f : FitsSigned w128 c.record_of-r.result.rate = search rules in
    let m = completes_more c.args.terms c.args.pairs.now ps s _ c.loop-from.records.items c.record_of-r.result _ some h e c.record_of-r.ensures c.loop-from.invariant.completes in
    record {
      within = omega (arith, length-drop c.loop-from.from c.args.pairs.now);
      completes = rw (c.in_ok-push.ensures.items, sym (drop-drop s.first c.loop-from.from c.args.pairs.now)) (simp to_z-of_z m);
    }

pub returns : goal.returns
returns c = completes_all c.args.terms c.args.pairs.now c.loop-from.from _ c.loop-from.records.items (omega arith) c.loop-from.invariant.completes
