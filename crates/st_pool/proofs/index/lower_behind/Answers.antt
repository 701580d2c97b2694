use Rattle.std.proofs.Common.{◌∙◌, ap, set}
use Rattle.std.proofs.lemmas.List.Edits.{map_over_more}
use Rattle.st_pool.specs.declared.place.Place.{Place}
use Rattle.st_pool.specs.IndexMachine.{lowered}
use Rattle.st_pool.proofs.IndexLaws.{get_or-own}
use Rattle.st_pool.proofs.index.lower_behind.Goals as goal

pub loop-place-preserved : goal.loop-place-preserved
loop-place-preserved c =
    ap (λ (p : Place). set c.loop-place.places c.loop-place.place-index p) c.lowered.ensures
    ∙ map_over_more (lowered c.args.kernel) c.args.places.now c.loop-place.places c.loop-place.place-index _ c.loop-place-test.true c.loop-place.invariant
    (get_or-own c.loop-place.places c.loop-place.place-index (record { kernel = 0; assignment = 0 }))
