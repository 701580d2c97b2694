use Rattle.std.proofs.Common.{ℕ, List, sym, subst}
use Rattle.std.specs.List.Sorted.{IsNonDecreasingBy}
use Rattle.st_ticks.specs.Face.{Face, IsFace}
use Rattle.st_ticks.specs.FaceSteps.{seen}
use Rattle.st_ticks.proofs.FaceLaws.{begins_rise, begins_of, place_found}
use Rattle.st_ticks.proofs.face.Face.place_of.Goals as goal

pub begun-requires : goal.begun-requires
begun-requires c =
    let g : Face = seen c.self.inside.fields.items c.self.inside.delimiter c.self.inside.partitions.items in
    let rise = begins_rise g c.self.inside.begins.items c.self.invariant.begins_are in
    record { rising = subst (λ (xs : List ℕ). IsNonDecreasingBy (λ (begin : ℕ). begin) xs) (sym c.deref.ensures.value) rise }

pub returns-clause-value : goal.returns-clause-value
returns-clause-value c =
    let g : Face = seen c.self.inside.fields.items c.self.inside.delimiter c.self.inside.partitions.items in
    let begins = begins_of g c.args.self.now c.self.inside.begins.items c.deref.result.now c.self.invariant.begins_are c.self.view_is c.deref.ensures.value in
    let good : IsFace c.args.self.now = subst (λ (f : Face). IsFace f) c.self.view_is c.self.invariant.face_is in
    place_found c.args.self.now c.deref.result.now c.args.ticks c.begun.result begins good.some_partitions c.begun.ensures.bound c.begun.ensures.before c.begun.ensures.after
