use Rattle.std.proofs.Common.{◌≡◌, ◌+◌, ◌-◌, ◌^◌, ◌≤◌, List, length, get_or, sym, ap, ◌∙◌, subst, arith}
use Rattle.st_ticks.specs.Face.{Face, IsFace}
use Rattle.st_ticks.specs.FaceSteps.{seen}
use Rattle.st_ticks.specs.ReadingMachine.{partition_at}
use Rattle.st_ticks.specs.declared.field.Partition.{Partition}
use Rattle.st_ticks.proofs.FaceLaws.{begins_of, placed, count_same}
use Rattle.st_ticks.proofs.face.Face.count_of.Goals as goal

pub count_at-requires-clause-here : goal.count_at-requires-clause-here
count_at-requires-clause-here c =
    let g : Face = seen c.self.inside.fields.items c.self.inside.delimiter c.self.inside.partitions.items in
    let begins = begins_of g c.args.self.now c.self.inside.begins.items c.deref-2.result.now c.self.invariant.begins_are c.self.view_is c.deref-2.ensures.value in
    let good : IsFace c.args.self.now = subst (λ (f : Face). IsFace f) c.self.view_is c.self.invariant.face_is in
    let p = placed c.args.self.now c.deref-2.result.now c.args.ticks c.args.place good begins c.requires.place c.requires.within in
    let e : c.deref.result.now ≡ c.args.self.now.partitions = c.deref.ensures.value ∙ ap (λ (f : Face). f.partitions) c.self.view_is in
    omega (arith, p.here, ap (λ (xs : List Partition). length xs) e)

pub count_at-requires-clause-begins : goal.count_at-requires-clause-begins
count_at-requires-clause-begins c =
    let g : Face = seen c.self.inside.fields.items c.self.inside.delimiter c.self.inside.partitions.items in
    let begins = begins_of g c.args.self.now c.self.inside.begins.items c.deref-2.result.now c.self.invariant.begins_are c.self.view_is c.deref-2.ensures.value in
    let good : IsFace c.args.self.now = subst (λ (f : Face). IsFace f) c.self.view_is c.self.invariant.face_is in
    let p = placed c.args.self.now c.deref-2.result.now c.args.ticks c.args.place good begins c.requires.place c.requires.within in
    let e : c.deref.result.now ≡ c.args.self.now.partitions = c.deref.ensures.value ∙ ap (λ (f : Face). f.partitions) c.self.view_is in
    p.many

pub count_at-requires-clause-begun : goal.count_at-requires-clause-begun
count_at-requires-clause-begun c =
    let g : Face = seen c.self.inside.fields.items c.self.inside.delimiter c.self.inside.partitions.items in
    let begins = begins_of g c.args.self.now c.self.inside.begins.items c.deref-2.result.now c.self.invariant.begins_are c.self.view_is c.deref-2.ensures.value in
    let good : IsFace c.args.self.now = subst (λ (f : Face). IsFace f) c.self.view_is c.self.invariant.face_is in
    let p = placed c.args.self.now c.deref-2.result.now c.args.ticks c.args.place good begins c.requires.place c.requires.within in
    let e : c.deref.result.now ≡ c.args.self.now.partitions = c.deref.ensures.value ∙ ap (λ (f : Face). f.partitions) c.self.view_is in
    p.begun

pub count_at-requires-clause-small : goal.count_at-requires-clause-small
count_at-requires-clause-small c =
    let g : Face = seen c.self.inside.fields.items c.self.inside.delimiter c.self.inside.partitions.items in
    let begins = begins_of g c.args.self.now c.self.inside.begins.items c.deref-2.result.now c.self.invariant.begins_are c.self.view_is c.deref-2.ensures.value in
    let good : IsFace c.args.self.now = subst (λ (f : Face). IsFace f) c.self.view_is c.self.invariant.face_is in
    let p = placed c.args.self.now c.deref-2.result.now c.args.ticks c.args.place good begins c.requires.place c.requires.within in
    let e : c.deref.result.now ≡ c.args.self.now.partitions = c.deref.ensures.value ∙ ap (λ (f : Face). f.partitions) c.self.view_is in
    subst (λ (xs : List Partition). (partition_at xs c.args.place).start + (c.args.ticks - get_or c.deref-2.result.now c.args.place 0) ≤ 10 ^ 18) (sym e) p.small

pub returns-clause-value : goal.returns-clause-value
returns-clause-value c =
    let g : Face = seen c.self.inside.fields.items c.self.inside.delimiter c.self.inside.partitions.items in
    let begins = begins_of g c.args.self.now c.self.inside.begins.items c.deref-2.result.now c.self.invariant.begins_are c.self.view_is c.deref-2.ensures.value in
    let good : IsFace c.args.self.now = subst (λ (f : Face). IsFace f) c.self.view_is c.self.invariant.face_is in
    let p = placed c.args.self.now c.deref-2.result.now c.args.ticks c.args.place good begins c.requires.place c.requires.within in
    let e : c.deref.result.now ≡ c.args.self.now.partitions = c.deref.ensures.value ∙ ap (λ (f : Face). f.partitions) c.self.view_is in
    c.count_at.ensures ∙ ap (λ (xs : List Partition). (partition_at xs c.args.place).start + (c.args.ticks - get_or c.deref-2.result.now c.args.place 0)) e ∙ count_same c.args.self.now c.deref-2.result.now c.args.ticks c.args.place p c.requires.place

pub returns-clause-small : goal.returns-clause-small
returns-clause-small c =
    let g : Face = seen c.self.inside.fields.items c.self.inside.delimiter c.self.inside.partitions.items in
    let begins = begins_of g c.args.self.now c.self.inside.begins.items c.deref-2.result.now c.self.invariant.begins_are c.self.view_is c.deref-2.ensures.value in
    let good : IsFace c.args.self.now = subst (λ (f : Face). IsFace f) c.self.view_is c.self.invariant.face_is in
    let p = placed c.args.self.now c.deref-2.result.now c.args.ticks c.args.place good begins c.requires.place c.requires.within in
    let e : c.deref.result.now ≡ c.args.self.now.partitions = c.deref.ensures.value ∙ ap (λ (f : Face). f.partitions) c.self.view_is in
    omega (arith, c.count_at.ensures, ap (λ (xs : List Partition). (partition_at xs c.args.place).start + (c.args.ticks - get_or c.deref-2.result.now c.args.place 0)) e, p.small)
