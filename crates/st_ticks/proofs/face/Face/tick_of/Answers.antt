use Rattle.std.proofs.Common.{◌≡◌, ℕ, Bool, true, false, List, sym, ap, ◌∙◌, arith}
use Rattle.st_ticks.specs.Face.{Face}
use Rattle.st_ticks.specs.Reading.{count_of}
use Rattle.st_ticks.specs.ReadingMachine.{from_offsets, meant_place, ticked}
use Rattle.st_ticks.specs.declared.field.Field.{Field}
use Rattle.st_ticks.proofs.FaceLaws.{counted_below, counted_large, counted_over, counted_good}
use Rattle.st_ticks.proofs.face.Face.tick_of.Goals as goal

-- the same test of a face's fields
tested : (fs gs : List Field) (vs : List ℕ) (b : Bool) → fs ≡ gs → b ≡ from_offsets fs vs → from_offsets gs vs ≡ b
tested fs gs vs b e h = ap (λ (xs : List Field). from_offsets xs vs) (sym e) ∙ sym h

pub returns-then-not-are_from_offsets : goal.returns-then-not-are_from_offsets
returns-then-not-are_from_offsets c =
    let e : c.deref.result.now ≡ c.args.self.now.fields = c.deref.ensures.value ∙ ap (λ (f : Face). f.fields) c.self.view_is in
    let t = tested c.deref.result.now c.args.self.now.fields c.args.values.now false e c.if-not-are_from_offsets.ensures in
    sym (counted_below c.args.self.now c.args.partition c.args.values.now t)

pub returns-then-not-are_small : goal.returns-then-not-are_small
returns-then-not-are_small c =
    let e : c.deref.result.now ≡ c.args.self.now.fields = c.deref.ensures.value ∙ ap (λ (f : Face). f.fields) c.self.view_is in
    let t = tested c.deref.result.now c.args.self.now.fields c.args.values.now true e c.if-not-are_from_offsets.ensures in
    sym (counted_large c.args.self.now c.args.partition c.args.values.now t (sym c.if-not-are_small.ensures))

pub returns-then-count-gt-MOST_COUNT : goal.returns-then-count-gt-MOST_COUNT
returns-then-count-gt-MOST_COUNT c =
    let e : c.deref.result.now ≡ c.args.self.now.fields = c.deref.ensures.value ∙ ap (λ (f : Face). f.fields) c.self.view_is in
    let t = tested c.deref.result.now c.args.self.now.fields c.args.values.now true e c.if-not-are_from_offsets.ensures in
    let f : c.deref-2.result.now ≡ c.args.self.now.fields = c.deref-2.ensures.value ∙ ap (λ (f : Face). f.fields) c.self.view_is in
    let n : c.count_of-count.result ≡ count_of c.args.self.now.fields c.args.values.now =
    c.count_of-count.ensures ∙ ap (λ (xs : List Field). count_of xs c.args.values.now) f in
    sym (counted_over c.args.self.now c.args.partition c.args.values.now t (sym c.if-not-are_small.ensures) (omega (arith, n, c.if-count-gt-MOST_COUNT.true)))

pub returns : goal.returns
returns c =
    let e : c.deref.result.now ≡ c.args.self.now.fields = c.deref.ensures.value ∙ ap (λ (f : Face). f.fields) c.self.view_is in
    let t = tested c.deref.result.now c.args.self.now.fields c.args.values.now true e c.if-not-are_from_offsets.ensures in
    let f : c.deref-2.result.now ≡ c.args.self.now.fields = c.deref-2.ensures.value ∙ ap (λ (f : Face). f.fields) c.self.view_is in
    let n : c.count_of-count.result ≡ count_of c.args.self.now.fields c.args.values.now =
    c.count_of-count.ensures ∙ ap (λ (xs : List Field). count_of xs c.args.values.now) f in
    let face = c.args.self.now in
    c.tick_at.ensures
    ∙ ap (λ (k : ℕ). ticked face k (meant_place face.partitions c.args.partition k)) n
    ∙ sym (counted_good face c.args.partition c.args.values.now t (sym c.if-not-are_small.ensures) (omega (arith, n, c.if-count-gt-MOST_COUNT.false)))
