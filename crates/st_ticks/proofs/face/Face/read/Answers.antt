use Rattle.std.proofs.Common.{◌≡◌, ℕ, Bool, true, false, None, Option, List, length, sym, ap, ◌∙◌, subst, arith}
use Rattle.st_ticks.specs.Face.{Face, IsFace}
use Rattle.st_ticks.specs.ReadingMachine.{is_numbered}
use Rattle.st_ticks.specs.TextMachine.{parts_of}
use Rattle.st_ticks.specs.WrittenSteps.{HoldsParts}
use Rattle.st_ticks.specs.declared.field.Partition.{Partition}
use Rattle.st_ticks.proofs.FaceLaws.{judged_form, judged_many, judged_unnumbered, judged_good}
use Rattle.st_ticks.proofs.face.Face.read.Goals as goal

pub returns-in_default-clause-value : goal.returns-in_default-clause-value
returns-in_default-clause-value c = let h : parts_of c.args.text.now ≡ None = c.in_default.ensures in sym (judged_form c.args.self.now c.args.text.now h)

pub returns-then-count-most-clause-value : goal.returns-then-count-most-clause-value
returns-then-count-most-clause-value c =
    let h : HoldsParts c.args.text.now c.in-Some.written = c.in-Some.ensures in
    let most : c.len-most.result ≡ length c.args.self.now.fields = omega (arith, c.len-most.ensures, c.self.inside.fields.ok.0, ap (λ (f : Face). length f.fields) c.self.view_is) in
    sym (judged_many c.args.self.now c.args.text.now c.in-Some.written h (omega (arith, most, c.if-count-most.true)))

numbered : (ps qs : List Partition) (o : Option ℕ) (b : Bool) → ps ≡ qs → b ≡ is_numbered ps o → is_numbered qs o ≡ b
numbered ps qs o b e h = ap (λ (xs : List Partition). is_numbered xs o) (sym e) ∙ sym h

pub returns-then-not-is_numbered-clause-value : goal.returns-then-not-is_numbered-clause-value
returns-then-not-is_numbered-clause-value c =
    let h : HoldsParts c.args.text.now c.in-Some.written = c.in-Some.ensures in
    let most : c.len-most.result ≡ length c.args.self.now.fields = omega (arith, c.len-most.ensures, c.self.inside.fields.ok.0, ap (λ (f : Face). length f.fields) c.self.view_is) in
    let e : c.deref.result.now ≡ c.args.self.now.partitions = c.deref.ensures.value ∙ ap (λ (f : Face). f.partitions) c.self.view_is in
    let t = numbered c.deref.result.now c.args.self.now.partitions c.in-Some.written.partition false e c.if-not-is_numbered.ensures in
    sym (judged_unnumbered c.args.self.now c.args.text.now c.in-Some.written h (omega (arith, most, c.if-count-most.false)) t)

pub returns-clause-value : goal.returns-clause-value
returns-clause-value c =
    let h : HoldsParts c.args.text.now c.in-Some.written = c.in-Some.ensures in
    let most : c.len-most.result ≡ length c.args.self.now.fields = omega (arith, c.len-most.ensures, c.self.inside.fields.ok.0, ap (λ (f : Face). length f.fields) c.self.view_is) in
    let e : c.deref.result.now ≡ c.args.self.now.partitions = c.deref.ensures.value ∙ ap (λ (f : Face). f.partitions) c.self.view_is in
    let t = numbered c.deref.result.now c.args.self.now.partitions c.in-Some.written.partition true e c.if-not-is_numbered.ensures in
    let good : IsFace c.args.self.now = subst (λ (f : Face). IsFace f) c.self.view_is c.self.invariant.face_is in
    c.tick_of.ensures
    ∙ sym (judged_good c.args.self.now c.args.text.now c.in-Some.written h (omega (arith, most, c.if-count-most.false)) good.few_fields t)
