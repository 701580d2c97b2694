use Rattle.std.proofs.Common.{◌≡◌, ℕ, ◌+◌, ◌++◌, ◌∷◌, [], List, ap, ◌∙◌, arith}
use Rattle.st_text.specs.Bytes.{decimal_digits}
use Rattle.st_ticks.specs.Face.{Face}
use Rattle.st_ticks.specs.SpellingMachine.{fields_text}
use Rattle.st_ticks.specs.declared.field.Field.{Field}
use Rattle.st_ticks.proofs.FaceLaws.{text_is}
use Rattle.st_ticks.proofs.face.Face.spell.Goals as goal

pub returns : goal.returns
returns c =
    let face = c.args.self.now in
    let fields : c.deref.result.now ≡ face.fields = c.deref.ensures.value ∙ ap (λ (f : Face). f.fields) c.self.view_is in
    let delimiter : c.self.inside.delimiter ≡ face.delimiter = ap (λ (f : Face). f.delimiter) c.self.view_is in
    let number : c.put_padded.new.out.items ≡ c.in_ok-text.text.items ++ decimal_digits (c.args.place + 1) = c.in_ok-put_padded.ensures.ok in
    let slash : c.push.new.self.items ≡ c.put_padded.new.out.items ++ 47 ∷ [] = c.in_ok-push.ensures.items in
    let all : c.put_fields.new.out.items ≡ c.push.new.self.items ++ fields_text c.self.inside.delimiter c.deref.result.now c.args.count = c.in_ok-put_fields.ensures in
    let same : fields_text c.self.inside.delimiter c.deref.result.now c.args.count ≡ fields_text face.delimiter face.fields c.args.count =
    ap (λ (d : ℕ). fields_text d c.deref.result.now c.args.count) delimiter ∙ ap (λ (fs : List Field). fields_text face.delimiter fs c.args.count) fields in
    c.from_vec.ensures
    ∙ text_is face c.args.place c.args.count c.in_ok-text.text.items c.put_padded.new.out.items c.push.new.self.items c.put_fields.new.out.items
    (c.args.place + 1) (omega arith) c.in_ok-text.ensures.items number slash
    (all ∙ ap (λ (x : List ℕ). c.push.new.self.items ++ x) same)
