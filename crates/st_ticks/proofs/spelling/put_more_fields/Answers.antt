use Rattle.std.proofs.Common.{◌≡◌, ℕ, ◌+◌, ◌/◌, ◌%◌, ◌<◌, List, [], ◌∷◌, ◌++◌, length, drop, get_or, sym, ap, ◌∙◌, arith, append_assoc}
use Rattle.std.specs.List.{All}
use Rattle.std.proofs.Math.Nat.{mod-le}
use Rattle.std.proofs.lemmas.List.{append-nil, drop_all}
use Rattle.std.proofs.lemmas.List.Elements.{All-get_or, All-drop}
use Rattle.st_text.specs.Bytes.{padded}
use Rattle.st_ticks.specs.Face.{IsField, span}
use Rattle.st_ticks.specs.SpellingMachine.{field_text, more_text}
use Rattle.st_ticks.specs.Tick.{width}
use Rattle.st_ticks.specs.declared.field.Field.{Field}
use Rattle.st_ticks.proofs.CountLaws.{no_field, divided, span-step}
use Rattle.st_ticks.proofs.FieldLaws.{span_some}
use Rattle.st_ticks.proofs.SpellingLaws.{more_text-step, more_text-none}
use Rattle.st_ticks.proofs.spelling.put_more_fields.Goals as goal

-- what the fields to the right span
next_span : (fs : List Field) (i s : ℕ) → All IsField fs → i < length fs → s ≡ span (drop i fs) → s / (get_or fs i no_field).modulus ≡ span (drop (i + 1) fs)
next_span fs i s h l e =
    divided s (get_or fs i no_field).modulus (span (drop (i + 1) fs)) (All-get_or IsField fs i no_field l h).some (e ∙ span-step fs i l)

some_span : (fs : List Field) (i s : ℕ) → All IsField fs → i < length fs → s ≡ span (drop i fs) → 0 < s / (get_or fs i no_field).modulus
some_span fs i s h l e = omega (arith, next_span fs i s h l e, span_some (drop (i + 1) fs) (All-drop IsField (i + 1) fs h))

pub nonzero_div-value : goal.nonzero_div-value
nonzero_div-value c = some_span c.args.fields.now c.loop-field.field-index c.loop-field.span c.requires.fields (omega arith) c.loop-field.invariant.spans_are

pub nonzero_rem-rest : goal.nonzero_rem-rest
nonzero_rem-rest c = some_span c.args.fields.now c.loop-field.field-index c.loop-field.span c.requires.fields (omega arith) c.loop-field.invariant.spans_are

-- one field more
written : (out wanted pushed put : List ℕ) (d i n s w v : ℕ) (fs : List Field) → i < length fs → s ≡ span (drop (i + 1) fs)
    → out ++ more_text d (drop i fs) n ≡ wanted → pushed ≡ out ++ d ∷ [] → put ≡ pushed ++ padded w v → w ≡ width (get_or fs i no_field)
    → v ≡ (get_or fs i no_field).offset + n / s → put ++ more_text d (drop (i + 1) fs) (n % s) ≡ wanted
written out wanted pushed put d i n s w v fs l e f p q r t =
    let g : Field = get_or fs i no_field in
    let gs : List Field = drop (i + 1) fs in
    let here : padded w v ≡ field_text g gs n = ap (λ (k : ℕ). padded k v) r ∙ ap (λ (k : ℕ). padded (width g) k) (t ∙ ap (λ (k : ℕ). g.offset + n / k) e) in
    let rest : more_text d gs (n % s) ≡ more_text d gs (n % span gs) = ap (λ (k : ℕ). more_text d gs (n % k)) e in
    let front : put ≡ out ++ (d ∷ field_text g gs n) =
    q ∙ ap (λ (x : List ℕ). x ++ padded w v) p ∙ ap (λ (x : List ℕ). (out ++ d ∷ []) ++ x) here ∙ append_assoc out (d ∷ []) (field_text g gs n) in
    ap (λ (x : List ℕ). x ++ more_text d gs (n % s)) front
    ∙ ap (λ (x : List ℕ). (out ++ (d ∷ field_text g gs n)) ++ x) rest
    ∙ append_assoc out (d ∷ field_text g gs n) (more_text d gs (n % span gs))
    ∙ ap (λ (x : List ℕ). out ++ x) (sym (more_text-step d fs i n l))
    ∙ f

pub loop-field-preserved : goal.loop-field-preserved
loop-field-preserved c =
    let fs = c.args.fields.now in
    let i = c.loop-field.field-index in
    let s = c.loop-field.span / (get_or fs i no_field).modulus in
    let next = next_span fs i c.loop-field.span c.requires.fields (omega arith) c.loop-field.invariant.spans_are in
    let pushed : c.push.new.self.items ≡ c.loop-field.out.items ++ c.args.delimiter ∷ [] = c.in_ok-push.ensures.items in
    let put : c.put_padded.new.out.items ≡ c.push.new.self.items ++ padded c.width.result c.from.result = c.in_ok-put_padded.ensures.ok in
    record {
      written =
          written c.loop-field.out.items (c.args.out.now.items ++ more_text c.args.delimiter fs c.args.count) c.push.new.self.items c.put_padded.new.out.items
          c.args.delimiter i c.loop-field.rest s c.width.result c.from.result fs (omega arith) next c.loop-field.invariant.written pushed put
          c.width.ensures.value c.from.ensures;
      spans_are = next;
      small = omega (arith, mod-le c.loop-field.rest s, c.loop-field.invariant.small);
    }

pub returns : goal.returns
returns c =
    let fs = c.args.fields.now in
    let none : more_text c.args.delimiter (drop c.loop-field.field-index fs) c.loop-field.rest ≡ [] =
    ap (λ (xs : List Field). more_text c.args.delimiter xs c.loop-field.rest) (drop_all c.loop-field.field-index fs (omega arith)) ∙ more_text-none c.args.delimiter c.loop-field.rest in
    sym (append-nil c.loop-field.out.items) ∙ ap (λ (xs : List ℕ). c.loop-field.out.items ++ xs) (sym none) ∙ c.loop-field.invariant.written
