use Rattle.std.proofs.Common.{◌≡◌, ℕ, ◌+◌, ◌-◌, ◌*◌, ◌/◌, ◌<◌, ◌≤◌, List, [], ◌∷◌, length, drop, get_or, refl, ap, ◌∙◌, arith}
use Rattle.st_ticks.specs.Face.{span, span_of_rest}
use Rattle.st_ticks.specs.declared.field.Field.{Field}
use Rattle.st_ticks.proofs.CountLaws.{turn, part_small, count_of-step, count_of-end, no_field}
use Rattle.st_ticks.proofs.count.count_of.Goals as goal

-- the product of all moduli
spans_all : (fs : List Field) (t m : ℕ) → 1 ≤ length fs → t ≡ span_of_rest fs → m ≡ (get_or fs 0 no_field).modulus → t * m ≡ span fs
spans_all [] t m h e f = absurd (omega arith)
spans_all (f ∷ fs) t m h e g = rw (e, g) (omega arith)

pub loop-i-init : goal.loop-i-init
loop-i-init c = record {
  counted = omega arith;
  spans = spans_all c.args.fields.now c.from.result c.from-2.result c.requires.some (c.from.ensures ∙ c.requires.tpm) c.from-2.ensures;
  small = omega arith;
}

pub overflow_sub-value : goal.overflow_sub-value
overflow_sub-value c =
    let t = turn c.args.fields.now c.args.values.now c.loop-i.i c.loop-i.span c.args.ticks_per_count c.requires.fields c.requires.from_offsets c.requires.small (omega arith) (omega arith) c.loop-i.invariant.spans c.requires.tpm c.requires.tpm_small in
    t.offset

-- the part that one turn adds
part : (d v o q s m n : ℕ) → d ≡ v - o → q ≡ m → s / m ≡ n → d * (s / q) ≡ (v - o) * n
part d v o q s m n e f g = rw (e, f, g) refl

pub overflow_mul-count : goal.overflow_mul-count
overflow_mul-count c =
    let fs = c.args.fields.now in
    let i = c.loop-i.i in
    let t = turn fs c.args.values.now i c.loop-i.span c.args.ticks_per_count c.requires.fields c.requires.from_offsets c.requires.small (omega arith) (omega arith) c.loop-i.invariant.spans c.requires.tpm c.requires.tpm_small in
    let f = get_or fs i no_field in
    let v = get_or c.args.values.now i 0 in
    let same = part c.from-in-loop-i.result v f.offset c.from-span.result c.loop-i.span f.modulus (span (drop (i + 1) fs)) c.from-in-loop-i.ensures c.from-span.ensures t.next in
    omega (arith, same, part_small v f.offset (span (drop (i + 1) fs)) t.value t.small)

pub overflow_add-count : goal.overflow_add-count
overflow_add-count c =
    let fs = c.args.fields.now in
    let i = c.loop-i.i in
    let t = turn fs c.args.values.now i c.loop-i.span c.args.ticks_per_count c.requires.fields c.requires.from_offsets c.requires.small (omega arith) (omega arith) c.loop-i.invariant.spans c.requires.tpm c.requires.tpm_small in
    let f = get_or fs i no_field in
    let v = get_or c.args.values.now i 0 in
    let same = part c.from-in-loop-i.result v f.offset c.from-span.result c.loop-i.span f.modulus (span (drop (i + 1) fs)) c.from-in-loop-i.ensures c.from-span.ensures t.next in
    let few : i < 10 = omega (arith, c.requires.few, c.requires.values) in
    omega (arith, same, few, c.loop-i.invariant.small, part_small v f.offset (span (drop (i + 1) fs)) t.value t.small)

pub loop-i-preserved : goal.loop-i-preserved
loop-i-preserved c =
    let fs = c.args.fields.now in
    let vs = c.args.values.now in
    let i = c.loop-i.i in
    let t = turn fs vs i c.loop-i.span c.args.ticks_per_count c.requires.fields c.requires.from_offsets c.requires.small (omega arith) (omega arith) c.loop-i.invariant.spans c.requires.tpm c.requires.tpm_small in
    let f = get_or fs i no_field in
    let v = get_or vs i 0 in
    let n = span (drop (i + 1) fs) in
    let same = part c.from-in-loop-i.result v f.offset c.from-span.result c.loop-i.span f.modulus n c.from-in-loop-i.ensures c.from-span.ensures t.next in
    let small = part_small v f.offset n t.value t.small in
    let step = count_of-step fs vs i (omega arith) (omega arith) in
    record {
      counted = omega (arith, same, step, c.loop-i.invariant.counted);
      spans = ap (λ (m : ℕ). c.loop-i.span / m) c.from-span.ensures ∙ t.next;
      small = omega (arith, same, small, c.loop-i.invariant.small);
    }

pub returns : goal.returns
returns c = omega (arith, c.loop-i.invariant.counted, count_of-end c.args.fields.now c.args.values.now c.loop-i.i (omega arith))
