use Rattle.std.proofs.Common.{arith, ◌<◌, inl, inr, refl}
use Rattle.st_text.proofs.Padded.{padded_more, room_more, digit_begun, zero_room, begun, kept_before, digits_at_most}
use Rattle.st_text.proofs.spelling.write_padded.Goals as goal
use Rattle.st_text.proofs.spelling.write_padded.Goals.{then-short-gt0, else-short-gt0+then-end-at}

pub loop-rest-init : goal.loop-rest-init
loop-rest-init c = record {
  written = begun c.args.width c.args.number c.args.end c.args.buffer.now;
  kept = refl;
  before = omega arith;
  room = omega (arith, digits_at_most c.args.number (omega arith));
}

pub overflow_sub-at : goal.overflow_sub-at
overflow_sub-at c = omega (arith, digit_begun c.loop-rest.rest (omega arith))

pub loop-rest-smaller : goal.loop-rest-smaller
loop-rest-smaller c = omega (arith, digit_begun c.loop-rest.rest (omega arith))

pub loop-rest-preserved : goal.loop-rest-preserved
loop-rest-preserved c =
    let some : 0 < c.loop-rest.at = omega (arith, digit_begun c.loop-rest.rest (omega arith)) in
    record {
      written = padded_more c.args.width c.args.end c.loop-rest.at c.loop-rest.rest c.loop-rest.buffer _ some (omega arith) (omega arith) (inl (omega arith)) c.loop-rest.invariant.written;
      kept = kept_before c.loop-rest.buffer c.args.buffer.now c.loop-rest.at _ c.loop-rest.invariant.kept;
      before = omega arith;
      room = room_more c.args.end c.loop-rest.at c.loop-rest.rest (omega arith) some (omega arith) (omega arith);
    }

pub overflow_sub-at-in-loop-short : goal.overflow_sub-at-in-loop-short
overflow_sub-at-in-loop-short c =
    elim c.if-short-gt0.branch [
      | then-short-gt0 w ↦ omega (arith, digit_begun c.loop-short.short (omega arith))
      | else-short-gt0+then-end-at w ↦ omega arith
    ]

pub loop-short-smaller : goal.loop-short-smaller
loop-short-smaller c =
    elim c.if-short-gt0.branch [
      | then-short-gt0 w ↦ omega (arith, digit_begun c.loop-short.short (omega arith))
      | else-short-gt0+then-end-at w ↦ omega arith
    ]

pub loop-short-preserved : goal.loop-short-preserved
loop-short-preserved c =
    elim c.if-short-gt0.branch [
      | then-short-gt0 w ↦
          let some : 0 < c.loop-short.at = omega (arith, digit_begun c.loop-short.short (omega arith)) in
          record {
            written = padded_more c.args.width c.args.end c.loop-short.at c.loop-short.short c.loop-short.buffer _ some (omega arith) (omega arith) (inl (omega arith)) c.loop-short.invariant.written;
            kept = kept_before c.loop-short.buffer c.args.buffer.now c.loop-short.at _ c.loop-short.invariant.kept;
            before = omega arith;
            room = room_more c.args.end c.loop-short.at c.loop-short.short (omega arith) some (omega arith) (omega arith);
          }
      | else-short-gt0+then-end-at w ↦
          let some : 0 < c.loop-short.at = omega arith in
          record {
            written = padded_more c.args.width c.args.end c.loop-short.at c.loop-short.short c.loop-short.buffer _ some (omega arith) (omega arith) (inr (omega arith)) c.loop-short.invariant.written;
            kept = kept_before c.loop-short.buffer c.args.buffer.now c.loop-short.at _ c.loop-short.invariant.kept;
            before = omega arith;
            room = zero_room c.args.end c.loop-short.at c.loop-short.short c.args.width (omega arith) some (omega arith) (omega arith) (omega arith);
          }
    ]
