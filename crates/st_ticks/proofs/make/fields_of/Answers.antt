use Rattle.std.proofs.Common.{◌≡◌, ◌^◌, ◌++◌, ◌∷◌, [], arith}
use Rattle.st_ticks.specs.declared.field.Field.{Field}
use Rattle.st_ticks.proofs.MakingLaws.{from_at, low_at, moduli_more, offsets_more}
use Rattle.st_ticks.proofs.make.fields_of.Goals as goal

pub number-requires : goal.number-requires
number-requires c = from_at 1 (10 ^ 18) c.args.moduli.now c.loop-i.i c.requires.moduli (omega arith) (omega arith)

pub number-requires-in-loop-i : goal.number-requires-in-loop-i
number-requires-in-loop-i c = from_at 0 (10 ^ 12) c.args.offsets.now c.loop-i.i c.requires.offsets (omega arith) (omega arith)

pub loop-i-preserved : goal.loop-i-preserved
loop-i-preserved c =
    let f : Field = record { modulus = c.number.result; offset = c.number-in-loop-i.result } in
    let bounds = low_at 1 (10 ^ 18) c.number.result c.args.moduli.now c.loop-i.i c.requires.moduli (omega arith) c.number.ensures.value in
    let pushed : c.push.new.self.items ≡ c.loop-i.fields.items ++ f ∷ [] = c.in_ok-push.ensures.items in (
      moduli_more c.args.moduli.now c.loop-i.fields.items c.push.new.self.items c.loop-i.i f (omega arith) c.loop-i.invariant.0 pushed c.number.ensures.value bounds.0 bounds.1,
      offsets_more c.args.offsets.now c.loop-i.fields.items c.push.new.self.items c.loop-i.i f (omega arith) c.loop-i.invariant.1 pushed c.number-in-loop-i.ensures.value,
    )
