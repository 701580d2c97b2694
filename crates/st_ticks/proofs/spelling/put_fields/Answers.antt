use Rattle.std.proofs.Common.{◌-◌, ◌≤◌, List, [], ◌∷◌, length, drop, arith}
use Rattle.std.specs.List.{All}
use Rattle.std.proofs.lemmas.List.Elements.{All-take, All-drop}
use Rattle.st_ticks.specs.Face.{IsField, span_of_rest}
use Rattle.st_ticks.specs.declared.field.Field.{Field}
use Rattle.st_ticks.proofs.FieldLaws.{span_some, fields_there}
use Rattle.st_ticks.proofs.spelling.put_fields.Goals as goal

rest_some : (fs : List Field) → All IsField fs → 1 ≤ span_of_rest fs
rest_some [] h = omega arith
rest_some (f ∷ fs) h = span_some fs (fields_there f fs h)

pub nonzero_div-value : goal.nonzero_div-value
nonzero_div-value c = omega (arith, c.requires.tpm, rest_some c.args.fields.now c.requires.fields)

pub nonzero_rem-count : goal.nonzero_rem-count
nonzero_rem-count c = omega (arith, c.requires.tpm, rest_some c.args.fields.now c.requires.fields)

pub put_more_fields-requires-clause-fields : goal.put_more_fields-requires-clause-fields
put_more_fields-requires-clause-fields c =
    All-take IsField (length c.args.fields.now - 1) (drop 1 c.args.fields.now) (All-drop IsField 1 c.args.fields.now c.requires.fields)
