use Rattle.st_ticks.proofs.FieldLaws.{fields_carry, fields_are_found, fields_are_one}
use Rattle.st_ticks.proofs.laws.fields.Goals as goal

pub returns : goal.returns
returns c = record { carry = fields_carry; found = fields_are_found; one = fields_are_one }
