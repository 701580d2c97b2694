-- What a clock's face gives the laws of its records.
use Rattle.std.proofs.Common.{ℕ, ◌<◌, ◌≤◌, List, [], ◌∷◌, arith, lit<}
use Rattle.std.specs.List.{All}
use Rattle.st_ticks.specs.declared.field.Field.{Field}
use Rattle.st_ticks.specs.Face.{IsField, span_of_rest}
use Rattle.st_ticks.specs.Tick.{IsStrictlyInside}
use Rattle.st_ticks.proofs.FieldLaws.{span_some, fields_there}
use Rattle.st_ticks.proofs.PartitionLaws.{inside_is_within}
use Rattle.st_clock.specs.Clock.{Clock, tpm, total, IsClock}

rest_some : (fields : List Field) → All IsField fields → 0 < span_of_rest fields
rest_some [] h = lit< tt
rest_some (f ∷ fs) h = let s = span_some fs (fields_there f fs h) in omega (arith, s)

pub tpm_some : (c : Clock) → IsClock c → 0 < tpm c
tpm_some c is = rest_some c.face.fields is.face.fields

pub inside_total : (c : Clock) (k : ℕ) → IsClock c → IsStrictlyInside c.face k → k ≤ total c
inside_total c k is inside = let l = inside_is_within c.face k is.face inside in omega (arith, l)
