use Rattle.std.proofs.Common.{◌≡◌, ◌++◌, ◌^◌, ◌≤◌, drop}
use Rattle.st_ticks.specs.Face.{span}
use Rattle.st_ticks.specs.SpellingMachine.{more_text}
use Rattle.st_ticks.proofs.spelling.put_more_fields.Given as goal

abbrev pub invariant-loop-field : goal.invariant-loop-field
invariant-loop-field l = record {
  written : l.out.items ++ more_text l.delimiter (drop l.field-index l.fields) l.rest ≡ l.fn.out.items ++ more_text l.delimiter l.fields l.count;
  spans_are : l.span ≡ span (drop l.field-index l.fields);
  small : l.rest ≤ 10 ^ 18;
}
