use Rattle.std.proofs.Common.{◌≡◌, ◌≤◌, ◌+◌, ◌-◌, ◌^◌, min, length, []}
use Rattle.st_outside.specs.States.{KeepsFiles}
use Rattle.st_batch.specs.LinesSteps.{ReadsInput}
use Rattle.st_batch.proofs.input.answer_input.Given as goal

abbrev pub invariant-loop-read : goal.invariant-loop-read
invariant-loop-read g l = record {
  come : ReadsInput (g.I.Source.state l.fn.input).left (g.I.Source.state l.input).left
      (record { files = g.F.Files.state l.fn.files; taken = g.O.Sink.bytes l.fn.out; answering = l.fn.answering })
      (record { files = g.F.Files.state l.files; taken = g.O.Sink.bytes l.out; answering = l.answering })
      l.begun.items l.read;
  gathered : l.answering.gathered.items ≡ [];
  few : l.read ≤ 67108864;
  room : length l.piece ≡ 65536;
  taken : min ((g.I.Source.state l.fn.input).taken + l.read) (2 ^ 64 - 1) ≤ (g.I.Source.state l.input).taken;
  most : (g.I.Source.state l.input).taken ≤ (g.I.Source.state l.fn.input).taken + l.read;
  input : (g.I.Source.state l.fn.input).faults ≤ (g.I.Source.state l.input).faults;
  output : g.O.Sink.faults l.fn.out ≤ g.O.Sink.faults l.out;
  files : KeepsFiles (g.F.Files.state l.fn.files) (g.F.Files.state l.files);
}

abbrev pub decreases-loop-read : goal.decreases-loop-read
decreases-loop-read g l = 67108864 - l.read
