use Rattle.std.proofs.Common.{◌≤◌, length}
use Rattle.st_outside.specs.States.{KeepsFiles}
use Rattle.st_batch.specs.LinesSteps.{ReadsPart}
use Rattle.st_batch.proofs.input.answer_piece.Given as goal

abbrev pub invariant-loop-end : goal.invariant-loop-end
invariant-loop-end g l = record {
  part : ReadsPart (record { files = g.F.Files.state l.fn.files; taken = g.O.Sink.bytes l.fn.out; answering = l.fn.answering })
      (record { files = g.F.Files.state l.files; taken = g.O.Sink.bytes l.out; answering = l.answering })
      l.fn.begun.items l.fn.piece l.rest l.begun.items;
  output : g.O.Sink.faults l.fn.out ≤ g.O.Sink.faults l.out;
  files : KeepsFiles (g.F.Files.state l.fn.files) (g.F.Files.state l.files);
}

abbrev pub decreases-loop-end : goal.decreases-loop-end
decreases-loop-end g l = length l.rest
