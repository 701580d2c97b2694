use Rattle.std.proofs.Common.{◌≡◌, ◌≤◌, ◌-◌}
use Rattle.st_samples.specs.Generator.{x_of}
use Rattle.st_batch.specs.SampleSteps.{SumsUp}
use Rattle.st_batch.proofs.sample.sum_up.Given as goal

abbrev pub invariant-loop-alloc : goal.invariant-loop-alloc
invariant-loop-alloc g l = record {
  summed : SumsUp (record { files = (g.F.Files.state l.fn.files).map; job = l.fn.session.job }) (g.F.Files.state l.fn.files).counts l.fn.session.loaded l.fn.seed l.summary.lines l.summary;
  number : l.x ≡ x_of l.fn.seed l.summary.lines;
  few : l.summary.lines ≤ l.lines;
  session : l.session ≡ l.fn.session;
  files : g.F.Files.state l.files ≡ g.F.Files.state l.fn.files;
}

abbrev pub decreases-loop-alloc : goal.decreases-loop-alloc
decreases-loop-alloc g l = l.lines - l.summary.lines
