use Rattle.std.proofs.Common.{◌≡◌, true, length, ◌-◌}
use Rattle.st_outside.specs.Causes.{AreLater, RoseBy}
use Rattle.st_batch.specs.LoadSteps.{FedPart}
use Rattle.st_batch.proofs.load.feed_open.Given as goal

abbrev pub invariant-loop-read : goal.invariant-loop-read
invariant-loop-read g l = record {
  opened : (g.F.Files.state l.files).opened ≡ true;
  map : (g.F.Files.state l.files).map ≡ (g.F.Files.state l.fn.files).map;
  misses : (g.F.Files.state l.files).counts.misses ≡ (g.F.Files.state l.fn.files).counts.misses;
  clean : (g.F.Files.state l.files).counts.faults ≡ (g.F.Files.state l.fn.files).counts.faults;
  later : AreLater (g.F.Files.state l.fn.files).counts (g.F.Files.state l.files).counts;
  taken : RoseBy l.read (g.F.Files.state l.fn.files).counts.taken (g.F.Files.state l.files).counts.taken;
  fed : FedPart (g.F.Files.state l.fn.files).left (g.F.Files.state l.files).left l.reader l.read;
  count : l.reader.count ≡ l.read;
  room : length l.buf ≡ 4096;
}

abbrev pub decreases-loop-read : goal.decreases-loop-read
decreases-loop-read g l = 16777217 - l.read
