use Rattle.std.proofs.Common.{subst}
use Rattle.st_tables.specs.Kernels.{AreKnown}
use Rattle.st_tables.proofs.KernelLaws.{clock_lent}
use Rattle.st_tables.proofs.kernels.Kernels.clock.Goals as goal

pub returns : goal.returns
returns c =
    clock_lent c.args.self.now c.kept_clock.result.now (subst AreKnown c.self.view_is c.self.invariant)
    (rw (← c.self.view_is) c.kept_clock.ensures) c.requires
