use Rattle.std.proofs.Common.{◌≡◌, false, drop, Result}
use Rattle.st_outside.specs.States.{KeepsFiles}
use Rattle.st_refusals.specs.declared.kernel_fault.KernelFault.{KernelFault}
use Rattle.st_batch.specs.Setting.{Loaded}
use Rattle.st_batch.specs.Setup.{LoadsGive}
use Rattle.st_batch.proofs.setup.load_files.Given as goal

abbrev pub invariant-loop-name : goal.invariant-loop-name
invariant-loop-name g l = record {
  go : (r : Result Loaded KernelFault) → LoadsGive (g.F.Files.state l.fn.files).map l.kernels.loaded (drop l.name-index l.names) r
      → LoadsGive (g.F.Files.state l.fn.files).map l.fn.kernels.loaded l.names r;
  clean : (g.F.Files.state l.files).counts.faults ≡ (g.F.Files.state l.fn.files).counts.faults;
  closed : (g.F.Files.state l.fn.files).opened ≡ false → (g.F.Files.state l.files).opened ≡ false;
  files : KeepsFiles (g.F.Files.state l.fn.files) (g.F.Files.state l.files);
}
