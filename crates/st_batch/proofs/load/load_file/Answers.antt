use Rattle.std.proofs.Common.{◌≡◌, ◌≢◌, Err, IfErr, Result, sym, subst}
use Rattle.std.proofs.lemmas.Result.{err_from_is_err_and}
use Rattle.st_refusals.specs.declared.kernel_fault.KernelFault.{KernelFault}
use Rattle.st_refusals.specs.declared.kernel_fault.KernelFault.TheVariants.{OutOfMemory}
use Rattle.st_batch.specs.Load.{LoadGives}
use Rattle.st_batch.proofs.load.load_file.Goals as goal

pub returns-in_err-assignments-clause-err : goal.returns-in_err-assignments-clause-err
returns-in_err-assignments-clause-err g c =
    let failed = err_from_is_err_and c.from_residual.result c.from_residual.ensures.1 in
    let is : c.from_residual.result ≡ Err c.in_err-assignments.field-0.0 = cc (failed.1, failed.2) in
    let P : Result _ KernelFault → Type 0 = λ r. IfErr r (λ fault. fault ≢ OutOfMemory → LoadGives (g.F.Files.state c.args.files.now).map c.args.kernels.now.loaded c.args.name.now (Err fault)) in
    subst P (sym is) (λ not. c.in_err-assignments.ensures.err not c.args.kernels.now.loaded)
