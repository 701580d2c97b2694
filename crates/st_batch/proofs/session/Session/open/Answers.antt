use Rattle.std.proofs.Common.{Ok, Err, ap}
use Rattle.st_tables.specs.Kernels.{Kernels}
use Rattle.st_batch.proofs.SetupSteps.{carried-cause, caused-earlier, clock-seen, files-cause, files-seen, names-seen, opened, opened-clock, opened-files, opened-first, opened-names, opened-ready}
use Rattle.st_batch.proofs.session.Session.open.Goals as goal

pub returns-in_err-load_file-clause-err : goal.returns-in_err-load_file-clause-err
returns-in_err-load_file-clause-err g c =
    opened-first _ _ _ _ c.in_err-load_file.field-0.0 c.from_residual.result (ap (λ (k : Kernels). k.loaded) c.new-kernels.ensures) c.as_slice.ensures c.in_err-load_file.ensures.err
    c.from_residual.ensures

pub returns-in_err-names-clause-err : goal.returns-in_err-names-clause-err
returns-in_err-names-clause-err g c =
    opened-names _ _ _ _ _ c.in_err-names.field-0.0 c.from_residual-in_err-names.result (ap (λ (k : Kernels). k.loaded) c.new-kernels.ensures) c.as_slice.ensures c.in_ok-load_file.ensures.ok
    (λ not. files-seen _ _ (Err c.in_err-names.field-0.0) c.pool.ensures (c.in_err-names.ensures.err not)) c.from_residual-in_err-names.ensures

pub returns-in_err-job-clause-err : goal.returns-in_err-job-clause-err
returns-in_err-job-clause-err g c =
    opened-clock _ _ _ _ _ c.in_ok-names.names c.in_err-job.field-0.0 c.from_residual-in_err-job.result (ap (λ (k : Kernels). k.loaded) c.new-kernels.ensures) c.as_slice.ensures c.in_ok-load_file.ensures.ok
    (files-seen _ _ (Ok c.in_ok-names.names) c.pool.ensures c.in_ok-names.ensures.ok) (clock-seen _ _ _ _ _ c.pool-2.ensures c.in_err-job.ensures) c.from_residual-in_err-job.ensures

pub returns-in_err-load_files-clause-err : goal.returns-in_err-load_files-clause-err
returns-in_err-load_files-clause-err g c =
    opened-files _ _ _ _ _ _ _ c.in_ok-names.names c.in_err-load_files.field-0.0 c.from_residual-in_err-load_files.result (ap (λ (k : Kernels). k.loaded) c.new-kernels.ensures) c.as_slice.ensures c.in_ok-load_file.ensures.ok
    (files-seen _ _ (Ok c.in_ok-names.names) c.pool.ensures c.in_ok-names.ensures.ok) (clock-seen _ _ _ _ _ c.pool-2.ensures c.in_ok-job.ensures) c.in_ok-load_file.ensures.files.map (λ not. names-seen _ _ _ _ _ c.as_slice-2.ensures (c.in_err-load_files.ensures.err not)) c.from_residual-in_err-load_files.ensures

pub invariant_of-result : goal.invariant_of-result
invariant_of-result g c = opened-ready _ c.in_ok-job.job _ c.requires c.in_ok-job.ensures

pub returns-clause-ok : goal.returns-clause-ok
returns-clause-ok g c =
    opened _ _ _ _ _ _ _ _ c.in_ok-names.names (ap (λ (k : Kernels). k.loaded) c.new-kernels.ensures) c.as_slice.ensures c.in_ok-load_file.ensures.ok (files-seen _ _ (Ok c.in_ok-names.names) c.pool.ensures c.in_ok-names.ensures.ok) (clock-seen _ _ _ _ _ c.pool-2.ensures c.in_ok-job.ensures)
    c.in_ok-load_file.ensures.files.map (names-seen _ _ _ _ _ c.as_slice-2.ensures c.in_ok-load_files.ensures.ok)

pub returns-in_err-names-clause-cause : goal.returns-in_err-names-clause-cause
returns-in_err-names-clause-cause g c = files-cause c.in_err-names.field-0.0 c.from_residual-in_err-names.result _ _ c.from_residual-in_err-names.ensures

pub returns-in_err-load_files-clause-cause : goal.returns-in_err-load_files-clause-cause
returns-in_err-load_files-clause-cause g c =
    let fault = c.in_err-load_files.field-0.0 in
    let caused = caused-earlier fault _ _ _ c.in_ok-load_file.ensures.files.counts c.in_ok-load_file.ensures.clean c.in_err-load_files.ensures.cause in
    carried-cause fault c.from_residual-in_err-load_files.result _ _ c.from_residual-in_err-load_files.ensures caused
