use Rattle.std.proofs.Common.{◌<◌, length, ◌∙◌, arith}
use Rattle.st_outside.proofs.StateLaws.{KeepsFiles-trans}
use Rattle.st_batch.proofs.SetupSteps.{loads-on, loads-stop}
use Rattle.st_batch.proofs.setup.load_files.Goals as goal

pub returns-in-Err-clause-err : goal.returns-in-Err-clause-err
returns-in-Err-clause-err g c =
    let within : c.loop-name.name-index < length c.args.names.now = omega arith in
    loads-stop _ _ _ _ c.args.names.now c.loop-name.name-index _ _ c.in-Err.fault within (c.as_slice.ensures ∙ c.name-item.is) c.loop-name.invariant.files.map
    c.loop-name.invariant.go c.in-Err.ensures.err

pub loop-name-preserved : goal.loop-name-preserved
loop-name-preserved g c =
    let within : c.loop-name.name-index < length c.args.names.now = omega arith in
    record {
      go = loads-on _ _ _ _ _ c.args.names.now c.loop-name.name-index _ _ within (c.as_slice.ensures ∙ c.name-item.is) c.loop-name.invariant.files.map
          c.loop-name.invariant.go c.in_default.ensures.ok;
      clean = c.in_default.ensures.clean ∙ c.loop-name.invariant.clean;
      closed = λ h. c.in_default.ensures.closed;
      files = KeepsFiles-trans _ _ _ c.loop-name.invariant.files c.in_default.ensures.files;
    }
