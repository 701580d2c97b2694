use Rattle.std.proofs.Common.{refl}
use Rattle.st_outside.proofs.StateLaws.{KeepsFiles-trans}
use Rattle.st_batch.specs.declared.status.Status.TheVariants.{BadSetup, ReadFault, InputTooLong}
use Rattle.st_batch.specs.Texts.{setup_line}
use Rattle.st_batch.specs.Outcome.{around}
use Rattle.st_batch.proofs.RunLaws.{lines-outcome, no-input, nothing-done, not-answered, not-lines, setup-outcome}
use Rattle.st_batch.proofs.SetupSteps.{setup-range, setup-work}
use Rattle.st_batch.proofs.top.run_job.Goals as goal

pub answer_lines-requires : goal.answer_lines-requires
answer_lines-requires g c =
    setup-range (record { files = (g.F.Files.state c.args.files.now).map; job = c.args.job }) c.in-Ok.session c.in-Ok.ensures.ok c.requires.work

pub returns-in-Ok : goal.returns-in-Ok
returns-in-Ok g c =
    let before = g.F.Files.state c.args.files.now in
    let now = g.F.Files.state c.answer_lines.new.files in
    let i = g.I.Source.state c.args.input.now in
    let j = g.I.Source.state c.answer_lines.new.input in
    let taken = g.O.Sink.bytes c.args.out.now in
    let after = g.O.Sink.bytes c.answer_lines.new.out in
    let session = c.in-Ok.session in
    let status = c.answer_lines.result in
    let ended = c.answer_lines.ensures.told before c.in-Ok.ensures.files in
    record {
      told = λ words asked. lines-outcome before now i j taken after words c.args.job session status asked c.in-Ok.ensures.ok ended;
      write_fault = c.answer_lines.ensures.write_fault;
      read_fault = c.answer_lines.ensures.read_fault;
      too_long = c.answer_lines.ensures.too_long;
      short = c.answer_lines.ensures.short;
      unread = λ words asked none. c.answer_lines.ensures.unread (no-input before now i j taken after words c.args.job session status (setup-work (record { files = before.map; job = c.args.job }) session c.in-Ok.ensures.ok) asked ended none);
      files = KeepsFiles-trans _ _ _ c.in-Ok.ensures.files c.answer_lines.ensures.files;
    }

pub returns-in-Err-OutOfMemory-clause-told : goal.returns-in-Err-OutOfMemory-clause-told
returns-in-Err-OutOfMemory-clause-told g c = λ words asked.
    nothing-done (around (g.F.Files.state c.args.files.now) (g.F.Files.state c.open.new.files) (g.I.Source.state c.args.input.now) (g.I.Source.state c.args.input.now))
    words (g.O.Sink.bytes c.args.out.now) refl

pub returns-in-Err : goal.returns-in-Err
returns-in-Err g c =
    let i = g.I.Source.state c.args.input.now in
    let o = around (g.F.Files.state c.args.files.now) (g.F.Files.state c.open.new.files) i i in
    let taken = g.O.Sink.bytes c.args.out.now in
    let after = g.O.Sink.bytes c.refuse_setup.new.out in
    let fault = c.in-Err.fault in
    let status = c.refuse_setup.result in
    let d = c.refuse_setup.ensures.delivers in
    record {
      told = λ words asked. setup-outcome o words c.args.job fault status taken after asked (c.in-Err.ensures.err c.refuse_setup.ensures.not_memory) c.in-Err.ensures.cause refl d;
      write_fault = c.refuse_setup.ensures.write_fault;
      read_fault = λ e. absurd (not-lines (setup_line fault) (BadSetup fault) status ReadFault taken after (λ h. h) (λ f. cc) d e);
      too_long = λ e. absurd (not-lines (setup_line fault) (BadSetup fault) status InputTooLong taken after (λ h. h) (λ f. cc) d e);
      short = λ h. absurd (not-answered (setup_line fault) (BadSetup fault) status taken after (λ w. w) d h);
      unread = λ words asked none. refl;
      files = c.in-Err.ensures.files;
    }
