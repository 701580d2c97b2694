use Rattle.std.proofs.Common.{map, string_bytes, refl}
use Rattle.st_outside.proofs.StateLaws.{KeepsFiles-same}
use Rattle.st_batch.specs.declared.status.Status.TheVariants.{BadWords, ReadFault, InputTooLong}
use Rattle.st_batch.specs.Texts.{words_line}
use Rattle.st_batch.specs.Outcome.{around}
use Rattle.st_batch.proofs.RunLaws.{nothing-done, not-answered, not-lines, words-outcome}
use Rattle.st_batch.proofs.top.run.Goals as goal

pub returns-in-Ok : goal.returns-in-Ok
returns-in-Ok g c =
    let words = map string_bytes c.args.words.now in
    let asked = c.in-Ok.ensures.ok in
    record {
      told = c.run_job.ensures.told words asked;
      write_fault = c.run_job.ensures.write_fault;
      read_fault = c.run_job.ensures.read_fault;
      too_long = c.run_job.ensures.too_long;
      short = c.run_job.ensures.short;
      unread = c.run_job.ensures.unread words asked;
      files = c.run_job.ensures.files;
    }

pub returns-in-Err-OutOfMemory-clause-told : goal.returns-in-Err-OutOfMemory-clause-told
returns-in-Err-OutOfMemory-clause-told g c =
    let i = g.I.Source.state c.args.input.now in
    let s = g.F.Files.state c.args.files.now in
    nothing-done (around s s i i) (map string_bytes c.args.words.now) (g.O.Sink.bytes c.args.out.now) refl

pub returns-in-Err : goal.returns-in-Err
returns-in-Err g c =
    let i = g.I.Source.state c.args.input.now in
    let s = g.F.Files.state c.args.files.now in
    let words = map string_bytes c.args.words.now in
    let taken = g.O.Sink.bytes c.args.out.now in
    let after = g.O.Sink.bytes c.refuse_words.new.out in
    let fault = c.in-Err.fault in
    let status = c.refuse_words.result in
    let d = c.refuse_words.ensures.delivers in
    record {
      told = words-outcome (around s s i i) words fault status taken after (c.in-Err.ensures.err c.refuse_words.ensures.not_memory) d;
      write_fault = c.refuse_words.ensures.write_fault;
      read_fault = λ e. absurd (not-lines (words_line fault) (BadWords fault) status ReadFault taken after (λ h. h) (λ f. cc) d e);
      too_long = λ e. absurd (not-lines (words_line fault) (BadWords fault) status InputTooLong taken after (λ h. h) (λ f. cc) d e);
      short = λ h. absurd (not-answered (words_line fault) (BadWords fault) status taken after (λ w. w) d h);
      unread = λ h. refl;
      files = KeepsFiles-same s;
    }
