use Rattle.st_batch.proofs.SampleCounts.{line-summed, line-unread, session-stays}
use Rattle.st_batch.proofs.sample.sum_line.Goals as goal

pub returns-in_err-answer-clause-files : goal.returns-in_err-answer-clause-files
returns-in_err-answer-clause-files g c =
    c.in_err-answer.ensures.unread (line-unread c.args.session.now.job c.args.session.now.loaded c.args.x c.in_ok-line.line c.as_slice.result.now c.as_slice.ensures c.in_ok-line.ensures.line)

pub returns-clause-ok : goal.returns-clause-ok
returns-clause-ok g c =
    let h = c.in_ok-answer.ensures in
    let unread = line-unread c.args.session.now.job c.args.session.now.loaded c.args.x c.in_ok-line.line c.as_slice.result.now c.as_slice.ensures c.in_ok-line.ensures.line in
    line-summed c.count.result (g.F.Files.state c.args.files.now) (g.F.Files.state c.answer_line.new.files) c.answer_line.new.self c.sample_line.new.self c.args.session.now c.args.x
    c.in_ok-line.line c.as_slice.result.now c.in_ok-answer.answer c.args.summary.now c.count.new.summary
    c.in_ok-line.ensures.kept c.as_slice.ensures c.in_ok-line.ensures.line (h.unread unread) h.files.counts h.cause h.answered c.count.ensures

pub returns-clause-session : goal.returns-clause-session
returns-clause-session g c =
    let h = c.in_ok-answer.ensures in
    session-stays (g.F.Files.state c.args.files.now).map c.answer_line.new.self c.sample_line.new.self c.args.session.now c.args.x
    c.in_ok-line.line c.as_slice.result.now c.in_ok-answer.answer
    c.in_ok-line.ensures.kept c.as_slice.ensures c.in_ok-line.ensures.line h.answered h.job

pub returns-clause-files : goal.returns-clause-files
returns-clause-files g c =
    c.in_ok-answer.ensures.unread (line-unread c.args.session.now.job c.args.session.now.loaded c.args.x c.in_ok-line.line c.as_slice.result.now c.as_slice.ensures c.in_ok-line.ensures.line)
