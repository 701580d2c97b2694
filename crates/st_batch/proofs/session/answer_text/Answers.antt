use Rattle.st_batch.proofs.SessionLaws.{time-text, time-caused}
use Rattle.st_batch.proofs.session.answer_text.Goals as goal

pub returns-else-is_command-clause-answered : goal.returns-else-is_command-clause-answered
returns-else-is_command-clause-answered g c =
    time-text (g.F.Files.state c.args.files.now).map c.args.job.now c.args.kernels.now.loaded _ c.args.text.now c.answer_text.result (cc (c.is_command.ensures, c.if-is_command.false)) c.answer_text.ensures.answered c.answer_text.ensures.loaded

pub returns-else-is_command-clause-cause : goal.returns-else-is_command-clause-cause
returns-else-is_command-clause-cause g c = time-caused c.args.job.now c.args.kernels.now.loaded c.args.text.now _ _ c.answer_text.result c.answer_text.ensures.answered
