use Rattle.std.proofs.Common.{IfOk, subst, sym}
use Rattle.st_batch.specs.Commands.{IsNoLoad}
use Rattle.st_batch.specs.Session.{MayAnswer}
use Rattle.st_batch.specs.Setting.{State, setting}
use Rattle.st_batch.proofs.SessionLaws.{text-line}
use Rattle.st_batch.proofs.session.Session.answer_line.Goals as goal

pub returns-clause-answered : goal.returns-clause-answered
returns-clause-answered g c =
    let map = (g.F.Files.state c.args.files.now).map in
    let P : State → Type 0 = λ t. IfOk c.answer_text.result (λ answer. MayAnswer (setting map t) t.loaded c.args.line.now answer c.answer_text.new.kernels.loaded) in
    subst P c.self.view_is (text-line (record { files = map; job = c.self.inside.job }) _ _ _ _ c.answer_text.result c.if-line-gt-MAX_LINE.false c.trim.ensures c.answer_text.ensures.answered)

pub returns-clause-unread : goal.returns-clause-unread
returns-clause-unread g c = λ none. c.answer_text.ensures.unread (subst IsNoLoad (sym c.trim.ensures) none)
