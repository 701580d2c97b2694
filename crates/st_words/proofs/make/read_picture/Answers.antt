use Rattle.st_words.proofs.Lists.{err_and}
use Rattle.st_words.proofs.JobLaws.{picture_refuses}
use Rattle.st_words.proofs.make.read_picture.Goals as goal

pub returns-in_err-picture-clause-err : goal.returns-in_err-picture-clause-err
returns-in_err-picture-clause-err c =
    err_and c.from_residual.result _ _ c.from_residual.ensures.1 (λ fault e h.
    picture_refuses c.args.options.now c.args.system c.text_of.result.now c.in_err-picture.field-0.0 fault
    (record { default = c.args.default.now; to = c.requires.system; pictured = c.requires.default; text_is = c.text_of.ensures })
    c.in_err-picture.ensures.reads e h)
