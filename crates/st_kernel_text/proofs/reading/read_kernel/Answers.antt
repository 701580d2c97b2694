use Rattle.std.proofs.Common.{◌≡◌, [], Err}
use Rattle.std.proofs.lemmas.Result.{err_from_is_err_and}
use Rattle.st_kernel_text.proofs.PieceLaws.{one_piece}
use Rattle.st_kernel_text.proofs.reading.read_kernel.Goals as goal

pub returns-in_err-feed-clause-only : goal.returns-in_err-feed-clause-only
returns-in_err-feed-clause-only c = λ answer h.
    let failed = err_from_is_err_and c.from_residual.result c.from_residual.ensures.1 in
    let is : c.from_residual.result ≡ Err c.in_err-feed.field-0.0 = cc (failed.1, failed.2) in
    one_piece c.args.bytes.now c.in_err-feed.field-0.0 c.from_residual.result answer (c.in_err-feed.ensures.every [] [] c.new-reader.ensures.fed) is h
