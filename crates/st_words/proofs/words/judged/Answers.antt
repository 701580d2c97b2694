use Rattle.std.proofs.Common.{◌≡◌, ◌≢◌, sym, subst, Err, Global}
use Rattle.std.specs.Prelude.{map, string_bytes}
use Rattle.st_words.specs.Cut.{nothing}
use Rattle.st_words.specs.WordsMachine.{read}
use Rattle.st_words.specs.declared.fault.WordFault.{WordFault}
use Rattle.st_words.specs.declared.fault.WordFault.TheVariants as faults
use Rattle.st_words.proofs.Lists.{err_and, if_err, if_ok}
use Rattle.st_words.proofs.OneAnswer.{words_job, words_fault, words_refused}
use Rattle.st_words.proofs.words.judged.Goals as goal

pub returns-in_err-options-clause-err : goal.returns-in_err-options-clause-err
returns-in_err-options-clause-err c =
    let words = map (string_bytes {Z = Global}) c.args.words.now in
    let R : WordFault → Type 0 = λ f. f ≢ faults.OutOfMemory → read nothing 1 0 words ≡ Err f in
    err_and c.from_residual.result _ _ c.from_residual.ensures.1 (λ fault e h. words_fault words fault (subst R (sym e) c.in_err-options.ensures.err h))

pub returns-clause-ok : goal.returns-clause-ok
returns-clause-ok c =
    let words = map (string_bytes {Z = Global}) c.args.words.now in
    if_ok c.make_job.result _ _ c.make_job.ensures.ok (λ job h. words_job words c.in_ok-options.options job c.in_ok-options.ensures.ok h)

pub returns-clause-err : goal.returns-clause-err
returns-clause-err c =
    let words = map (string_bytes {Z = Global}) c.args.words.now in
    if_err c.make_job.result _ _ c.make_job.ensures.err (λ fault h known. words_refused words c.in_ok-options.options fault c.in_ok-options.ensures.ok (h known))
