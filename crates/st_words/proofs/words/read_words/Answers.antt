use Rattle.std.proofs.Common.{Global}
use Rattle.std.specs.Prelude.{map, string_bytes}
use Rattle.st_words.proofs.Lists.{if_ok}
use Rattle.st_words.proofs.GoodJob.{good_job}
use Rattle.st_words.proofs.OneAnswer.{only_answer}
use Rattle.st_words.proofs.words.read_words.Goals as goal

pub returns-clause-only : goal.returns-clause-only
returns-clause-only c = λ answer h known. only_answer (map (string_bytes {Z = Global}) c.args.words.now) c.judged.result answer c.judged.ensures.ok c.judged.ensures.err h known

pub returns-clause-good : goal.returns-clause-good
returns-clause-good c = if_ok c.judged.result _ _ c.judged.ensures.ok (λ job h. good_job (map (string_bytes {Z = Global}) c.args.words.now) job h)
