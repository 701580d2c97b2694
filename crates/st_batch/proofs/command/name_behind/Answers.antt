use Rattle.std.proofs.Common.{arith}
use Rattle.st_batch.proofs.CommandLaws.{begins-not, stripped, named, named-is}
use Rattle.st_batch.proofs.command.name_behind.Goals as goal
use Rattle.st_batch.proofs.command.name_behind.Goals.{else-name-behind-via-then-name-behind+else-is_file_name, else-name-behind-via-else-name-behind}

pub returns-in_err-behind-clause-none : goal.returns-in_err-behind-clause-none
returns-in_err-behind-clause-none c _ = begins-not c.args.word.now c.args.text.now (c.in_err-behind.ensures.cases)

pub returns-then-is_file_name-clause-some : goal.returns-then-is_file_name-clause-some
returns-then-is_file_name-clause-some c =
    let spelled = stripped c.args.word.now c.args.text.now c.in_ok-behind.behind.now c.in_ok-behind.ensures.cases.0 c.in_ok-behind.ensures.cases.1 in
    named c.args.word.now c.args.text.now c.in_ok-behind.behind.now c.skip_blanks-name.result.now spelled c.skip_blanks-name.ensures c.if-name-behind.true (c.is_file_name.ensures.yes c.if-is_file_name.true)

pub returns-else-name-behind-clause-none : goal.returns-else-name-behind-clause-none
returns-else-name-behind-clause-none c _ = λ name names.
    let spelled = stripped c.args.word.now c.args.text.now c.in_ok-behind.behind.now c.in_ok-behind.ensures.cases.0 c.in_ok-behind.ensures.cases.1 in
    let is = named-is c.args.word.now c.args.text.now c.in_ok-behind.behind.now c.skip_blanks-name.result.now name spelled c.skip_blanks-name.ensures names in
    elim c.else-name-behind.branch [
      | else-name-behind-via-then-name-behind+else-is_file_name w ↦ w.is_file_name.ensures.no w.if-is_file_name.false is.0
      | else-name-behind-via-else-name-behind w ↦ absurd (omega (arith, is.1, w.if-name-behind.false))
    ]
