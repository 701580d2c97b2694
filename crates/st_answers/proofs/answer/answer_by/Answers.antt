use Rattle.std.proofs.Common.{sym, ◌∙◌}
use Rattle.st_answers.specs.AskedSteps.{shown}
use Rattle.st_answers.proofs.LentSteps.{converts-err, converts-ok, spells-err, spells-ok}
use Rattle.st_answers.proofs.answer.answer_by.Goals as goal

pub returns-then-are_clocks-clause-ok : goal.returns-then-are_clocks-clause-ok
returns-then-are_clocks-clause-ok c =
    spells-ok c.args.job.now (shown c.args.tables.now) c.args.text.now _ c.spell.result (sym c.are_clocks.ensures ∙ c.if-are_clocks.true) c.spell.ensures.ok

pub returns-then-are_clocks-clause-err : goal.returns-then-are_clocks-clause-err
returns-then-are_clocks-clause-err c =
    spells-err c.args.job.now (shown c.args.tables.now) c.args.text.now _ c.spell.result (sym c.are_clocks.ensures ∙ c.if-are_clocks.true) c.spell.ensures.err

pub returns-else-are_clocks-clause-ok : goal.returns-else-are_clocks-clause-ok
returns-else-are_clocks-clause-ok c =
    converts-ok c.args.job.now (shown c.args.tables.now) c.args.text.now _ c.convert.result (sym c.are_clocks.ensures ∙ c.if-are_clocks.false) c.convert.ensures

pub returns-else-are_clocks-clause-err : goal.returns-else-are_clocks-clause-err
returns-else-are_clocks-clause-err c =
    converts-err c.args.job.now (shown c.args.tables.now) c.args.text.now _ c.convert.result (sym c.are_clocks.ensures ∙ c.if-are_clocks.false) c.convert.ensures
