use Rattle.std.proofs.Common.{sym, ap, ◌∙◌, Some, Option}
use Rattle.std.specs.Option.{option_copied}
use Rattle.st_kernel_text.specs.declared.value.Value.{Value}
use Rattle.st_pool.specs.Variable.{loaded_values}
use Rattle.st_words.specs.Setup.{id_name}
use Rattle.st_words.proofs.SetupLaws.{only_id}
use Rattle.st_words.proofs.setup.only_clock.Goals as goal

pub returns-in-Some-Number-clause-some : goal.returns-in-Some-Number-clause-some
returns-in-Some-Number-clause-some c =
    let some : Value → Option Value = λ v. Some v in
    only_id (loaded_values id_name c.args.pool.now) c.in-Some-Number.number c.clock_of.result (sym c.count.ensures ∙ c.if-count-ne1.false)
    (sym c.value.ensures.value ∙ ap option_copied c.in-Some-Number.is ∙ ap some c.in-Some-Number.field-0-is) c.clock_of.ensures.some
