use Rattle.std.proofs.Common.{refl, Ok}
use Rattle.st_tables.specs.Kept.{HasConstantsOf, with_constants}
use Rattle.st_tables.specs.Tables.{ConstantsGive}
use Rattle.st_tables.proofs.AnswerLaws.{refused, constants_found}
use Rattle.st_tables.proofs.ThreeLaws.{constants_one}
use Rattle.st_tables.proofs.tables.Tables.deltet.Goals as goal

pub returns-in_err-keep_constants : goal.returns-in_err-keep_constants
returns-in_err-keep_constants c =
    let loaded = c.args.pool.now in
    let a = refused (λ x. x) (ConstantsGive loaded) (HasConstantsOf loaded c.args.self.now) c.args.self.now (with_constants loaded c.args.self.now) (constants_one loaded)
    c.from_residual.result c.in_err-keep_constants.field-0.0 c.keep_constants.new.self c.from_residual.ensures.1 c.in_err-keep_constants.ensures.keep c.in_err-keep_constants.ensures.fault
    c.in_err-keep_constants.ensures.no_memory in
    ((refl, λ _. tt, a.keep), record { gives = a.gives; only = a.only; no_memory = a.no_memory; kept = tt })

pub returns : goal.returns
returns c =
    let loaded = c.args.pool.now in
    let gives = constants_found loaded c.args.self.now c.keep_constants.new.self (c.kept_constants.result.now) c.in_ok-keep_constants.ensures.keep c.in_ok-keep_constants.ensures.kinds c.kept_constants.ensures in
    ((refl, λ _. tt, c.in_ok-keep_constants.ensures.keep), record { gives = gives; only = λ answer other. constants_one loaded (Ok (c.kept_constants.result.now)) answer gives other; no_memory = λ _. refl; kept = tt })
