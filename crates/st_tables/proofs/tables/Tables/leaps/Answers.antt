use Rattle.std.proofs.Common.{refl, Ok}
use Rattle.st_leaps.specs.OfTable.{pairs_of}
use Rattle.st_tables.specs.Kept.{HasLeapsOf, with_leaps}
use Rattle.st_tables.specs.Tables.{LeapsGive}
use Rattle.st_tables.proofs.AnswerLaws.{refused, leaps_found}
use Rattle.st_tables.proofs.ThreeLaws.{leaps_one}
use Rattle.st_tables.proofs.tables.Tables.leaps.Goals as goal

pub returns-in_err-keep_leaps : goal.returns-in_err-keep_leaps
returns-in_err-keep_leaps c =
    let loaded = c.args.pool.now in
    let a = refused pairs_of (LeapsGive loaded) (HasLeapsOf loaded c.args.self.now) c.args.self.now (with_leaps loaded c.args.self.now) (leaps_one loaded)
    c.from_residual.result c.in_err-keep_leaps.field-0.0 c.keep_leaps.new.self c.from_residual.ensures.1 c.in_err-keep_leaps.ensures.keep c.in_err-keep_leaps.ensures.fault
    c.in_err-keep_leaps.ensures.no_memory in
    ((refl, λ _. tt, a.keep), record { gives = a.gives; only = a.only; no_memory = a.no_memory; kept = tt })

pub returns : goal.returns
returns c =
    let loaded = c.args.pool.now in
    let gives = leaps_found loaded c.args.self.now c.keep_leaps.new.self (pairs_of c.kept_leaps.result.now) c.in_ok-keep_leaps.ensures.keep c.in_ok-keep_leaps.ensures.kinds c.kept_leaps.ensures in
    ((refl, λ _. tt, c.in_ok-keep_leaps.ensures.keep), record { gives = gives; only = λ answer other. leaps_one loaded (Ok (pairs_of c.kept_leaps.result.now)) answer gives other; no_memory = λ _. refl; kept = tt })
