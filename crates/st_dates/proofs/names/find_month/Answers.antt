use Rattle.std.proofs.Common.{◌∙◌, arith}
use Rattle.st_dates.proofs.NameLaws.{hit, miss, last}
use Rattle.st_dates.proofs.names.find_month.Goals as goal

pub returns-then-is_month : goal.returns-then-is_month
returns-then-is_month c =
    hit c.loop-month.month c.args.name.now c.as_bytes.result.now c.is_month.result (omega arith) (omega arith) c.loop-month.invariant (c.as_bytes.ensures.value ∙ c.month_name.ensures) c.is_month.ensures c.if-is_month.true

pub loop-month-preserved : goal.loop-month-preserved
loop-month-preserved c =
    miss c.loop-month.month c.args.name.now c.as_bytes.result.now c.is_month.result (omega arith) (omega arith) c.loop-month.invariant (c.as_bytes.ensures.value ∙ c.month_name.ensures) c.is_month.ensures c.if-is_month.false

pub returns : goal.returns
returns c = last c.loop-month.month c.args.name.now (omega arith) c.loop-month.invariant
