use Rattle.std.proofs.Common.{◌∙◌, sym, arith, ne_eqb, eq-eqb}
use Rattle.st_decimal.proofs.Stripped.{strip_more, strip_end, strip_none}
use Rattle.st_decimal.proofs.units.strip.Goals as goal

pub loop-zeros-preserved : goal.loop-zeros-preserved
loop-zeros-preserved c = (
  sym (strip_more c.loop-zeros.zeros c.loop-zeros.rest c.loop-zeros-test.true (eq-eqb _ _ c.if-rest-eq0.true)) ∙ c.loop-zeros.invariant.0,
  omega arith,
  omega (arith, c.loop-zeros.invariant.2),
)

pub returns-else-rest-eq0-clause-value : goal.returns-else-rest-eq0-clause-value
returns-else-rest-eq0-clause-value c =
    sym (strip_end _ c.loop-zeros.rest c.loop-zeros.zeros (ne_eqb _ _ c.if-rest-eq0.false)) ∙ c.loop-zeros.invariant.0

pub returns-after-loop-zeros-clause-value : goal.returns-after-loop-zeros-clause-value
returns-after-loop-zeros-clause-value c =
    sym (strip_none c.loop-zeros.zeros c.loop-zeros.rest (omega arith)) ∙ c.loop-zeros.invariant.0
