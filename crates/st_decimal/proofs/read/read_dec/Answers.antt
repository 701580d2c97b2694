use Rattle.std.proofs.Common.{subst, sym, ◌∙◌, Result}
use Rattle.st_decimal.specs.declared.number.Dec.{Dec}
use Rattle.st_decimal.specs.declared.number.DecFault.{DecFault}
use Rattle.st_decimal.specs.Value.{ReadsDec}
use Rattle.st_decimal.proofs.Answered.{meets, one_answer}
use Rattle.st_decimal.proofs.read.read_dec.Goals as goal

pub returns-clause-reads : goal.returns-clause-reads
returns-clause-reads c = subst (λ (r : Result Dec DecFault). ReadsDec c.args.text.now r) (sym c.read.ensures) (meets c.args.text.now)

pub returns-clause-only : goal.returns-clause-only
returns-clause-only c = λ answer h. c.read.ensures ∙ one_answer c.args.text.now answer h
