use Rattle.std.proofs.Common.{◌∙◌, sym, subst, Result, ℤ}
use Rattle.st_dates.specs.AtDate.{ReadsAtDate}
use Rattle.st_dates.specs.declared.fault.DateFault.{DateFault}
use Rattle.st_dates.proofs.DateLaws.{reads, only}
use Rattle.st_dates.proofs.at_date.read_at_date.Goals as goal

pub returns-clause-reads : goal.returns-clause-reads
returns-clause-reads c =
    subst (λ (r : Result ℤ DateFault). ReadsAtDate c.args.text.now r) (sym c.read.ensures) (reads c.args.text.now)

pub returns-clause-only : goal.returns-clause-only
returns-clause-only c = λ answer h. c.read.ensures ∙ only c.args.text.now answer h
