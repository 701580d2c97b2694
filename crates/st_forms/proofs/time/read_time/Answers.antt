use Rattle.std.proofs.Common.{◌∙◌, sym, subst, Result}
use Rattle.st_forms.specs.Reading.{ReadsTime}
use Rattle.st_forms.specs.declared.fault.FormFault.{FormFault}
use Rattle.st_forms.specs.declared.time.TimeText.{TimeText}
use Rattle.st_forms.proofs.TimeLaws.{reads, only}
use Rattle.st_forms.proofs.time.read_time.Goals as goal

pub returns-clause-reads : goal.returns-clause-reads
returns-clause-reads c =
    subst (λ (r : Result TimeText FormFault). ReadsTime c.args.text.now c.args.system c.args.form r) (sym c.find_time.ensures.value) (reads c.args.text.now c.args.system c.args.form)

pub returns-clause-only : goal.returns-clause-only
returns-clause-only c = λ answer h. c.find_time.ensures.value ∙ only c.args.text.now c.args.system c.args.form answer h
