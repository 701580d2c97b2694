use Rattle.st_leaps.proofs.LabelLaws.{rises, rises_back}
use Rattle.st_leaps.proofs.laws.labels_rise.Goals as goal

pub returns : goal.returns
returns c = λ count v w a b counts fv fw ha hb. (rises count v w a b counts fv fw ha hb, rises_back count v w a b counts fv fw ha hb)
