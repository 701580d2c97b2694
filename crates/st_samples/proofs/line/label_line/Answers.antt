use Rattle.st_samples.proofs.LabelLaws.{its_date, line_is, line_only}
use Rattle.st_samples.proofs.line.label_line.Goals as goal

pub returns-clause-line : goal.returns-clause-line
returns-clause-line c =
    let made = c.sample_label-passed.ensures in
    let date = its_date _ c.civil_of.result made.from made.to c.civil_of.ensures.civil in
    line_is c.label_text.result c.args.x _ _ _ made.plain made.counts made.time date c.label_text.ensures

pub returns-clause-only : goal.returns-clause-only
returns-clause-only c =
    let made = c.sample_label-passed.ensures in
    let date = its_date _ c.civil_of.result made.from made.to c.civil_of.ensures.civil in
    line_only c.label_text.result c.args.x _ _ _ made.only made.time date c.label_text.ensures
