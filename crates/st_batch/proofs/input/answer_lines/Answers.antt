use Rattle.st_words.specs.declared.job.Work.TheVariants.{Time, Sample}
use Rattle.st_batch.proofs.InputLaws.{as-lines, none-answered, session-told, time-ends, work-is}
use Rattle.st_batch.proofs.SampleLaws.{sample-goes-on, sample-told}
use Rattle.st_batch.proofs.input.answer_lines.Goals as goal

pub returns-in-Err-clause-told : goal.returns-in-Err-clause-told
returns-in-Err-clause-told g c = λ before k.
    none-answered before (g.F.Files.state c.args.files.now) (g.I.Source.state c.args.input.now) c.args.session (g.O.Sink.bytes c.args.out.now)

pub returns-in-Time-clause-told : goal.returns-in-Time-clause-told
returns-in-Time-clause-told g c = λ before k.
    let now = g.F.Files.state c.answer_one.new.files in
    let i = g.I.Source.state c.args.input.now in
    let taken = g.O.Sink.bytes c.args.out.now in
    let after = g.O.Sink.bytes c.answer_one.new.out in
    as-lines before now i i taken after c.args.session c.answer_one.result
    (time-ends before now i c.in-Time.line _ c.args.session _ _ c.answer_one.result
    c.new-answering.ensures.session c.new-answering.ensures.gathered c.new-answering.ensures.refused
    (work-is c.args.session c.job.result.now c.in-Ok.work (Time c.in-Time.line) c.job.ensures c.in-Ok.ensures c.in-Time.is)
    c.as_slice.ensures c.answer_one.ensures.finished k)

pub returns-in-Batch-clause-told : goal.returns-in-Batch-clause-told
returns-in-Batch-clause-told g c = λ before k.
    let now = g.F.Files.state c.answer_input.new.files in
    let i = g.I.Source.state c.args.input.now in
    let j = g.I.Source.state c.answer_input.new.input in
    let taken = g.O.Sink.bytes c.args.out.now in
    let after = g.O.Sink.bytes c.answer_input.new.out in
    as-lines before now i j taken after c.args.session c.answer_input.result
    (session-told before now i j taken after c.new-answering.result.session c.args.session c.answer_input.result
    c.new-answering.ensures.session (c.answer_input.ensures.told before k))

pub returns-clause-told : goal.returns-clause-told
returns-clause-told g c = λ before k.
    sample-told before (g.F.Files.state c.args.files.now) (g.F.Files.state c.answer_sample.new.files) (g.I.Source.state c.args.input.now)
    c.new-answering.result.session c.args.session c.in-Sample.lines c.in-Sample.seed (g.O.Sink.bytes c.args.out.now) (g.O.Sink.bytes c.answer_sample.new.out) c.answer_sample.result
    c.new-answering.ensures.session c.answer_sample.ensures.files
    (work-is c.args.session c.job.result.now c.in-Ok.work (Sample c.in-Sample.lines c.in-Sample.seed) c.job.ensures c.in-Ok.ensures c.in-Sample.is) k
    c.answer_sample.ensures.ends

pub returns-clause-read_fault : goal.returns-clause-read_fault
returns-clause-read_fault g c = λ e.
    absurd ((sample-goes-on (g.F.Files.state c.args.files.now) c.new-answering.result.session c.in-Sample.lines c.in-Sample.seed
    (g.O.Sink.bytes c.args.out.now) (g.O.Sink.bytes c.answer_sample.new.out) c.answer_sample.result c.answer_sample.ensures.ends).0 e)

pub returns-clause-too_long : goal.returns-clause-too_long
returns-clause-too_long g c = λ e.
    absurd ((sample-goes-on (g.F.Files.state c.args.files.now) c.new-answering.result.session c.in-Sample.lines c.in-Sample.seed
    (g.O.Sink.bytes c.args.out.now) (g.O.Sink.bytes c.answer_sample.new.out) c.answer_sample.result c.answer_sample.ensures.ends).1 e)
