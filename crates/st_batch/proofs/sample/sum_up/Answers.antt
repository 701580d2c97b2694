use Rattle.std.proofs.Common.{◌≡◌, ℕ, ◌+◌, refl, sym, ap, ◌∙◌, subst, arith}
use Rattle.st_samples.specs.Generator.{x_of}
use Rattle.st_samples.specs.Summary.{Summary}
use Rattle.st_batch.specs.SampleSteps.{SumsUp}
use Rattle.st_batch.proofs.SampleLaws.{none-summed, number-more, number-none, one-more, sums-line-kept, sums-more, sums-none}
use Rattle.st_batch.proofs.sample.sum_up.Goals as goal

pub loop-alloc-init : goal.loop-alloc-init
loop-alloc-init g c =
    let before = g.F.Files.state c.args.files.now in
    let session = c.args.session.now in
    let summary = c.new-summary.result in
    let none = none-summed summary c.new-summary.ensures in
    let P : ℕ → Type 0 = λ n. SumsUp (record { files = before.map; job = session.job }) before.counts session.loaded c.args.seed n summary in
    record {
      summed = subst P (sym none) (sums-none (record { files = before.map; job = session.job }) before.counts session.loaded c.args.seed summary c.new-summary.ensures);
      number = number-none c.args.seed summary.lines none;
      few = omega (arith, none);
      session = refl;
      files = refl;
    }

pub loop-alloc-preserved : goal.loop-alloc-preserved
loop-alloc-preserved g c =
    let before = g.F.Files.state c.args.files.now in
    let session = c.args.session.now in
    let here = c.loop-alloc.invariant in
    let line = sums-line-kept before (g.F.Files.state c.loop-alloc.files) c.loop-alloc.session session c.next-x.result c.loop-alloc.summary c.sum_line.new.summary
    here.files here.session c.in_ok-sum_line.ensures.ok in
    let more : c.sum_line.new.summary.lines ≡ c.loop-alloc.summary.lines + 1 = ap (λ (s : Summary). s.lines) line.summed ∙ one-more c.loop-alloc.summary line.answer in
    let number : c.next-x.result ≡ x_of c.args.seed c.sum_line.new.summary.lines =
    number-more c.args.seed c.loop-alloc.summary.lines c.sum_line.new.summary.lines c.loop-alloc.x c.next-x.result more here.number c.next-x.ensures in
    record {
      summed = sums-more (record { files = before.map; job = session.job }) before.counts session.loaded c.args.seed c.loop-alloc.summary.lines c.sum_line.new.summary.lines
          c.next-x.result c.loop-alloc.summary c.sum_line.new.summary more number here.summed line;
      number = number;
      few = omega (arith, more, c.loop-alloc-test.true, c.lines.ensures);
      session = c.in_ok-sum_line.ensures.session ∙ here.session;
      files = c.in_ok-sum_line.ensures.files ∙ here.files;
    }
