use Rattle.std.proofs.Common.{ℕ, false, List, Ok, IfOk, subst}
use Rattle.std.proofs.lemmas.Bool.{false≢true}
use Rattle.st_dates.specs.declared.system.System.TheVariants.{Tdb, Sclk}
use Rattle.st_forms.specs.declared.form.Form.TheVariants.{Seconds}
use Rattle.st_words.specs.declared.job.FromKind.TheVariants as from
use Rattle.st_words.specs.declared.job.ToKind.TheVariants as to
use Rattle.st_words.specs.declared.job.Work.TheVariants.{Batch}
use Rattle.st_answers.specs.Answer.{ForwardGives}
use Rattle.st_answers.proofs.Sides.{back-ready}
use Rattle.st_answers.proofs.answer.way_back.Goals as goal

pub forward-requires : goal.forward-requires
forward-requires c =
    let b = back-ready c.args.job.now c.requires.ready c.requires.back in
    record { source = b.source; target = b.target; clock = b.clock; known = b.known; back = λ e. absurd (false≢true e) }

pub returns-clause-ok : goal.returns-clause-ok
returns-clause-ok c =
    let P : List ℕ → Type 0 = λ s. IfOk c.forward.result (λ said. ForwardGives (record {
      setup = s;
      from = Tdb;
      form = from.Time Seconds;
      to = Sclk;
      shape = to.Clock;
      clock = c.args.job.now.clock;
      work = Batch;
      back = false;
    }) c.args.kernels.now.loaded c.args.text.now (Ok said)) in
    subst P c.new.ensures c.forward.ensures.ok
