-- Answers to some first lines go on to answers to all lines.
use Rattle.std.proofs.Common.{◌≡◌, ◌≢◌, ℕ, cond, count_by, List, [], ◌∷◌, ◌++◌, refl, sym, ap, ◌∙◌, arith, append_assoc}
use Rattle.std.proofs.lemmas.List.Sums.{sum_by-cons}
use Rattle.st_answers.specs.Ready.{IsReady}
use Rattle.st_batch.specs.declared.answer.Answer.{Answer}
use Rattle.st_batch.specs.declared.answer.Answer.TheVariants.{Text, Refused}
use Rattle.st_refusals.specs.declared.fault.LineFault.{LineFault}
use Rattle.st_refusals.specs.declared.fault.LineFault.TheVariants as line
use Rattle.st_refusals.specs.Causes.{FileCause, Faulty}
use Rattle.st_refusals.proofs.RefusalLaws.{faulty-is-file-fault}
use Rattle.st_batch.specs.Causes.{answer_cause, has_cause, is_same_cause}
use Rattle.st_batch.specs.Laws.{EveryBeginningGoesOn}
use Rattle.st_batch.specs.Session.{MayAnswer, RunsTo}
use Rattle.st_batch.specs.Setting.{Loaded, Setting}
use Rattle.st_batch.proofs.LineLaws.{some-answer}
use Rattle.st_batch.proofs.LinesLaws.{runs-join}

-- an answer that names no fault counts for nothing
faulty-refused : (answer : Answer) → answer_cause answer ≡ Faulty → answer ≡ Refused line.FileFault
faulty-refused (Text said) e = absurd cc
faulty-refused (Refused fault) e = ap (λ (f : LineFault). Refused f) (faulty-is-file-fault fault e)

counts-by : (answer : Answer) (cause : FileCause) → answer_cause answer ≡ cause → answer ≢ Refused line.FileFault → ◌≡◌ {A = ℕ} (cond (is_same_cause Faulty cause) 1 0) 0
counts-by answer Faulty e not = absurd (not (faulty-refused answer e))
counts-by answer other e not = refl

pub counts-none : (answer : Answer) → answer ≢ Refused line.FileFault → ◌≡◌ {A = ℕ} (cond (has_cause Faulty answer) 1 0) 0
counts-none answer not = counts-by answer (answer_cause answer) refl not

-- lines have answers that name no fault
record SomeRun (s : Setting) (loaded : Loaded) (lines : List (List ℕ)) : Type 0 where
  answers : List Answer
  last : Loaded
  runs : RunsTo s loaded lines answers last
  none : count_by (has_cause Faulty) answers ≡ 0

some-run : (s : Setting) (loaded : Loaded) (lines : List (List ℕ)) → IsReady s.job → SomeRun s loaded lines
some-run s loaded [] ready = record { answers = []; last = loaded; runs = refl; none = refl }
some-run s loaded (line ∷ lines) ready =
    let a = some-answer s loaded line ready in
    let r = some-run s a.1.0 lines ready in
    record {
      answers = a.0 ∷ r.answers;
      last = r.last;
      runs = (a.1.0, a.1.1, r.runs);
      none = omega (arith, sum_by-cons (λ x. cond (has_cause Faulty x) 1 0) a.0 r.answers, counts-none a.0 a.1.2, r.none);
    }

pub goes-on : EveryBeginningGoesOn
goes-on s loaded after lines more answers ready h =
    let r = some-run s after more ready in
    (r.answers, (r.last, runs-join s loaded after r.last lines more answers r.answers h r.runs, r.none))
