-- Of a run that answered all its lines each covered tick's line has its answer in its place.
use Rattle.std.proofs.Common.{◌≡◌, List, [], ◌∷◌, ◌++◌, ℕ, refl, ap, subst}
use Rattle.st_batch.specs.declared.answer.Answer.{Answer}
use Rattle.st_batch.specs.declared.status.Status.{Status}
use Rattle.st_batch.specs.Outcome.{AllAnswered, Outside, over}
use Rattle.st_batch.specs.Returns.{AnsweredAt, CoveredOutputReturns, TdbOutputReturns}
use Rattle.st_batch.specs.Session.{RunsTo}
use Rattle.st_batch.specs.Setting.{Loaded, Setting}
use Rattle.st_words.specs.declared.job.Job.{Job}
use Rattle.st_batch.proofs.ClockLines.{covered-line-returns, tdb-line-returns}

-- each line of a run has its answer in its place
answered-at : (s : Setting) (loaded after : Loaded) (before more : List (List ℕ)) (line : List ℕ) (answers : List Answer)
    → RunsTo s loaded (before ++ (line ∷ more)) answers after → AnsweredAt s loaded before line answers
answered-at s loaded after [] more line [] h = absurd h
answered-at s loaded after [] more line (a ∷ answers) (next, may, rest) =
    record { reached = loaded; next = next; earlier = []; answer = a; later = answers; among = refl; led = refl; given = may }
answered-at s loaded after (b ∷ before) more line [] h = absurd h
answered-at s loaded after (b ∷ before) more line (a ∷ answers) (next, may, rest) =
    let at = answered-at s next after before more line answers rest in
    record {
      reached = at.reached;
      next = at.next;
      earlier = a ∷ at.earlier;
      answer = at.answer;
      later = at.later;
      among = ap (λ (l : List Answer). a ∷ l) at.among;
      led = (next, may, at.led);
      given = at.given;
    }

in-output : (o : Outside) (job : Job) (loaded : Loaded) (status : Status) (bytes : List ℕ) (all : AllAnswered o job loaded status bytes)
    (before more : List (List ℕ)) (line : List ℕ) → all.lines ≡ before ++ (line ∷ more) → AnsweredAt (over o job) loaded before line all.answers
in-output o job loaded status bytes all before more line among =
    answered-at (over o job) loaded all.after before more line all.answers
    (subst (λ (lines : List (List ℕ)). RunsTo (over o job) loaded lines all.answers all.after) among all.answered)

pub covered-output-returns : CoveredOutputReturns
covered-output-returns o job loaded status bytes all before more line among =
    let at = in-output o job loaded status bytes all before more line among in (
      at,
      λ there clock k places short read given told.
          ((covered-line-returns (over o job) at.reached at.next line there clock k places at.answer short read given told).0 at.given).1,
    )

pub tdb-output-returns : TdbOutputReturns
tdb-output-returns o job loaded status bytes all before more line among =
    let at = in-output o job loaded status bytes all before more line among in (
      at,
      λ there clock k places short read kept given told.
          ((tdb-line-returns (over o job) at.reached at.next line there clock k places at.answer short read kept given told).0 at.given).1,
    )
