-- Jobs whose lines can be answered: the kinds are kinds of the systems, each side that is a clock has its clock, and a way back
-- is one.
use Rattle.std.specs.Prelude.{◌≡◌, ℕ, true, Some}
use Rattle.st_words.specs.Job.{IsClock, IsSource, IsTarget, IsWayBack}
use Rattle.st_words.specs.declared.job.Job.{Job}
use Rattle.st_answers.specs.Sides.{has_clock}

pub record IsReady (job : Job) : Type 0 where
  pub source : IsSource job.from job.form
  pub target : IsTarget job.to job.shape
  pub clock : IsClock job.clock
  pub known : has_clock job ≡ true → (n : ℕ) × (job.clock ≡ Some n)
  pub back : job.back ≡ true → IsWayBack job
