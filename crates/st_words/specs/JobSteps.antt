-- What the tests of the rules leave to be made.
use Rattle.std.specs.Prelude.{◌≡◌, true, Some}
use Rattle.st_dates.specs.declared.system.System.{System}
use Rattle.st_words.specs.Cut.{has}
use Rattle.st_words.specs.Job.{IsShape, IsWork}
use Rattle.st_words.specs.Rules.{AreKept, rules}
use Rattle.st_words.specs.RulesMachine.{work_of}
use Rattle.st_words.specs.declared.job.ToKind.{ToKind}
use Rattle.st_words.specs.declared.opt.Opt.TheVariants.{Setup, From}
use Rattle.st_words.specs.declared.options.Options.{Options}

-- the options break no rule, and ask for a target that is written so
pub record Keeps (o : Options) (shape : ToKind) : Type 0 where
  pub kept : AreKept o rules
  pub system : System
  pub to : o.to ≡ Some system
  pub written : IsShape o system shape
  pub setup : has o Setup ≡ true
  pub from : has o From ≡ true
  pub work : IsWork o (work_of o.time o.sample)
