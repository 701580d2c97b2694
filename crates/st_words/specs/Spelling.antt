-- The jobs whose texts can stand among words.
use Rattle.std.specs.Prelude.{⊤}
use Rattle.st_picture.specs.Mark.{spelled}
use Rattle.st_words.specs.OptionWords.{IsPlain}
use Rattle.st_words.specs.declared.job.Job.{Job}
use Rattle.st_words.specs.declared.job.ToKind.{ToKind}
use Rattle.st_words.specs.declared.job.ToKind.TheVariants.{Pictured}
use Rattle.st_words.specs.declared.job.Work.{Work}
use Rattle.st_words.specs.declared.job.Work.TheVariants.{Time}

-- the texts of the shape and of the work name no option
abbrev pub IsPlainShape : ToKind → Type 0
IsPlainShape (Pictured picture) = IsPlain (spelled picture.pieces)
IsPlainShape shape = ⊤

abbrev pub IsPlainWork : Work → Type 0
IsPlainWork (Time text) = IsPlain text
IsPlainWork work = ⊤

-- none of the job's texts names an option
pub record CanBeSpelled (job : Job) : Type 0 where
  pub setup : IsPlain job.setup
  pub shape : IsPlainShape job.shape
  pub work : IsPlainWork job.work
