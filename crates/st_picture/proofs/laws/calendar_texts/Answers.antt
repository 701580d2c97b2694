use Rattle.st_picture.proofs.DefaultLaws.{calendar_texts}
use Rattle.st_picture.proofs.laws.calendar_texts.Goals as goal

pub returns : goal.returns
returns c = calendar_texts
