use Rattle.st_picture.proofs.DefaultLaws.{seconds_texts}
use Rattle.st_picture.proofs.laws.seconds_texts.Goals as goal

pub returns : goal.returns
returns c = seconds_texts
