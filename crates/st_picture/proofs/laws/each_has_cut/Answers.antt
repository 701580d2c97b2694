use Rattle.st_picture.proofs.Cuts.{each_has_cut}
use Rattle.st_picture.proofs.laws.each_has_cut.Goals as goal

pub returns : goal.returns
returns c = each_has_cut
