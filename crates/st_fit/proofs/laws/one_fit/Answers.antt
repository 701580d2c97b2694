use Rattle.st_fit.proofs.Uniques.{fit_is_one}
use Rattle.st_fit.proofs.Finding.{fit_found}
use Rattle.st_fit.proofs.laws.one_fit.Goals as goal

pub returns : goal.returns
returns c = record { one = fit_is_one; found = fit_found }
