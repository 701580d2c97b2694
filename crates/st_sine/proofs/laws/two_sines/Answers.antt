use Rattle.st_sine.proofs.Eccentric.{has_anomaly_sine}
use Rattle.st_sine.proofs.laws.two_sines.Goals as goal

pub returns : goal.returns
returns c = has_anomaly_sine
