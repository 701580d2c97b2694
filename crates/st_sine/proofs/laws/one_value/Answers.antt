use Rattle.st_sine.proofs.OneValue.{anomaly_narrows, anomaly_agrees}
use Rattle.st_sine.proofs.laws.one_value.Goals as goal

pub returns-clause-narrows : goal.returns-clause-narrows
returns-clause-narrows c = anomaly_narrows

pub returns-clause-agrees : goal.returns-clause-agrees
returns-clause-agrees c = anomaly_agrees
