use Rattle.st_scales.proofs.Routes.{route_agrees, route_known, route_exact}
use Rattle.st_scales.proofs.laws.one_value.Goals as goal

pub returns-clause-agrees : goal.returns-clause-agrees
returns-clause-agrees c = route_agrees

pub returns-clause-known : goal.returns-clause-known
returns-clause-known c = route_known

pub returns-clause-exact : goal.returns-clause-exact
returns-clause-exact c = route_exact
