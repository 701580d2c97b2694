use Rattle.st_scales.proofs.Routes.{route_near, route_rises, route_loosens}
use Rattle.st_scales.proofs.laws.order.Goals as goal

pub returns-clause-near : goal.returns-clause-near
returns-clause-near c = route_near

pub returns-clause-rises : goal.returns-clause-rises
returns-clause-rises c = route_rises

pub returns-clause-loosens : goal.returns-clause-loosens
returns-clause-loosens c = route_loosens
