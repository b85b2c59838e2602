use Rattle.steady_plans.proofs.Nearby.{steady-least}
use Rattle.steady_plans.proofs.laws.steady_is_least_nearby.Goals as goal

pub returns : goal.returns
returns c = steady-least
