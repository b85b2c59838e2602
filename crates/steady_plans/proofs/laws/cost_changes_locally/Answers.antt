use Rattle.steady_plans.proofs.Costs.{cost-changes}
use Rattle.steady_plans.proofs.laws.cost_changes_locally.Goals as goal

pub returns : goal.returns
returns c = cost-changes
