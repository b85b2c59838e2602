use Rattle.std.proofs.Common.{arith}
use Rattle.steady_plans.proofs.local.local_cost.Goals as goal

pub returns-clause-cost : goal.returns-clause-cost
returns-clause-cost c = λ a are. omega (arith, c.terms.ensures.cost a are, c.rack_part.ensures.cost a are)
