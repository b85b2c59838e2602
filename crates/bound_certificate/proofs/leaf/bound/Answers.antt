use Rattle.bound_certificate.proofs.RuleFacts.{multipliers_range}
use Rattle.bound_certificate.proofs.leaf.bound.Goals as goal

pub rounded-requires-clause-den : goal.rounded-requires-clause-den
rounded-requires-clause-den c = (multipliers_range c.args.y.now).den_above_none

pub weighted_sum-requires-clause-scale : goal.weighted_sum-requires-clause-scale
weighted_sum-requires-clause-scale c = (multipliers_range c.args.y.now).den_most
