use Rattle.std.proofs.Common.{◌<◌, sym, subst, All, AllPairs, List}
use Rattle.bound_certificate.specs.declared.multipliers.Top.{Top}
use Rattle.bound_certificate.specs.Rising.{TopInRange}
use Rattle.bound_certificate.proofs.RuleFacts.{multipliers_range}
use Rattle.bound_certificate.proofs.leaf.weighted_sum.Goals as goal

pub total-requires-clause-nums : goal.total-requires-clause-nums
total-requires-clause-nums c = subst (λ (ts : List Top). All TopInRange ts) (sym c.as_slice.ensures.items) (multipliers_range c.args.y.now).nums

pub total-requires-clause-rising : goal.total-requires-clause-rising
total-requires-clause-rising c = subst (λ (ts : List Top). AllPairs (λ (s : Top) (t : Top). s.row < t.row) ts) (sym c.as_slice.ensures.items) (multipliers_range c.args.y.now).rising
