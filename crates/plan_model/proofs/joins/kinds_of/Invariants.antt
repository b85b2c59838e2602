use Rattle.std.proofs.Common.{◌≡◌, take}
use Rattle.ras_requests.specs.RequestsRule.{kind_names}
use Rattle.plan_model.proofs.joins.kinds_of.Given as goal

abbrev pub invariant-loop-value : goal.invariant-loop-value
invariant-loop-value l = l.kinds ≡ kind_names (take l.value-index l.values)
