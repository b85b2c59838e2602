use Rattle.std.proofs.Common.{◌≡◌, take}
use Rattle.plan_model.specs.Costs.{greatest}
use Rattle.plan_model.proofs.costs.largest_of.Given as goal

abbrev pub invariant-loop-amount : goal.invariant-loop-amount
invariant-loop-amount l = l.largest ≡ greatest (take l.amount-index l.amounts)
