use Rattle.std.proofs.Common.{◌≡◌, ◌≤◌, take}
use Rattle.std.specs.Prelude.{sum}
use Rattle.plan_model.specs.Costs.{excess}
use Rattle.plan_model.proofs.costs.excess_over.Given as goal

abbrev pub invariant-loop-amount : goal.invariant-loop-amount
invariant-loop-amount l =
    (l.over ≡ excess l.limit (take l.amount-index l.amounts)) × (l.over ≤ sum (take l.amount-index l.amounts))
