use Rattle.std.proofs.Common.{◌≡◌, ◌≤◌}
use Rattle.plan_model.specs.Costs.{greatest}
use Rattle.steady_plans.specs.Tables.{column}
use Rattle.steady_plans.proofs.local.largest.Given as goal

abbrev pub invariant-loop-part : goal.invariant-loop-part
invariant-loop-part l = (l.largest ≡ greatest (column l.cells l.r l.part)) × (l.largest ≤ 20000000)
