use Rattle.std.proofs.Common.{◌≡◌, ◌≤◌, ◌*◌}
use Rattle.plan_model.specs.Costs.{excess}
use Rattle.steady_plans.specs.Tables.{column}
use Rattle.steady_plans.proofs.local.excess.Given as goal

abbrev pub invariant-loop-part : goal.invariant-loop-part
invariant-loop-part l = (l.over ≡ excess l.limit (column l.cells l.r l.part)) × (l.over ≤ 20000000 * l.part)
