use Rattle.std.proofs.Common.{◌≡◌, ◌≤◌, ◌*◌, take}
use Rattle.std.specs.Prelude.{sum_by}
use Rattle.steady_plans.specs.Tables.{shortage_by}
use Rattle.steady_plans.proofs.local.shortages.Given as goal

abbrev pub invariant-loop-goal : goal.invariant-loop-goal
invariant-loop-goal l =
    (l.sum ≡ sum_by (shortage_by l.cells l.r) (take l.goal-index l.goal-items)) × (l.sum ≤ 100000000000 * l.goal-index)
