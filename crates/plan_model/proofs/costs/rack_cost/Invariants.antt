use Rattle.std.proofs.Common.{◌≡◌, ◌≤◌, ◌+◌, ◌*◌, take}
use Rattle.std.specs.Prelude.{sum_by}
use Rattle.plan_model.specs.Costs.{region_cost, rack_excess}
use Rattle.plan_model.proofs.costs.rack_cost.Given as goal

abbrev pub invariant-loop-r : goal.invariant-loop-r
invariant-loop-r l =
    (l.sum ≡ region_cost l.case l.a + sum_by (rack_excess l.case l.a) (take l.r-index l.r-items))
    × (l.sum ≤ 128200000000000 + 200000000000 * l.r-index)
