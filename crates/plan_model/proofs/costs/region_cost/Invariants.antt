use Rattle.std.proofs.Common.{◌≡◌, ◌≤◌, ◌*◌, ◌+◌}
use Rattle.std.specs.Prelude.{sum_by}
use Rattle.std.specs.List.{range_with_len}
use Rattle.plan_model.specs.Units.{servers_with_places}
use Rattle.plan_model.specs.Costs.{move_cost, terms_cost}
use Rattle.plan_model.proofs.costs.region_cost.Given as goal

abbrev pub invariant-loop-r : goal.invariant-loop-r
invariant-loop-r l =
    (l.sum ≡ sum_by (move_cost l.case.moves) (servers_with_places l.case l.a) + sum_by (terms_cost l.case l.a) (range_with_len 0 l.r))
    × (l.sum ≤ 200000000 + 2000000000000 * l.r)
