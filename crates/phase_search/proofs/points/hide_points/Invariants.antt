use Rattle.std.proofs.Common.{◌≡◌, ◌++◌, map, take, drop}
use Rattle.plan_checker.specs.Points.{without_point}
use Rattle.phase_search.proofs.points.hide_points.Given as goal

abbrev pub invariant-loop-node : goal.invariant-loop-node
invariant-loop-node l = l.nodes ≡ map without_point (take l.node-index l.initial.nodes) ++ drop l.node-index l.initial.nodes
