use Rattle.std.proofs.Common.{◌≡◌}
use Rattle.std.specs.Prelude.{map}
use Rattle.std.specs.List.{range_with_len}
use Rattle.plan_model.specs.Costs.{greatest}
use Rattle.plan_model.specs.Units.{units_on_board}
use Rattle.class_expand.proofs.counting.largest_on_board.Given as goal

abbrev pub invariant-loop-board : goal.invariant-loop-board
invariant-loop-board l = l.largest ≡ greatest (map (units_on_board l.case l.a l.r) (range_with_len 0 l.board))
