use Rattle.std.proofs.Common.{arith}
use Rattle.plan_model.proofs.NumberLemmas.{greatest-map-range_more}
use Rattle.plan_model.specs.Units.{units_on_board}
use Rattle.class_expand.proofs.counting.largest_on_board.Goals as goal

pub loop-board-preserved : goal.loop-board-preserved
loop-board-preserved c =
    let more = greatest-map-range_more (units_on_board c.args.case.now c.args.a.now c.args.r) c.loop-board.board in
    omega (arith, more, c.loop-board.invariant, c.on_board.ensures.units, c.max-largest.ensures)
