use Rattle.closed_boxes.specs.Weighing.{Weighs}
use Rattle.closed_boxes.proofs.boxes.duals_of.Given as goal

abbrev pub invariant-loop-row : goal.invariant-loop-row
invariant-loop-row l = Weighs l.program l.point l.row l.tops.items l.left.items
