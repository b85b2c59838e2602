use Rattle.std.proofs.Common.{◌≡◌, ◌++◌, take}
use Rattle.std.specs.Prelude.{map}
use Rattle.program_rows.specs.Reach.{reach_excess}
use Rattle.program_rows.specs.Sums.{over_line}
use Rattle.program_rows.proofs.lines.push_board_overs.Given as goal

abbrev pub invariant-loop-board : goal.invariant-loop-board
invariant-loop-board l = l.rows.items ≡ l.initial.rows.items ++ map (over_line l.case l.classes l.columns l.reach.reservation) (take l.board-index (reach_excess l.case l.reach))
