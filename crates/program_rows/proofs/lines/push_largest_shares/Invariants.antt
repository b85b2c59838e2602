use Rattle.std.proofs.Common.{◌≡◌, ◌++◌, take, cond, []}
use Rattle.std.specs.Prelude.{map}
use Rattle.program_rows.specs.Reach.{reach_shares}
use Rattle.program_rows.specs.Sums.{share_line}
use Rattle.program_rows.proofs.lines.push_largest_shares.Given as goal

abbrev pub invariant-loop-board : goal.invariant-loop-board
invariant-loop-board l = l.rows.items ≡ l.initial.rows.items ++ map (share_line l.case l.classes l.columns l.reach.reservation) (take l.board-index (cond (reach_shares l.case l.reach) l.reach.boards []))
