use Rattle.std.proofs.Common.{◌+◌, length}
use Rattle.exact_simplex.proofs.MergeFacts.{RowUpTo}
use Rattle.exact_simplex.proofs.rows.row_after.Given as goal

abbrev pub invariant-loop-place : goal.invariant-loop-place
invariant-loop-place l = RowUpTo l.row l.shares l.column l.pivot l.left l.right l.new.items

abbrev pub decreases-loop-place : goal.decreases-loop-place
decreases-loop-place l = length l.left + length l.right
