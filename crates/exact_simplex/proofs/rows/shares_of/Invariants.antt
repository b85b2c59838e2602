use Rattle.std.proofs.Common.{drop}
use Rattle.exact_simplex.proofs.MergeFacts.{SharesUpTo}
use Rattle.exact_simplex.proofs.rows.shares_of.Given as goal

abbrev pub invariant-loop-cell : goal.invariant-loop-cell
invariant-loop-cell l = SharesUpTo l.row l.column l.pivot l.shares.items (drop l.cell-index l.kept)
