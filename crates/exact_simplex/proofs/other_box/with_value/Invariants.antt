use Rattle.std.proofs.Common.{drop}
use Rattle.exact_simplex.proofs.CopyFacts.{CopyUpTo}
use Rattle.exact_simplex.proofs.other_box.with_value.Given as goal

abbrev pub invariant-loop-cell : goal.invariant-loop-cell
invariant-loop-cell l = CopyUpTo l.row l.fn.value l.kept.items (drop l.cell-index l.factors)
