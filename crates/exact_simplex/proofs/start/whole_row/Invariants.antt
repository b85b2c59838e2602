use Rattle.exact_simplex.proofs.Pushes.{WholeUpTo}
use Rattle.exact_simplex.proofs.start.whole_row.Given as goal

abbrev pub invariant-loop-k : goal.invariant-loop-k
invariant-loop-k l = WholeUpTo l.value l.slopes l.kept.items l.k
