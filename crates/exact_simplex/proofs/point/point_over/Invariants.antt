use Rattle.exact_simplex.proofs.PointSteps.{PointSoFar}
use Rattle.exact_simplex.proofs.point.point_over.Given as goal

abbrev pub invariant-loop-j : goal.invariant-loop-j
invariant-loop-j l = PointSoFar l.steps l.low l.whole.items l.part.items l.den l.j
