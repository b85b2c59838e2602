use Rattle.exact_simplex.proofs.RoundingSteps.{IsRoundedSoFar}
use Rattle.exact_simplex.proofs.multiples.rounded.Given as goal

abbrev pub invariant-loop-bit : goal.invariant-loop-bit
invariant-loop-bit l = IsRoundedSoFar l.top l.den l.bit l.num l.rest
