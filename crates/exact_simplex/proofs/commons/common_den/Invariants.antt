use Rattle.exact_simplex.specs.Commons.{IsLeastOver}
use Rattle.exact_simplex.proofs.commons.common_den.Given as goal

abbrev pub invariant-loop-number : goal.invariant-loop-number
invariant-loop-number l = IsLeastOver l.number-index l.numbers l.den
