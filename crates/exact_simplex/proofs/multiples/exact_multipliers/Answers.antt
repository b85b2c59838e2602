use Rattle.exact_simplex.proofs.MultiplierSteps.{no_common, no_nums}
use Rattle.exact_simplex.proofs.multiples.exact_multipliers.Goals as goal

pub returns-in_default-clause-none : goal.returns-in_default-clause-none
returns-in_default-clause-none c = no_common c.args.weights.now c.in_default.ensures.none

pub returns-in_default-2-clause-none : goal.returns-in_default-2-clause-none
returns-in_default-2-clause-none c = no_nums c.args.weights.now c.in-Some.den c.in-Some.ensures.den (rw c.in_default-2.is at c.in_ok-nums.ensures.none)
