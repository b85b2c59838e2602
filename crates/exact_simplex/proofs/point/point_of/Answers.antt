use Rattle.exact_simplex.proofs.PointSteps.{no_point}
use Rattle.exact_simplex.proofs.point.point_of.Goals as goal

pub returns-in_default-clause-none : goal.returns-in_default-clause-none
returns-in_default-clause-none c = no_point c.args.bounds.now c.args.at.now c.in_ok-steps.steps.items c.in_ok-steps.ensures.size c.in_ok-steps.ensures.steps (rw c.as_slice.ensures.value at c.in_default.ensures.none)
