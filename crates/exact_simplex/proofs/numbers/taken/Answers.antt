use Rattle.exact_simplex.proofs.CellSteps.{nothing_taken}
use Rattle.exact_simplex.proofs.FitFacts.{nothing_fits, taken_when}
use Rattle.exact_simplex.proofs.numbers.taken.Goals as goal

pub returns-then-is_none-clause-cell : goal.returns-then-is_none-clause-cell
returns-then-is_none-clause-cell c = nothing_taken c.args.old c.args.factor c.args.share (c.is_none.ensures.0 c.if-is_none.true) (nothing_fits c.args.old c.args.factor c.args.share (c.is_none.ensures.0 c.if-is_none.true))

pub returns-clause-cell : goal.returns-clause-cell
returns-clause-cell c = taken_when c.sub.result c.args.old c.args.factor c.args.share c.in-Some.change (rw c.in-Some.is at c.mul.ensures.value) (rw c.in-Some.is at c.mul.ensures.fits) c.sub.ensures.value c.sub.ensures.fits
